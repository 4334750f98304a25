-- Which replies leave their connection open for another exchange.
-- RFC 9112, section 9.3. That a `Connection` header has to say `keep-alive` alone is this project's own: one with other words is taken for `close`.
use Rattle.std.specs.Prelude.{◌≡◌, ◌-◌, ℕ, Bool, true, ◌||◌, not, List, length, map, codes}
use Rattle.std.specs.List.{list_all}
use Rattle.httparse.specs.Grammar.{ReadsResponse, ResponseHead}
use Rattle.httparse.specs.Spans.{name_and_value}
use Rattle.couch_http.specs.Fields.{same_name}
use Rattle.sync.specs.declared.answer.Answer.{Answer}
use Rattle.sync.specs.declared.answer.Answer.TheVariants.{Reply, Lost, Unreadable}

-- a header, by its name and its value, leaves the connection open
abbrev pub leaves_open : List ℕ × List ℕ → Bool
leaves_open header = not (same_name header.0 (codes "Connection")) || same_name header.1 (codes "keep-alive")

-- these bytes begin with the head of a reply of version 1.1, whose headers leave the connection open
abbrev pub IsPersistent : List ℕ → Type 0
IsPersistent bytes =
    (head : ResponseHead) × (rest : List ℕ) × ReadsResponse bytes head rest × (head.minor ≡ 1) × (list_all leaves_open (map name_and_value head.fields) ≡ true)

-- how many of the bytes that were read came behind the reply
abbrev pub surplus_of : Answer → ℕ → ℕ
surplus_of Lost read = 0
surplus_of Unreadable read = 0
surplus_of (Reply reply) read = read - length reply.bytes

-- another exchange can be made over the connection: the reply is all that was read, and its head leaves the connection open
abbrev pub LeavesOpen : Answer → ℕ → Type 0
LeavesOpen Lost read = ⊥
LeavesOpen Unreadable read = ⊥
LeavesOpen (Reply reply) read = (read ≡ length reply.bytes) × IsPersistent reply.bytes
