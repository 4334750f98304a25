-- The information on the database of a pass's source, for which the pass itself doesn't ask.
-- CouchDB manual, api/database/common (`GET /{db}`: `update_seq`).
use Rattle.std.specs.Prelude.{◌≡◌, ◌==◌, ℕ, Bool, false, List, [], ◌++◌, if◌then◌else◌, codes, Option, Some, None, option_and_then}
use Rattle.std.specs.List.{before_first, after_first}
use Rattle.couch_http.specs.Message.{Message}
use Rattle.repl.specs.Calls.{headers_of}
use Rattle.repl.specs.Configuration.{PassConfiguration}
use Rattle.repl.specs.Replies.{value_in}
use Rattle.repl.specs.Shapes.{count_at}
use Rattle.repl.specs.Spelling.{segment}
use Rattle.sync.specs.Sides.{Answering}
use Rattle.sync.specs.declared.answer.Answer.{Answer}
use Rattle.sync.specs.declared.answer.Answer.TheVariants.{Reply, Lost, Unreadable}

-- `/`
abbrev pub is_slash : ℕ → Bool
is_slash b = b == 47

-- what stands in a path between its first slash and the second
abbrev pub first_segment : List ℕ → List ℕ
first_segment path = before_first is_slash (after_first is_slash path)

-- the request for it, as the user of the pass
abbrev pub information_request : PassConfiguration → Message
information_request c = record {
  method = codes "GET";
  path = codes "/" ++ segment c.source_db;
  query = None;
  headers = headers_of c.user;
  body = [];
  last = false;
}

-- the greatest sequence that a reply says the database has; no reply, or one of another status or shape, says none
abbrev pub update_seq_in : Answer → Option ℕ
update_seq_in Lost = None
update_seq_in Unreadable = None
update_seq_in (Reply reply) = if reply.status == 200 then option_and_then (λ v. count_at (codes "update_seq") v) (value_in reply.body) else None

-- the source was asked this, and its reply says that sequence
abbrev pub IsSaid : {S : Type 0} → Answering S → S → Message → Option ℕ → S → Type 0
IsSaid answers before m sequence after = (answer : Answer) × answers before m answer after × (sequence ≡ update_seq_in answer)
