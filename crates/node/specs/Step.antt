-- One step of a node: the reply to a request, and the databases afterwards.
-- RFC 9112, section 4, for the bytes; that a reply of 500 or 503 changes nothing is this server's own.
use Rattle.std.specs.Prelude.{◌≡◌, ◌⊎◌, Bool}
use Rattle.auth.specs.Callers.{Configuration}
use Rattle.couch_http.specs.Message.{Message}
use Rattle.couch_http.specs.Reply.{Reply, reply_of, fixed_reply}
use Rattle.couch_http.specs.declared.fixed.Fixed.TheVariants.{Store, NoRoom}
use Rattle.couch_json.specs.Canonical.{canonical}
use Rattle.couch_json.specs.Lawful.{IsLawful}
use Rattle.store.specs.Contents.{Contents}
use Rattle.node.specs.Answer.{Change, Outcome, answer, with_change}

-- what a node is: a store, and what the server knows of its users
pub record Serving (S : Type 0) : Type 0 where
  pub store : S
  pub configuration : Configuration

-- an outcome as a reply
abbrev pub reply_to : Outcome → Bool → Reply
reply_to outcome last = reply_of outcome.status (canonical outcome.value) last

-- the reply is that to the outcome, whose value is lawful, and the databases are those with its change
abbrev pub IsDone : Outcome → Bool → Contents → Reply → Contents → Type 0
IsDone outcome last before reply after =
    (reply ≡ reply_to outcome last) × (after ≡ with_change outcome.change before) × IsLawful outcome.value

-- The step of a request: the definition's answer; or, with the databases as they were, the reply for want of memory, or the one
-- for a fault of the store, which then has a cause, by the change that the answer makes.
abbrev pub IsStep : Configuration → Contents → Message → (Change → Type 0) → Reply → Contents → Type 0
IsStep c before m cause reply after =
    IsDone (answer c before m) m.last before reply after
    ⊎ (((reply ≡ fixed_reply (NoRoom m.last)) × (after ≡ before))
    ⊎ ((reply ≡ fixed_reply (Store m.last)) × (after ≡ before) × cause (answer c before m).change))
