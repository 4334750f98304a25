-- The turns of a pass between two sides, each a node or a server.
-- CouchDB manual, replication/protocol; that a reply may be lost is this project's own.
use Rattle.std.specs.Prelude.{◌≡◌, ◌⊎◌, ⊤, Option, Some, None}
use Rattle.couch_http.specs.Message.{Message}
use Rattle.repl.specs.Passes.{Asked, Pass, answered_of, asked_of, done, lost_of, stopped_by, to_source, to_target, unreadable_of}
use Rattle.sync.specs.declared.answer.Answer.{Answer}
use Rattle.sync.specs.declared.answer.Answer.TheVariants.{Reply, Lost, Unreadable}

-- how a side may answer: what it was, a request, what came of it, and what it is then
abbrev pub Answering : Type 0 → Type 1
Answering S = S → Message → Answer → S → Type 0

-- what a side may be where memory ran out as it was asked: what it was, a request, and what it is then
abbrev pub Breaking : Type 0 → Type 1
Breaking S = S → Message → S → Type 0

-- two sides, and where the pass between them stands
pub record Between (F T : Type 0) : Type 0 where
  pub source : F
  pub target : T
  pub pass : Pass

-- an answer is taken in: a reply, its loss, or that it can't be read
abbrev pub pass_with_answer : Pass → Answer → Pass
pass_with_answer p (Reply reply) = answered_of p reply.status reply.body
pass_with_answer p Lost = lost_of p
pass_with_answer p Unreadable = unreadable_of p

-- what the pass asks is answered so by the side that it asks, and the other side stays as it is
abbrev pub IsAnswered : {F T : Type 0} → Answering F → Answering T → Between F T → Asked → Answer → Between F T → Type 0
IsAnswered source target before (to_source m) answer after = source before.source m answer after.source × (after.target ≡ before.target)
IsAnswered source target before (to_target m) answer after = target before.target m answer after.target × (after.source ≡ before.source)
IsAnswered source target before (done s) answer after = ⊥
IsAnswered source target before (stopped_by why s) answer after = ⊥

-- memory ran out as the side was asked that the pass asks, and the other side stays as it is
abbrev pub IsBrokenOff : {F T : Type 0} → Breaking F → Breaking T → Between F T → Asked → Between F T → Type 0
IsBrokenOff source target before (to_source m) after = source before.source m after.source × (after.target ≡ before.target)
IsBrokenOff source target before (to_target m) after = target before.target m after.target × (after.source ≡ before.source)
IsBrokenOff source target before (done s) after = ⊥
IsBrokenOff source target before (stopped_by why s) after = ⊥

-- the pass asks for nothing more
abbrev pub IsEnd : Asked → Type 0
IsEnd (to_source m) = ⊥
IsEnd (to_target m) = ⊥
IsEnd (done s) = ⊤
IsEnd (stopped_by why s) = ⊤

-- the pass has its turn: what it asks is answered, and it takes that in; or it says that it has ended
abbrev pub HasTurn : {F T : Type 0} → Answering F → Answering T → Between F T → Option Asked → Between F T → Type 0
HasTurn source target before None after =
    (answer : Answer) × IsAnswered source target before (asked_of before.pass) answer after × (after.pass ≡ pass_with_answer before.pass answer)
HasTurn source target before (Some asked) after = (asked ≡ asked_of before.pass) × IsEnd asked × (after ≡ before)

-- the turn broke off: nothing happened, or the side was asked what the pass asked and memory ran out, or it answered; the pass stands where it stood
abbrev pub BreaksOff : {F T : Type 0} → Answering F → Breaking F → Answering T → Breaking T → Between F T → Between F T → Type 0
BreaksOff source source_breaks target target_breaks before after =
    (after ≡ before)
    ⊎ ((after.pass ≡ before.pass)
    × (IsBrokenOff source_breaks target_breaks before (asked_of before.pass) after ⊎ ((answer : Answer) × IsAnswered source target before (asked_of before.pass) answer after)))

-- where memory ran out a side is as it was, or memory ran out as it was asked, or it answered something
abbrev pub MayBreakOff : {S : Type 0} → Answering S → Breaking S → S → Message → S → Type 0
MayBreakOff answers breaks before m after = (after ≡ before) ⊎ (breaks before m after ⊎ ((answer : Answer) × answers before m answer after))
