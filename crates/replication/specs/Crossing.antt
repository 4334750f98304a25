-- Two databases and two passes between them, one each way, and what happens from one turn to the next.
-- CouchDB manual, replication/protocol. That a turn appends only what the pass's documents say is this project's own way to say that nobody else writes.
use Rattle.std.specs.Prelude.{◌≡◌, ◌≤◌, ℕ, List, [], ◌∷◌, IfSome, Ok, ⊤}
use Rattle.std.specs.List.{AllByRecursion}
use Rattle.couch_json.specs.Value.{Value}
use Rattle.store.specs.Database.{Database}
use Rattle.repl.specs.Configuration.{PassConfiguration}
use Rattle.repl.specs.Passes.{Pass, first_of_pending, first_pass}
use Rattle.repl.specs.Replies.{Opened, documents_of_opened, revisions_opened}
use Rattle.repl.specs.Turns.{Turn, after_turn, answered, lost}
use Rattle.repl.specs.declared.phase.Phase.{Phase}
use Rattle.repl.specs.declared.phase.Phase.TheVariants.{Open, Push}
use Rattle.passes.specs.Owed.{SaysTruth, Scene, listed_after}
use Rattle.replication.specs.Appended.{Appends, IsShownBy, KeepsDocuments}

-- ---- a turn of one pass

-- the documents that a pass pushes in a phase
abbrev pub pushed_in : Phase → Pass → List Value
pushed_in Push p = p.documents
pushed_in phase p = []

-- the documents in a reply to opened revisions are shown by this database
abbrev pub OpensShown : Database → Pass → ℕ → List ℕ → Type 0
OpensShown db p status body =
    (opened : List Opened) → revisions_opened status body ≡ Ok opened → AllByRecursion (IsShownBy db (first_of_pending p.pending).id) (documents_of_opened opened)

-- where a pass takes documents in, its source shows them
abbrev pub BringsShown : Phase → Pass → Database → Turn → Type 0
BringsShown phase p db lost = ⊤
BringsShown Open p db (answered status body) = OpensShown db p status body
BringsShown phase p db (answered status body) = ⊤

-- A turn of a pass. A push appends to the target what its documents say, or some of it, or nothing, whether the reply comes back or
-- not; no other turn writes a document at either side. The reply is true, and the documents that come are the source's.
pub record IsTurn (t : Turn) (old new : Scene) : Type 0 where
  pub source : KeepsDocuments old.source new.source
  pub target : Appends (pushed_in old.pass.phase old.pass) old.target new.target
  pub pass : new.pass ≡ after_turn old.pass t
  pub listed : new.listed ≡ listed_after old.pass.phase old.source old.listed t
  pub truth : SaysTruth old new t
  pub shown : BringsShown old.pass.phase old.pass old.source t

-- ---- two passes

-- two databases, a pass from the one to the other and a pass back, and each database as it was when its pass listed it last
pub record PairState : Type 0 where
  pub one : Database
  pub other : Database
  pub there : Pass
  pub back : Pass
  pub one_listed : Database
  pub other_listed : Database

-- the scene of the pass from the one to the other
abbrev pub there_of : PairState → Scene
there_of c = record { source = c.one; target = c.other; listed = c.one_listed; pass = c.there }

-- the scene of the pass back
abbrev pub back_of : PairState → Scene
back_of c = record { source = c.other; target = c.one; listed = c.other_listed; pass = c.back }

-- one of the passes has a turn, or others do what writes no document
pub data Move : Type 0 where
  others : Move
  goes_there : Turn → Move
  goes_back : Turn → Move

-- the pass of a scene waits: it is as it was, and so is what it listed
abbrev pub Waits : Scene → Scene → Type 0
Waits old new = (new.pass ≡ old.pass) × (new.listed ≡ old.listed)

-- what a move makes of the two databases and the passes
abbrev pub MovesPairs : Move → PairState → PairState → Type 0
MovesPairs others old new =
    KeepsDocuments old.one new.one × KeepsDocuments old.other new.other × Waits (there_of old) (there_of new) × Waits (back_of old) (back_of new)
MovesPairs (goes_there t) old new = IsTurn t (there_of old) (there_of new) × Waits (back_of old) (back_of new)
MovesPairs (goes_back t) old new = IsTurn t (back_of old) (back_of new) × Waits (there_of old) (there_of new)

-- moves one after another, in whatever order the two passes have their turns
abbrev pub Crosses : List Move → PairState → PairState → Type 0
Crosses [] old new = new ≡ old
Crosses (m ∷ ms) old new = (between : PairState) × MovesPairs m old between × Crosses ms between new

-- a batch has one document at least
abbrev pub HasBatch : PassConfiguration → Type 0
HasBatch c = IfSome c.batch (λ size. 1 ≤ size)

-- two passes of these configurations went from their beginnings through these moves to where they stand now
pub record Crossed (c d : PassConfiguration) (ms : List Move) (now : PairState) : Type 0 where
  pub first : PairState
  pub there : first.there ≡ first_pass c
  pub back : first.back ≡ first_pass d
  pub one_listed : first.one_listed ≡ first.one
  pub other_listed : first.other_listed ≡ first.other
  pub there_batch : HasBatch c
  pub back_batch : HasBatch d
  pub crosses : Crosses ms first now
