-- What is done to a world, call after call: events are played; and between, connections are opened and closed, and passes are started.
-- This project's own.
use Rattle.std.specs.Prelude.{◌≡◌, ◌<◌, ◌⊎◌, ℕ, true, false, List, [], ◌∷◌, ◌++◌, Some, IsTrue}
use Rattle.tree.specs.History.{is_leaf}
use Rattle.tree.specs.Revision.{Revision, is_revision}
use Rattle.store.specs.Contents.{Contents}
use Rattle.store.specs.Database.{history_at, sequence_at}
use Rattle.node.specs.Runs.{Steps}
use Rattle.hub.specs.Connections.{ConnectionTable}
use Rattle.repl.specs.Configuration.{PassConfiguration}
use Rattle.repl.specs.Passes.{Pass, first_pass}
use Rattle.repl.specs.Turns.{Turn, replies_in, start_by}
use Rattle.repl.specs.declared.phase.Phase.TheVariants.{Done}
use Rattle.passes.specs.Owed.{Covers, has_covered}
use Rattle.passes.specs.Settled.{is_settled}
use Rattle.world.specs.Network.{Network, Transfer, transfer_at}
use Rattle.world.specs.Service.{StepOf, alike}
use Rattle.replication.specs.Finished.{PassBegins, ListsLast, scene_of, source_of, takes_list, target_of}
use Rattle.replication.specs.Parted.{with_pass}
use Rattle.replication.specs.Requests.{DatabasesStay, AreNoRemovals, Handled, requests_of}
use Rattle.replication.specs.Runs.{Run, pass_at, turns_of}

-- Nothing is asked of any node, and the passes that were there are as they were.
pub record IsArranged {S : Type 0} (old new : Network S) : Type 0 where
  pub nodes : new.nodes ≡ old.nodes
  pub passes : (m : ℕ) (t : Transfer) → transfer_at old.transfers m ≡ Some t → transfer_at new.transfers m ≡ Some t

-- events are played, or something is arranged
pub data Stage : Type 0 where
  runs : Stage
  arranges : Stage

-- runs, and what is arranged before, between and after
abbrev pub GoesBy : {S : Type 0} → StepOf S → List Stage → Network S → Network S → Type 0
GoesBy step [] old new = new ≡ old
GoesBy {S} step (runs ∷ ss) old new = (between : Network S) × Run (alike step) old between × GoesBy step ss between new
GoesBy {S} step (arranges ∷ ss) old new = (between : Network S) × IsArranged old between × GoesBy step ss between new

-- such stages, from one network to another
pub record Course {S : Type 0} (step : StepOf S) (old new : Network S) : Type 0 where
  pub stages : List Stage
  pub goes : GoesBy step stages old new

-- ---- turns and requests

-- the turns of the pass of this number in several stages
abbrev pub turns_by : {S : Type 0} (step : StepOf S) (n : ℕ) (ss : List Stage) (old new : Network S) → GoesBy step ss old new → List Turn
turns_by step n [] old new p = []
turns_by step n (runs ∷ ss) old new (between, run, rest) = turns_of run n ++ turns_by step n ss between new rest
turns_by step n (arranges ∷ ss) old new (between, arranged, rest) = turns_by step n ss between new rest

-- the turns that the pass of this number takes in a course, in order
abbrev pub turns_through : {S : Type 0} {step : StepOf S} {old new : Network S} → Course step old new → ℕ → List Turn
turns_through {S} {step} {old} {new} course n = turns_by step n course.stages old new course.goes

-- the requests of several stages
abbrev pub requests_by : {S : Type 0} (step : StepOf S) (ss : List Stage) (old new : Network S) → GoesBy step ss old new → List (Handled S)
requests_by step [] old new p = []
requests_by step (runs ∷ ss) old new (between, run, rest) = requests_of run ++ requests_by step ss between new rest
requests_by step (arranges ∷ ss) old new (between, arranged, rest) = requests_by step ss between new rest

-- the requests that nodes handle in a course, in order
abbrev pub requests_through : {S : Type 0} {step : StepOf S} {old new : Network S} → Course step old new → List (Handled S)
requests_through {S} {step} {old} {new} course = requests_by step course.stages old new course.goes

-- ---- the last list of changes

-- In these stages it is of this network: in one of the runs, and no later run takes one in.
abbrev pub ListsLastBy : {S : Type 0} (step : StepOf S) (n : ℕ) (ss : List Stage) (old new : Network S) → GoesBy step ss old new → Network S → Type 0
ListsLastBy step n [] old new p listed = ⊥
ListsLastBy step n (runs ∷ ss) old new (between, run, rest) listed =
    (ListsLast run n listed × (takes_list (pass_at between.transfers n) (turns_by step n ss between new rest) ≡ false)) ⊎ ListsLastBy step n ss between new rest listed
ListsLastBy step n (arranges ∷ ss) old new (between, arranged, rest) listed = ListsLastBy step n ss between new rest listed

-- in a course the last list of changes that the pass of this number takes in is of this network
abbrev pub ListsLastThrough : {S : Type 0} {step : StepOf S} {old new : Network S} → Course step old new → ℕ → Network S → Type 0
ListsLastThrough {S} {step} {old} {new} course n listed = ListsLastBy step n course.stages old new course.goes listed

-- ---- which calls arrange

-- Opening and closing connections arranges, and so does starting a pass.
pub record CallsArrange (S : Type 0) : Type 0 where
  pub connecting : (old : Network S) (homes : List ℕ) (connections : ConnectionTable) → IsArranged old (record old { homes = homes; connections = connections })
  pub starting : (old : Network S) (t : Transfer) → IsArranged old (with_pass t old)

-- Where nobody asks to remove a database of a pass, both stay there.
abbrev pub CoursesWithoutRemovals : Type 0
CoursesWithoutRemovals = (t : Transfer) (old new : Network Contents) (course : Course Steps old new) → AreNoRemovals t (requests_through course) → DatabasesStay t (requests_through course)

-- ---- what is settled

-- Where a pass writes its checkpoints, or is done, it has settled what it listed in all its rounds: of the source as it was at the last list, and
-- as it is now. That is so at every later event.
abbrev pub RoundsCoverInCourses : Type 0
RoundsCoverInCourses =
    (n : ℕ) (t : Transfer) (start listed now later : Network Contents) (course : Course Steps start now) (more : Course Steps now later) (p q : Pass) → PassBegins n t start
    → DatabasesStay t (requests_through course) → ListsLastThrough course n listed → pass_at now.transfers n ≡ Some p → has_covered p.phase ≡ true
    → DatabasesStay t (requests_through more) → pass_at later.transfers n ≡ Some q
    → Covers (source_of t listed) p.start_seq p.last_seq (scene_of t (source_of t listed) later q) × Covers (source_of t now) p.start_seq p.last_seq (scene_of t (source_of t listed) later q)

-- A pass that is done owes nothing, then and later, as in a run.
abbrev pub DonePassesOweNothingInCourses : Type 0
DonePassesOweNothingInCourses =
    (n : ℕ) (t : Transfer) (start listed now later : Network Contents) (course : Course Steps start now) (more : Course Steps now later) (p q : Pass) → PassBegins n t start
    → DatabasesStay t (requests_through course) → ListsLastThrough course n listed → pass_at now.transfers n ≡ Some p → p.phase ≡ Done
    → DatabasesStay t (requests_through more) → pass_at later.transfers n ≡ Some q
    → (id : List ℕ) (r : Revision) → IsTrue (is_revision r) → IsTrue (is_leaf (history_at (source_of t listed) id) r) → p.start_seq < sequence_at (source_of t listed) id
    → is_settled (target_of t later) q.refused id r ≡ true

-- A pass that is done has listed its source, as in a run, and starts where the first two replies say.
abbrev pub DonePassesHaveListedInCourses : Type 0
DonePassesHaveListedInCourses =
    (n : ℕ) (c : PassConfiguration) (start now : Network Contents) (course : Course Steps start now) (p : Pass) → pass_at start.transfers n ≡ Some (first_pass c) → pass_at now.transfers n ≡ Some p
    → p.phase ≡ Done → ((listed : Network Contents) × ListsLastThrough course n listed) × (p.start_seq ≡ start_by c (replies_in (turns_through course n)))
