-- What a pass says at the end of a course follows from its turns: what it reports, where it began, and why it stopped.
-- CouchDB manual, replication/protocol; how a pass reports and stops is this project's own.
use Rattle.std.specs.Prelude.{◌≡◌, ◌==◌, ℕ, List, [], ◌∷◌, map, Some, if◌then◌else◌}
use Rattle.repl.specs.Causes.{IsStoppedBy}
use Rattle.repl.specs.Configuration.{PassConfiguration}
use Rattle.repl.specs.Passes.{Pass, first_pass}
use Rattle.repl.specs.Turns.{after_turns, has_listed, replies_in, start_by, told_of}
use Rattle.repl.specs.declared.phase.Phase.TheVariants.{Stopped}
use Rattle.repl.specs.declared.why.Why.{Why}
use Rattle.world.specs.Exchanging.{status_of_turn}
use Rattle.world.specs.Happening.{Sight, ended, exchanged, replied}
use Rattle.world.specs.Network.{Network}
use Rattle.world.specs.Service.{StepOf, alike}
use Rattle.replication.specs.Courses.{Course, turns_through}
use Rattle.replication.specs.Runs.{Run, pass_at, turns_of}

-- Through a course a pass becomes what its turns make of it.
abbrev pub PassesGoByTurns : {S : Type 0} → StepOf S → Type 0
PassesGoByTurns {S} step =
    (n : ℕ) (old new : Network S) (course : Course step old new) (p : Pass) → pass_at old.transfers n ≡ Some p
    → pass_at new.transfers n ≡ Some (after_turns p (turns_through course n))

-- ---- what is seen of turns

-- the statuses that are seen of the pass of this number
abbrev pub statuses_of : ℕ → List Sight → List ℕ
statuses_of n [] = []
statuses_of n (replied t ∷ ss) = statuses_of n ss
statuses_of n (exchanged number is_to_target m status ∷ ss) = if number == n then status ∷ statuses_of n ss else statuses_of n ss
statuses_of n (ended number asked ∷ ss) = statuses_of n ss

-- Of each turn of a pass its status is seen, 0 for a loss.
abbrev pub TurnsAreSeen : {S : Type 0} → StepOf S → Type 0
TurnsAreSeen {S} step = (n : ℕ) (old new : Network S) (run : Run (alike step) old new) → statuses_of n run.seen ≡ map status_of_turn (turns_of run n)

-- ---- of a pass from its start on

-- A pass reports what the replies that it took in say, in order, and nothing else.
abbrev pub ReportsAreToldInCourses : {S : Type 0} → StepOf S → Type 0
ReportsAreToldInCourses {S} step =
    (n : ℕ) (c : PassConfiguration) (old new : Network S) (course : Course step old new) (p : Pass) → pass_at old.transfers n ≡ Some (first_pass c) → pass_at new.transfers n ≡ Some p
    → p.refused ≡ told_of (first_pass c) (turns_through course n)

-- Once it took a list of changes in, its start is that of the first two replies, which are the checkpoints of the two sides; before, it is 0.
abbrev pub StartsAreReadInCourses : {S : Type 0} → StepOf S → Type 0
StartsAreReadInCourses {S} step =
    (n : ℕ) (c : PassConfiguration) (old new : Network S) (course : Course step old new) (p : Pass) → pass_at old.transfers n ≡ Some (first_pass c) → pass_at new.transfers n ≡ Some p
    → p.start_seq ≡ (if has_listed (first_pass c) (turns_through course n) then start_by c (replies_in (turns_through course n)) else 0)

-- A pass that has stopped met the cause at one of its turns.
abbrev pub StopsHaveCausesInCourses : {S : Type 0} → StepOf S → Type 0
StopsHaveCausesInCourses {S} step =
    (n : ℕ) (c : PassConfiguration) (old new : Network S) (course : Course step old new) (p : Pass) (why : Why) → pass_at old.transfers n ≡ Some (first_pass c)
    → pass_at new.transfers n ≡ Some p → p.phase ≡ Stopped why → IsStoppedBy (first_pass c) why (turns_through course n)
