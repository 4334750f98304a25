-- Some databases of a network and some passes between them, in runs in which whatever else is written leaves these databases in agreement.
-- CouchDB manual, replication/protocol; that all comes in one order is this project's own.
use Rattle.std.specs.Prelude.{◌≡◌, ◌≢◌, ◌⊎◌, ◌+◌, ℕ, List, [], ◌∷◌, length, Some, Bool, true}
use Rattle.std.specs.List.{AllByRecursion}
use Rattle.store.specs.Contents.{Contents}
use Rattle.node.specs.Runs.{Steps}
use Rattle.node.specs.Step.{Serving}
use Rattle.hub.specs.Connections.{ConnectionTable}
use Rattle.repl.specs.Passes.{first_pass}
use Rattle.world.specs.Keeping.{StaysAt}
use Rattle.world.specs.Network.{Network, Transfer, transfer_at}
use Rattle.world.specs.Service.{Asker, alike, by_pass, on_connection}
use Rattle.replication.specs.Finished.{AreAllLawful, IsTold, database_at}
use Rattle.replication.specs.Parted.{with_pass}
use Rattle.replication.specs.Requests.{Handled, requests_of}
use Rattle.replication.specs.Runs.{Run}
use Rattle.replication.specs.Appended.{KeepsDocuments}
use Rattle.replication.specs.Networks.{BecomesAt, Spares, QuietStage, arranges, runs}
use Rattle.replication.specs.Sound.{Agree, AreWritable}

-- Which databases, each by the number of its node and its name; and which passes, each by its number.
pub record Group : Type 0 where
  pub databases : ℕ → List ℕ → Bool
  pub passes : ℕ → Bool

-- ---- agreement

-- revisions can be written in each database of a group, and the databases agree two by two
pub record IsInAgreement (g : Group) (nodes : List (Serving Contents)) : Type 0 where
  pub writable : (place : ℕ) (name : List ℕ) → g.databases place name ≡ true → AreWritable (database_at nodes place name)
  pub agree : (p : ℕ) (k : List ℕ) (q : ℕ) (l : List ℕ) → g.databases p k ≡ true → g.databases q l ≡ true → Agree (database_at nodes p k) (database_at nodes q l)

-- ---- requests

-- the databases of a group stay, and no document is written in them; one that is not there may be created
abbrev pub KeepsGroup : Group → List (Serving Contents) → List (Serving Contents) → Type 0
KeepsGroup g old new = (place : ℕ) (name : List ℕ) → g.databases place name ≡ true → BecomesAt old place name new KeepsDocuments

-- a pass of the group asks
abbrev pub IsOf : Group → Asker → Type 0
IsOf g (on_connection conn) = ⊥
IsOf g (by_pass number fate) = g.passes number ≡ true

-- the databases of a group stay, and agree afterwards, whatever was written in them
pub record LeavesAgreement (g : Group) (old new : List (Serving Contents)) : Type 0 where
  pub stay : (place : ℕ) (name : List ℕ) → g.databases place name ≡ true → StaysAt old new place name
  pub agreement : IsInAgreement g new

-- what somebody else asks of nodes: no document of the group is written, or its databases agree afterwards
abbrev pub IsPeaceful : Group → List (Serving Contents) → List (Serving Contents) → Type 0
IsPeaceful g old new = KeepsGroup g old new ⊎ LeavesAgreement g old new

-- Each request is one of the group's passes, or leaves the databases of the group in agreement.
abbrev pub AreOf : Group → List (Handled Contents) → Type 0
AreOf g rs = AllByRecursion (λ (r : Handled Contents). IsOf g r.who ⊎ IsPeaceful g r.old r.new) rs

-- each request is one of the group's passes, or spares each database of the group
abbrev pub AreSparingAll : Group → List (Handled Contents) → Type 0
AreSparingAll g rs =
    AllByRecursion (λ (r : Handled Contents). IsOf g r.who ⊎ ((place : ℕ) (name : List ℕ) → g.databases place name ≡ true → Spares place name r)) rs

-- Where the others' requests spare the databases of a group, nobody else writes in them, so they stay in agreement.
abbrev pub SparingGroups : Type 0
SparingGroups = (g : Group) (old new : Network Contents) (run : Run (alike Steps) old new) → AreSparingAll g (requests_of run) → AreOf g (requests_of run)

-- ---- passes

-- a pass from one database of the group to another one
pub record IsWithin (g : Group) (t : Transfer) : Type 0 where
  pub source : g.databases t.from t.pass.configuration.source_db ≡ true
  pub target : g.databases t.to t.pass.configuration.target_db ≡ true
  pub apart : t.from ≡ t.to → t.pass.configuration.source_db ≢ t.pass.configuration.target_db
  pub told : IsTold t.pass.configuration

-- such a pass that has asked nothing
pub record IsFresh (g : Group) (t : Transfer) : Type 0 where
  pub within : IsWithin g t
  pub first : t.pass ≡ first_pass t.pass.configuration

-- the passes of the group that are there have asked nothing, and the databases of all nodes are lawful
pub record IsReady (g : Group) (now : Network Contents) : Type 0 where
  pub fresh : (n : ℕ) (t : Transfer) → g.passes n ≡ true → transfer_at now.transfers n ≡ Some t → IsFresh g t
  pub lawful : AreAllLawful now.nodes

-- ---- what happens

-- Nothing is asked of any node: connections are opened or closed, and passes are started. A pass of the group was there before, or has asked
-- nothing.
pub record IsArrangedFor (g : Group) (old new : Network Contents) : Type 0 where
  pub nodes : new.nodes ≡ old.nodes
  pub passes : (n : ℕ) (t : Transfer) → g.passes n ≡ true → transfer_at new.transfers n ≡ Some t → (transfer_at old.transfers n ≡ Some t) ⊎ IsFresh g t

-- runs in which others leave the databases in agreement, and what is arranged before, between and after
abbrev pub GroupCourse : Group → List QuietStage → Network Contents → Network Contents → Type 0
GroupCourse g [] old new = new ≡ old
GroupCourse g (runs ∷ ss) old new =
    (between : Network Contents) × (run : Run (alike Steps) old between) × AreOf g (requests_of run) × GroupCourse g ss between new
GroupCourse g (arranges ∷ ss) old new = (between : Network Contents) × IsArrangedFor g old between × GroupCourse g ss between new

-- Opening and closing connections arranges, and so does starting a pass, where it is between databases of the group if the group has its number.
pub record CallsArrangeForGroups : Type 0 where
  pub connecting : (g : Group) (old : Network Contents) (homes : List ℕ) (connections : ConnectionTable) → IsArrangedFor g old (record old { homes = homes; connections = connections })
  pub starting : (g : Group) (v : Transfer) (old : Network Contents) → (g.passes (length old.transfers + 1) ≡ true → IsFresh g v) → IsArrangedFor g old (with_pass v old)

-- ---- what is kept

-- At every moment of such a course the databases agree two by two, if they did at first.
abbrev pub GroupsKeepAgreement : Type 0
GroupsKeepAgreement = (g : Group) (ss : List QuietStage) (old new : Network Contents) → IsReady g old → GroupCourse g ss old new → IsInAgreement g old.nodes → IsInAgreement g new.nodes
