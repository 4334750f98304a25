-- Two passes of a network in opposite directions, in a run in which nobody else writes a document in their two databases.
-- CouchDB manual, replication/protocol; that all comes in one order is this project's own.
use Rattle.std.specs.Prelude.{◌≡◌, ◌≢◌, ◌⊎◌, ◌+◌, ℕ, List, [], ◌∷◌, length, Option, Some, None, Bool, false, true}
use Rattle.std.specs.List.{AllByRecursion}
use Rattle.store.specs.Contents.{Contents}
use Rattle.store.specs.Database.{Database, history_at}
use Rattle.api.specs.Asking.{method_named}
use Rattle.api.specs.Paths.{database_name_in}
use Rattle.api.specs.Routing.{page_of}
use Rattle.api.specs.declared.method.RequestMethod.{RequestMethod}
use Rattle.api.specs.declared.method.RequestMethod.TheVariants.{Delete, Put}
use Rattle.api.specs.declared.page.Page.{Page}
use Rattle.api.specs.declared.page.Page.TheVariants.{BulkDocuments, Database as DatabasePage, Document, Index}
use Rattle.node.specs.Runs.{Steps}
use Rattle.node.specs.Step.{Serving}
use Rattle.hub.specs.Connections.{ConnectionTable}
use Rattle.repl.specs.Passes.{first_pass}
use Rattle.world.specs.Keeping.{IsAt, StaysAt}
use Rattle.world.specs.Network.{Network, Transfer, transfer_at}
use Rattle.world.specs.Service.{Asker, alike, by_pass, on_connection}
use Rattle.replication.specs.Finished.{AreAllLawful, IsTold, database_at, source_of, target_of}
use Rattle.replication.specs.Parted.{with_pass}
use Rattle.replication.specs.Requests.{Handled, requests_of}
use Rattle.replication.specs.Runs.{Run}
use Rattle.replication.specs.Agreement.{HaveSameTree}
use Rattle.replication.specs.Appended.{KeepsDocuments}
use Rattle.replication.specs.Converged.{HasCopiedAll}
use Rattle.replication.specs.Sound.{Agree, AreWritable}

-- The database of this name at the node of this number, or a new one where there is none, became this; and where there is one, it is there
-- afterwards.
abbrev pub BecomesAt : List (Serving Contents) → ℕ → List ℕ → List (Serving Contents) → (Database → Database → Type 0) → Type 0
BecomesAt old place name new how = how (database_at old place name) (database_at new place name) × StaysAt old new place name

-- both databases of a pass stay, and no document is written in them; one that is not there may be created
abbrev pub KeepsBoth : Transfer → List (Serving Contents) → List (Serving Contents) → Type 0
KeepsBoth t old new =
    BecomesAt old t.from t.pass.configuration.source_db new KeepsDocuments × BecomesAt old t.to t.pass.configuration.target_db new KeepsDocuments

-- one of two passes asks
abbrev pub IsOneOf : ℕ → ℕ → Asker → Type 0
IsOneOf p q (on_connection conn) = ⊥
IsOneOf p q (by_pass number fate) = (number ≡ p) ⊎ (number ≡ q)

-- two passes of a network: each as it is when it is started, and the number that it has or will have
pub record TwoPasses : Type 0 where
  pub there : Transfer
  pub back : Transfer
  pub there_number : ℕ
  pub back_number : ℕ

-- Each request is one of the two passes, or both databases stay, and no document is written in them.
abbrev pub AreTheirs : TwoPasses → List (Handled Contents) → Type 0
AreTheirs two rs = AllByRecursion (λ (r : Handled Contents). IsOneOf two.there_number two.back_number r.who ⊎ KeepsBoth two.there r.old r.new) rs

-- ---- two passes

-- The one pass goes between two databases, the other back between the same two. Neither has asked anything.
pub record AreOpposite (t u : Transfer) : Type 0 where
  pub from : u.from ≡ t.to
  pub to : u.to ≡ t.from
  pub source : u.pass.configuration.source_db ≡ t.pass.configuration.target_db
  pub target : u.pass.configuration.target_db ≡ t.pass.configuration.source_db
  pub apart : t.from ≡ t.to → t.pass.configuration.source_db ≢ t.pass.configuration.target_db
  pub there_told : IsTold t.pass.configuration
  pub back_told : IsTold u.pass.configuration
  pub there_first : t.pass ≡ first_pass t.pass.configuration
  pub back_first : u.pass ≡ first_pass u.pass.configuration

-- a pass under a number: it was started and asked nothing, or it is still to be started
abbrev pub IsAhead : Transfer → Option Transfer → Type 0
IsAhead t there = (there ≡ Some t) ⊎ (there ≡ None)

-- neither of the two passes has asked anything, and the databases of all nodes are lawful
pub record AreAhead (two : TwoPasses) (now : Network Contents) : Type 0 where
  pub apart : two.there_number ≢ two.back_number
  pub there : IsAhead two.there (transfer_at now.transfers two.there_number)
  pub back : IsAhead two.back (transfer_at now.transfers two.back_number)
  pub lawful : AreAllLawful now.nodes

-- ---- what happens

-- the pass is as it was, or it is started now
abbrev pub StaysOrStarts : Transfer → Option Transfer → Option Transfer → Type 0
StaysOrStarts t before after = (after ≡ before) ⊎ ((before ≡ None) × (after ≡ Some t))

-- Nothing is asked of any node: connections are opened or closed, and passes are started.
pub record ArrangesPasses (two : TwoPasses) (old new : Network Contents) : Type 0 where
  pub nodes : new.nodes ≡ old.nodes
  pub there : StaysOrStarts two.there (transfer_at old.transfers two.there_number) (transfer_at new.transfers two.there_number)
  pub back : StaysOrStarts two.back (transfer_at old.transfers two.back_number) (transfer_at new.transfers two.back_number)

-- a stage of a course: passes run, or passes are arranged
pub data QuietStage : Type 0 where
  runs : QuietStage
  arranges : QuietStage

-- runs in which nobody else writes, and what is arranged before, between and after
abbrev pub QuietCourse : TwoPasses → List QuietStage → Network Contents → Network Contents → Type 0
QuietCourse two [] old new = new ≡ old
QuietCourse two (runs ∷ ss) old new =
    (between : Network Contents) × (run : Run (alike Steps) old between) × AreTheirs two (requests_of run) × QuietCourse two ss between new
QuietCourse two (arranges ∷ ss) old new = (between : Network Contents) × ArrangesPasses two old between × QuietCourse two ss between new

-- the two databases of a pass
pub record AreEnds (t : Transfer) (now : Network Contents) (one other : Database) : Type 0 where
  pub source : IsAt now.nodes t.from t.pass.configuration.source_db one
  pub target : IsAt now.nodes t.to t.pass.configuration.target_db other

-- a pass of this number has copied all
pub record HasEnded (n : ℕ) (now : Network Contents) : Type 0 where
  pub transfer : Transfer
  pub there : transfer_at now.transfers n ≡ Some transfer
  pub copied : HasCopiedAll transfer.pass

-- revisions can be written in both databases, and they agree
pub record AreReconcilable (a b : Database) : Type 0 where
  pub one : AreWritable a
  pub other : AreWritable b
  pub agree : Agree a b

-- At every moment of such a course the two databases agree, if they did at first.
abbrev pub CoursesKeepAgreement : Type 0
CoursesKeepAgreement =
    (two : TwoPasses) (ss : List QuietStage) (old new : Network Contents) → AreOpposite two.there two.back → AreAhead two old → QuietCourse two ss old new
    → AreReconcilable (source_of two.there old) (target_of two.there old) → AreReconcilable (source_of two.there new) (target_of two.there new)

-- Through such a course both databases stay there, each from when it is there.
abbrev pub CoursesKeepBoth : Type 0
CoursesKeepBoth =
    (two : TwoPasses) (ss : List QuietStage) (old new : Network Contents) (a b : Database) → AreOpposite two.there two.back → AreAhead two old → QuietCourse two ss old new
    → AreEnds two.there old a b → ∥ ((one other : Database) × AreEnds two.there new one other) ∥₁

-- Two passes of a network in opposite directions converge: where both have copied all, and nobody else wrote a document since before both
-- asked for the first time, their databases have the same tree of each document, with the same leaves and the same winner. At the start
-- revisions can be written, and the databases agree.
abbrev pub PassesOfANetworkConverge : Type 0
PassesOfANetworkConverge =
    (two : TwoPasses) (ss : List QuietStage) (old new : Network Contents) → AreOpposite two.there two.back → AreAhead two old → QuietCourse two ss old new
    → AreReconcilable (source_of two.there old) (target_of two.there old) → HasEnded two.there_number new → HasEnded two.back_number new
    → (id : List ℕ) → HaveSameTree (history_at (source_of two.there new) id) (history_at (target_of two.there new) id)

-- ---- which runs are such

-- What is asked of a page by a method may write documents, or remove a whole database.
abbrev pub may_write : Page → Option RequestMethod → Bool
may_write Document (Some Put) = true
may_write Document (Some Delete) = true
may_write BulkDocuments method = true
may_write Index method = true
may_write DatabasePage (Some Delete) = true
may_write page method = false

abbrev pub may_write_at : Option Page → Option RequestMethod → Bool
may_write_at None method = false
may_write_at (Some page) method = may_write page method

-- The request can't write a document in the database of this name at the node of this number, nor remove it: another node handles it, its path
-- leads into no database or into another one, or no page of this path writes documents by this method.
abbrev pub Spares : ℕ → List ℕ → Handled Contents → Type 0
Spares place name r =
    (r.place ≢ place) ⊎ ((database_name_in r.message.path ≢ Some name) ⊎ (may_write_at (page_of r.message.path) (method_named r.message.method) ≡ false))

-- each request is one of the two passes, or spares both databases
abbrev pub AreSparing : TwoPasses → List (Handled Contents) → Type 0
AreSparing two rs =
    AllByRecursion
    (λ (r : Handled Contents). IsOneOf two.there_number two.back_number r.who
    ⊎ (Spares two.there.from two.there.pass.configuration.source_db r × Spares two.there.to two.there.pass.configuration.target_db r)) rs

-- Where the others' requests spare both databases, nobody else writes in them.
abbrev pub SparingRuns : Type 0
SparingRuns =
    (two : TwoPasses) (old new : Network Contents) (run : Run (alike Steps) old new) → AreSparing two (requests_of run) → AreTheirs two (requests_of run)

-- Opening and closing connections arranges, and so does starting a pass, where it is one of the two if it gets the number of one.
pub record CallsArrange : Type 0 where
  pub connecting : (two : TwoPasses) (old : Network Contents) (homes : List ℕ) (connections : ConnectionTable) → ArrangesPasses two old (record old { homes = homes; connections = connections })
  pub starting : (two : TwoPasses) (v : Transfer) (old : Network Contents) → (two.there_number ≡ length old.transfers + 1 → v ≡ two.there)
      → (two.back_number ≡ length old.transfers + 1 → v ≡ two.back) → ArrangesPasses two old (with_pass v old)
