-- Databases that can be replicated both ways: what each answer of a node keeps, from an empty store on.
-- The words are this project's own.
use Rattle.std.specs.Prelude.{◌≡◌, ◌<◌, ℕ, true, List, Some, IsTrue}
use Rattle.std.specs.FinMap.{empty, get}
use Rattle.std.specs.List.{slice_get}
use Rattle.auth.specs.Callers as auth
use Rattle.couch_http.specs.Message.{Message}
use Rattle.couch_http.specs.Reply.{Reply}
use Rattle.store.specs.Contents.{Contents}
use Rattle.store.specs.Database.{Database, history_at, sequence_at}
use Rattle.store.specs.declared.store.Store.{Ghosts}
use Rattle.tree.specs.History.{is_leaf}
use Rattle.tree.specs.Revision.{Revision}
use Rattle.node.specs.Runs.{Steps}
use Rattle.node.specs.Step.{Serving}
use Rattle.passes.specs.Settled.{is_settled}
use Rattle.repl.specs.Passes.{Pass}
use Rattle.repl.specs.declared.phase.Phase.TheVariants.{Done}
use Rattle.world.specs.Network.{AreHonest, Network, Transfer, over_databases}
use Rattle.world.specs.Service.{alike}
use Rattle.replication.specs.Courses.{Course}
use Rattle.replication.specs.Finished.{PassBegins, ListsLast, source_of, target_of}
use Rattle.replication.specs.Requests.{DatabasesStay, requests_of}
use Rattle.replication.specs.Runs.{Run, pass_at}
use Rattle.replication.specs.Sound.{AreWritable}

-- ---- what each answer keeps of databases

-- each database is such
abbrev pub AreAll : (Database → Type 0) → Contents → Type 0
AreAll P contents = (name : List ℕ) (db : Database) → get contents name ≡ Some db → P db

-- A store without databases has such ones alone, and whatever a node answers, its databases stay so.
pub record StepsKeep (P : Database → Type 0) : Type 0 where
  pub none : AreAll P empty
  pub steps : (c : auth.Configuration) (before : Contents) (m : Message) (r : Reply) (after : Contents) → Steps c before m r after → AreAll P before → AreAll P after

-- the databases of each node are such
abbrev pub AreAllAtNodes : (Database → Type 0) → List (Serving Contents) → Type 0
AreAllAtNodes P nodes = (place : ℕ) (node : Serving Contents) → slice_get nodes place ≡ Some node → AreAll P node.store

-- Through a run of a network the databases of its nodes stay so.
abbrev pub RunsKeep : (Database → Type 0) → Type 0
RunsKeep P = (old new : Network Contents) → Run (alike Steps) old new → AreAllAtNodes P old.nodes → AreAllAtNodes P new.nodes

-- ---- revisions that can be written

-- each known revision of each database can be written
abbrev pub HaveWritable : Contents → Type 0
HaveWritable = AreAll AreWritable

-- each answer of a node keeps that
abbrev pub StepsKeepWritable : Type 0
StepsKeepWritable = StepsKeep AreWritable

-- the databases of each node have such revisions alone
abbrev pub AreAllWritable : List (Serving Contents) → Type 0
AreAllWritable = AreAllAtNodes AreWritable

-- each run of a network keeps that
abbrev pub RunsKeepWritable : Type 0
RunsKeepWritable = RunsKeep AreWritable

-- each course of a network keeps that
abbrev pub CoursesKeepWritable : Type 0
CoursesKeepWritable = (old new : Network Contents) → Course Steps old new → AreAllWritable old.nodes → AreAllWritable new.nodes

-- Where at first all revisions can be written, a pass that is done owes nothing: each leaf that its source had at the last list, of a
-- document whose sequence is above the start, is known at the target or reported, then and later.
abbrev pub DonePassesOweNoLeaf : Type 0
DonePassesOweNoLeaf =
    (n : ℕ) (t : Transfer) (start listed now later : Network Contents) (run : Run (alike Steps) start now) (more : Run (alike Steps) now later) (p q : Pass) → PassBegins n t start → AreAllWritable start.nodes
    → DatabasesStay t (requests_of run) → ListsLast run n listed → pass_at now.transfers n ≡ Some p → p.phase ≡ Done
    → DatabasesStay t (requests_of more) → pass_at later.transfers n ≡ Some q
    → (id : List ℕ) (r : Revision) → IsTrue (is_leaf (history_at (source_of t listed) id) r) → p.start_seq < sequence_at (source_of t listed) id
    → is_settled (target_of t later) q.refused id r ≡ true

-- Where a store is such that an honest one has revisions that can be written, so have the nodes of a network that stand on honest ones.
abbrev pub NodesAreWritable : {S : Type 0} → Ghosts S → Type 0
NodesAreWritable {S} g = ((s : S) → g.is_honest s → HaveWritable (g.contents s)) → (old : Network S) → AreHonest g old.nodes → AreAllWritable (over_databases g old).nodes
