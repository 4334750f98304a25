-- Passes that have copied what their sources have now, from database to database: then all have the same tree of each document.
-- CouchDB manual, replication/conflicts and replication/protocol; the words are this project's own.
use Rattle.std.specs.Prelude.{◌≡◌, ◌≤◌, ℕ, List, [], ◌∷◌, Some, true, IsTrue}
use Rattle.std.specs.List.{AllByRecursion}
use Rattle.tree.specs.History.{is_leaf}
use Rattle.tree.specs.Revision.{Revision}
use Rattle.store.specs.Contents.{Contents}
use Rattle.store.specs.Database.{Database, IsKnownAt, history_at, sequence_at}
use Rattle.node.specs.Runs.{Steps}
use Rattle.repl.specs.Passes.{Pass}
use Rattle.repl.specs.declared.phase.Phase.TheVariants.{Done}
use Rattle.world.specs.Network.{Network, Transfer}
use Rattle.replication.specs.Courses.{Course, requests_through}
use Rattle.replication.specs.Finished.{PassBegins, database_at}
use Rattle.replication.specs.Requests.{DatabasesStay}
use Rattle.replication.specs.Runs.{pass_at}
use Rattle.replication.specs.Groups.{Group, GroupCourse, IsInAgreement, IsReady}
use Rattle.replication.specs.Networks.{QuietStage}
use Rattle.replication.specs.Ways.{HaveSameTrees, IsWay}

-- a database of a network: the number of its node, and its name
pub record Site : Type 0 where
  pub place : ℕ
  pub name : List ℕ

-- the database there; where there is none, it has no documents
abbrev pub database_at_site : Network Contents → Site → Database
database_at_site now s = database_at now.nodes s.place s.name

-- ---- passes that have copied

-- a pass from the one database to the other
pub record IsPassBetween (t : Transfer) (a b : Site) : Type 0 where
  pub from : t.from ≡ a.place
  pub source : t.pass.configuration.source_db ≡ a.name
  pub to : t.to ≡ b.place
  pub target : t.pass.configuration.target_db ≡ b.name

-- A pass from the one database to the other that is done, and refused nothing. Since it was started neither database was removed. It began no
-- later than at the one sequence of its source (`start_seq`), and ended at the other or later (`last_seq`).
pub record HasCopied (now : Network Contents) (a b : Site) (from to : ℕ) : Type 0 where
  pub number : ℕ
  pub transfer : Transfer
  pub leads : IsPassBetween transfer a b
  pub start : Network Contents
  pub course : Course Steps start now
  pub begins : PassBegins number transfer start
  pub kept : DatabasesStay transfer (requests_through course)
  pub pass : Pass
  pub there : pass_at now.transfers number ≡ Some pass
  pub done : pass.phase ≡ Done
  pub refused : pass.refused ≡ []
  pub first : pass.start_seq ≤ from
  pub last : to ≤ pass.last_seq

-- Such passes, each of which goes on where the one before ended, up to the length that the source has now, which is its `update_seq`. So
-- nothing was written at the source since the last of them listed it.
abbrev pub AreCopied : Network Contents → Site → Site → ℕ → List ℕ → Type 0
AreCopied now a b from [] = (database_at_site now a).length ≤ from
AreCopied now a b from (n ∷ ns) = HasCopied now a b from n × AreCopied now a b n ns

-- the other database knows each leaf of the one's documents whose sequences are from 1 to this one, which it has
pub record HasUpTo (last : ℕ) (a b : Database) : Type 0 where
  pub within : last ≤ a.length
  pub leaves : (id : List ℕ) (r : Revision) → IsTrue (is_leaf (history_at a id) r) → 1 ≤ sequence_at a id → sequence_at a id ≤ last → IsKnownAt b id r

-- The other database has caught up with the one, both of the group: it had all up to a sequence at first, and passes have copied the rest up
-- to now. At first it may have nothing, so the sequence is 0; or passes of an earlier process have copied so much, and left their checkpoints.
pub record HasCaughtUp (g : Group) (old now : Network Contents) (a b : Site) : Type 0 where
  pub one : g.databases a.place a.name ≡ true
  pub other : g.databases b.place b.name ≡ true
  pub first : ℕ
  pub had : HasUpTo first (database_at_site old a) (database_at_site old b)
  pub ends : List ℕ
  pub copied : AreCopied now a b first ends

-- One pass is enough that began at the start, and whose `last_seq` is at least the `update_seq` that its source has now.
abbrev pub OnePassCatchesUp : Type 0
OnePassCatchesUp =
    (g : Group) (old now : Network Contents) (a b : Site) → g.databases a.place a.name ≡ true → g.databases b.place b.name ≡ true → HasCopied now a b 0 (database_at_site now a).length → HasCaughtUp g old now a b

-- ---- a quiet network

-- A quiet network agrees. At first the databases of a group agree two by two, and their revisions can be written. Its
-- passes go on, and what others write leaves the databases in agreement. Where each database on the ways there and back has caught up with the
-- one before, both ends have the same tree of each document.
abbrev pub QuietNetworksAgree : Type 0
QuietNetworksAgree =
    (g : Group) (ss : List QuietStage) (old now : Network Contents) (a b : Site) (there back : List Site) → IsReady g old → GroupCourse g ss old now → IsInAgreement g old.nodes
    → IsWay (HasCaughtUp g old now) a there b → IsWay (HasCaughtUp g old now) b back a → HaveSameTrees (database_at_site now a) (database_at_site now b)

-- So do all databases of a ring.
abbrev pub QuietRingsAgree : Type 0
QuietRingsAgree =
    (g : Group) (ss : List QuietStage) (old now : Network Contents) (a : Site) (ds : List Site) → IsReady g old → GroupCourse g ss old now → IsInAgreement g old.nodes
    → IsWay (HasCaughtUp g old now) a ds a → AllByRecursion (λ d. HaveSameTrees (database_at_site now a) (database_at_site now d)) ds
