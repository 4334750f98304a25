-- What a pass has settled in a run of a network: in each round what it listed, and in the end all that it owes its target.
-- CouchDB manual, replication/protocol; what is reported is this project's own.
use Rattle.std.specs.Prelude.{◌≡◌, ◌<◌, ◌≤◌, ◌⊎◌, ℕ, Bool, true, false, List, [], ◌∷◌, Option, Some, None, IfSome, IsTrue}
use Rattle.std.specs.FinMap.{get}
use Rattle.std.specs.List.{AllByRecursion, slice_get}
use Rattle.tree.specs.History.{is_leaf}
use Rattle.tree.specs.Revision.{Revision, is_revision}
use Rattle.store.specs.Contents.{Contents, new_database}
use Rattle.store.specs.Database.{Database, history_at, sequence_at}
use Rattle.store.specs.Lawful.{AreLawful}
use Rattle.node.specs.Runs.{Steps}
use Rattle.node.specs.Step.{Serving}
use Rattle.repl.specs.Configuration.{PassConfiguration}
use Rattle.repl.specs.Passes.{Pass, first_pass}
use Rattle.repl.specs.Turns.{Turn, has_listed, replies_in, start_by}
use Rattle.repl.specs.declared.phase.Phase.TheVariants.{Done}
use Rattle.passes.specs.Owed.{Scene}
use Rattle.passes.specs.Settled.{is_settled}
use Rattle.passes.specs.Spelled.{AreBytes}
use Rattle.world.specs.Happening.{Happening, Sight}
use Rattle.world.specs.Network.{Network, Transfer, transfer_at}
use Rattle.world.specs.Playing.{Plays}
use Rattle.world.specs.Service.{Handling, alike}
use Rattle.replication.specs.Requests.{DatabasesStay, requests_of}
use Rattle.replication.specs.Runs.{Run, pass_at, turns_at, turns_in, turns_of}

-- ---- the databases of a pass

-- a database that is there, or a new one
abbrev pub found_or_new : Option Database → Database
found_or_new None = new_database
found_or_new (Some db) = db

-- the database of this name, if there are such a node and such a database
abbrev pub database_of_node : Option (Serving Contents) → List ℕ → Option Database
database_of_node None name = None
database_of_node (Some node) name = get node.store name

-- the database of this name at the node of this number; where there is none, it has no documents
abbrev pub database_at : List (Serving Contents) → ℕ → List ℕ → Database
database_at nodes place name = found_or_new (database_of_node (slice_get nodes place) name)

-- the two databases of a pass
abbrev pub source_of : Transfer → Network Contents → Database
source_of t now = database_at now.nodes t.from t.pass.configuration.source_db

-- the target's database of a pass, as it is now
abbrev pub target_of : Transfer → Network Contents → Database
target_of t now = database_at now.nodes t.to t.pass.configuration.target_db

-- a pass between its two databases as they are now, and the source as it was at a list of changes
abbrev pub scene_of : Transfer → Database → Network Contents → Pass → Scene
scene_of t listed now p = record { source = source_of t now; target = target_of t now; listed = listed; pass = p }

-- ---- the start

-- the names of the databases are bytes, and a batch has 1 to 1,000 changes
pub record IsTold (c : PassConfiguration) : Type 0 where
  pub source_db : AreBytes c.source_db
  pub target_db : AreBytes c.target_db
  pub batch : IfSome c.batch (λ size. (1 ≤ size) × (size ≤ 1000))

-- each node's databases are lawful, as those of honest stores are
abbrev pub AreAllLawful : List (Serving Contents) → Type 0
AreAllLawful nodes = AllByRecursion (λ n. ∥ AreLawful n.store ∥₁) nodes

-- the pass of this number has been started, and has asked nothing yet
pub record PassBegins (n : ℕ) (t : Transfer) (now : Network Contents) : Type 0 where
  pub there : transfer_at now.transfers n ≡ Some t
  pub first : t.pass ≡ first_pass t.pass.configuration
  pub told : IsTold t.pass.configuration
  pub lawful : AreAllLawful now.nodes

-- ---- a list of changes

-- a pass, if there is one, takes a list of changes in at one of these turns
abbrev pub takes_list : Option Pass → List Turn → Bool
takes_list None ts = false
takes_list (Some p) ts = has_listed p ts

-- In these events the pass of this number takes a list of changes in, at the event that came when the network was `listed`, and none later.
abbrev pub ListsLastIn : {S : Type 0} (handling : Handling S) (n : ℕ) (hs : List Happening) (old : Network S) (seen : List Sight) (new : Network S) → Plays handling old hs seen new → Network S → Type 0
ListsLastIn handling n [] old seen new p listed = ⊥
ListsLastIn handling n (h ∷ hs) old seen new (first, others, between, here, later, order) listed =
    ((listed ≡ old) × (takes_list (pass_at old.transfers n) (turns_at handling n h old first between here) ≡ true)
    × (takes_list (pass_at between.transfers n) (turns_in handling n hs between others new later) ≡ false))
    ⊎ ListsLastIn handling n hs between others new later listed

-- the same of a run: its last list of changes is of this network
abbrev pub ListsLast : {S : Type 0} {handling : Handling S} {old new : Network S} → Run handling old new → ℕ → Network S → Type 0
ListsLast {S} {handling} {old} {new} run n listed = ListsLastIn handling n run.happenings old run.seen new run.played listed

-- ---- what is settled

-- A pass that is done owes nothing, then and later: each leaf that the source had when it was listed last, of a document whose sequence is
-- above the start, is known at the target or reported.
abbrev pub DonePassesOweNothing : Type 0
DonePassesOweNothing =
    (n : ℕ) (t : Transfer) (start listed now later : Network Contents) (run : Run (alike Steps) start now) (more : Run (alike Steps) now later) (p q : Pass) → PassBegins n t start
    → DatabasesStay t (requests_of run) → ListsLast run n listed → pass_at now.transfers n ≡ Some p → p.phase ≡ Done
    → DatabasesStay t (requests_of more) → pass_at later.transfers n ≡ Some q
    → (id : List ℕ) (r : Revision) → IsTrue (is_revision r) → IsTrue (is_leaf (history_at (source_of t listed) id) r) → p.start_seq < sequence_at (source_of t listed) id
    → is_settled (target_of t later) q.refused id r ≡ true

-- A pass that is done has listed its source, and starts where the first two replies say.
abbrev pub DonePassesHaveListed : Type 0
DonePassesHaveListed =
    (n : ℕ) (c : PassConfiguration) (start now : Network Contents) (run : Run (alike Steps) start now) (p : Pass) → pass_at start.transfers n ≡ Some (first_pass c) → pass_at now.transfers n ≡ Some p
    → p.phase ≡ Done → ((listed : Network Contents) × ListsLast run n listed) × (p.start_seq ≡ start_by c (replies_in (turns_of run n)))
