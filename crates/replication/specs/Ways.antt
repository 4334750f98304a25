-- Any number of databases, of which each knows the leaves of the one before it.
-- CouchDB manual, replication/conflicts (replicas that have the same edits pick the same winner); the words are this project's own.
use Rattle.std.specs.Prelude.{ℕ, List, [], ◌∷◌}
use Rattle.std.specs.List.{AllByRecursion}
use Rattle.store.specs.Database.{Database, history_at}
use Rattle.store.specs.Lawful.{IsLawfulDatabase}
use Rattle.replication.specs.Agreement.{HaveSameTree, LeavesAreKnown}
use Rattle.replication.specs.Sound.{Agree}

-- from one to another by those between, where each leads to the next
abbrev pub IsWay : {A : Type 0} → (A → A → Type 0) → A → List A → A → Type 0
IsWay leads a [] b = leads a b
IsWay leads a (c ∷ cs) b = leads a c × IsWay leads c cs b

-- two lawful databases that agree, where each leaf of the one is known in the other
pub record HasAllOf (a b : Database) : Type 0 where
  pub one : IsLawfulDatabase a
  pub other : IsLawfulDatabase b
  pub agree : Agree a b
  pub leaves : (id : List ℕ) → LeavesAreKnown (history_at a id) (history_at b id)

-- the same tree of each document
abbrev pub HaveSameTrees : Database → Database → Type 0
HaveSameTrees a b = (id : List ℕ) → HaveSameTree (history_at a id) (history_at b id)

-- Where ways lead from the one database to the other and back, and each database on them has all of the one before, both have the same
-- trees. For what is known can only grow along a way, and both ways together come back to where they began.
abbrev pub WaysMeet : Type 0
WaysMeet = (a b : Database) (there back : List Database) → IsWay HasAllOf a there b → IsWay HasAllOf b back a → HaveSameTrees a b

-- So all databases of a ring have the same trees.
abbrev pub RingsMeet : Type 0
RingsMeet = (a : Database) (ds : List Database) → IsWay HasAllOf a ds a → AllByRecursion (HaveSameTrees a) ds
