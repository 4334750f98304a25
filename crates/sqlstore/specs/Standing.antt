-- What a store keeps true of its connection: as the store opened it, as the last change left it, and as it is.
-- This server's own: facts hold where the disk returned what was written, and where the tables were laid out and the rows of indexes sound when they were opened.
use Rattle.std.specs.List.{AllByRecursion}
use Rattle.std.specs.Prelude.{◌≡◌, Bool, false, filter, IfSome, List, None, Option, option_map, slice_get, Some, IsTrue, ⊤}
use Rattle.sqlite_trees.specs.declared.store.Store.{Ghosts}
use Rattle.sqlite.specs.Held.{Held, state}
use Rattle.sqlite.specs.State.{HasCleanDisk}
use Rattle.sqlite_trees.specs.Tree.{Trees}
use Rattle.tables.specs.Layout.{IsStore}
use Rattle.store.specs.Lawful.{AllEndAtLast}
use Rattle.tables.specs.Rows.{contents_in, is_named}
use Rattle.tables.specs.Schema.{dbs_tree}
use Rattle.index.specs.Indexed.{IsIndexed}
use Rattle.transactions.specs.Indexing.{AreKnownIndexes, IsCommittedStore}
use Rattle.ranks.specs.Counts.{AreRanksOf}
use Rattle.sqlstore.specs.inner.Listing.{all_count, live_ids}
use Rattle.sqlstore.specs.inner.Designs.{AreKnownDesigns}
use Rattle.sqlstore.specs.inner.Keys.{AreKnownRanks}
use Rattle.sqlstore.specs.inner.Reading.{count_kept, found_in, known_values}
use Rattle.sqlstore.specs.declared.known_database.KnownDatabase.{KnownDatabase}

-- What is known of a database is what its row says. Each count that is known is that of its documents, and the ranks, where they are
-- known, are those of the ids that are not deleted. Its indexes, where they are known, are all that it has, and the ranks of
-- keys that are known are those of indexes that it has. Its design documents, where they are known, are all whose winner is not deleted.
pub record IsKnownDatabase (trees : Trees) (k : KnownDatabase) : Type 0 where
  pub row : option_map found_in (slice_get (filter (is_named k.name) (trees dbs_tree)) 0) ≡ Some (known_values k)
  pub counts : (deleted : Bool) → IfSome (count_kept deleted k) (λ c. c.value ≡ all_count trees k.found.number deleted)
  pub ranked : IfSome k.ranks (λ r. AreRanksOf r (live_ids trees k.found.number))
  pub indexes : AreKnownIndexes k.indexes k.found.number trees
  pub index_ranked : AreKnownRanks trees k.found.number k.index_ranks
  pub designed : AreKnownDesigns trees k.found.number k.designs

-- the same, where something is known
abbrev pub IsKnown : Trees → Option KnownDatabase → Type 0
IsKnown trees None = ⊤
IsKnown trees (Some k) = IsKnownDatabase trees k

-- the same of each of those that were asked for before; of them neither an index is known, nor the ranks of the keys of one, nor design documents
abbrev pub AreKnown : Trees → List KnownDatabase → Type 0
AreKnown trees ks = AllByRecursion (λ k. IsKnownDatabase trees k × (k.indexes ≡ None) × (k.index_ranks ≡ None) × (k.designs ≡ None)) ks

module _ {S : Type 0} (g : Ghosts S) where
  -- The tables are laid out as the last change left them, the rows of indexes are those of what is stored, and the sequence of each
  -- database is that of its last document. An open connection has those rows, with nothing that waits for a commit.
  pub record Holds (conn last : Held S) : Type 0 where
    pub store : IsStore (state g last).now
    pub indexed : IsIndexed (state g last).now.trees
    pub ends : ∥ AllEndAtLast (contents_in (state g last).now.trees) ∥₁
    pub now : IsTrue (state g conn).is_open → (state g conn).now ≡ (state g last).now
    pub committed : IsTrue (state g conn).is_open → (state g conn).committed ≡ (state g last).now

  -- the tables were those of a store between two calls when it was opened
  abbrev pub WasStore : Held S → Type 0
  WasStore origin = ∥ IsCommittedStore (state g origin).now ∥₁

  -- where the connection is honest, it is so
  abbrev pub IsHeld : Held S → Held S → Held S → Type 0
  IsHeld conn origin last = HasCleanDisk (state g conn) → WasStore origin → ∥ Holds conn last ∥₁

  -- all that a store keeps true of it
  pub record IsStanding (conn origin last : Held S) (known : Option KnownDatabase) (earlier : List KnownDatabase) : Type 0 where
    pub idle : conn.in_transaction ≡ false
    pub unlimited : conn.step_limit ≡ None
    pub held : IsHeld conn origin last
    pub known_so : HasCleanDisk (state g conn) → WasStore origin → ∥ IsKnown (state g last).now.trees known ∥₁
    pub earlier_so : HasCleanDisk (state g conn) → WasStore origin → ∥ AreKnown (state g last).now.trees earlier ∥₁
