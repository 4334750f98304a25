use Rattle.transactions.proofs.Common.{CommitFault, List, Ok, true, ℕ, ◌≡◌}
use Rattle.std.specs.List.{list_any}
use Rattle.std.specs.Prelude.{bytes_eq}
use Rattle.index.specs.Declaring.{IsRebuildable}
use Rattle.index.specs.Meaning.{Declarations, Documents}
use Rattle.index.specs.Steps.{Steps}
use Rattle.transactions.specs.inner.Postponing.{AreClearedAsStored}
use Rattle.transactions.proofs.postponing.clear_all_stored.Given as goal

-- the same transaction; those that come next are some of all, and the others have no index that is not as it is stored
abbrev pub invariant-loop-id : goal.invariant-loop-id
invariant-loop-id g l = record {
  same : l.tx.conn.ghost_name ≡ l.initial.tx.conn.ghost_name;
  within : (id : List ℕ) → list_any (bytes_eq id) l.id-iterator ≡ true → list_any (bytes_eq id) l.designs.keys ≡ true;
  so_far : (declares : Declarations) (sees : Documents)
      → Steps {X = Unit {0}} {E = CommitFault} g.S.Store (IsRebuildable declares sees l.db) (AreClearedAsStored declares sees l.db l.designs.keys l.id-iterator) l.initial.tx.conn.now l.tx.conn.now (Ok tt);
}
