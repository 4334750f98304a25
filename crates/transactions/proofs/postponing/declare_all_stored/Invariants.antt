use Rattle.transactions.proofs.Common.{CommitFault, List, Ok, map, true, ℕ, ◌≡◌}
use Rattle.std.specs.List.{list_any}
use Rattle.std.specs.Prelude.{bytes_eq}
use Rattle.index.specs.Meaning.{Documents}
use Rattle.index.specs.Shown.{declared}
use Rattle.index.specs.Steps.{Steps}
use Rattle.transactions.specs.inner.Postponing.{AreDeclaredAsStored, AreToDeclare}
use Rattle.transactions.proofs.postponing.declare_all_stored.Given as goal

-- the same transaction; those that come next are some of all, and the others declare what is stored
abbrev pub invariant-loop-id : goal.invariant-loop-id
invariant-loop-id g l = record {
  same : l.tx.conn.ghost_name ≡ l.initial.tx.conn.ghost_name;
  within : (id : List ℕ) → list_any (bytes_eq id) l.id-iterator ≡ true → list_any (bytes_eq id) l.designs.keys ≡ true;
  so_far : (sees : Documents)
      → Steps {X = Unit {0}} {E = CommitFault} g.S.Store (AreToDeclare sees l.db l.designs.keys (map declared l.initial.fresh.items))
      (AreDeclaredAsStored sees l.db l.designs.keys l.id-iterator (map declared l.fresh.items)) l.initial.tx.conn.now l.tx.conn.now (Ok tt);
}
