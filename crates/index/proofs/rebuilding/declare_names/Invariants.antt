use Rattle.index.proofs.Common.{Declarations, Documents, IndexFault, Ok, declared, drop, map, option_map, ◌≡◌}
use Rattle.couch_json.specs.View.{view}
use Rattle.index.specs.Declaring.{ArePartly, ArePartlySet}
use Rattle.index.specs.Meaning.{declared_if}
use Rattle.index.specs.Steps.{Steps}
use Rattle.index.proofs.rebuilding.declare_names.Given as goal

-- the same transaction, and the names that come next are left
abbrev pub invariant-loop-name : goal.invariant-loop-name
invariant-loop-name g l = record {
  same : l.tx.conn.ghost_name ≡ l.initial.tx.conn.ghost_name;
  so_far : (declares : Declarations) (sees : Documents)
      → Steps {X = Unit {0}} {E = IndexFault} g.S.Store (ArePartly declares sees l.db l.design (declared_if (option_map (λ v. view v.now) l.body)) (map (λ name. name.items) l.names) (map declared l.initial.fresh.items))
      (ArePartlySet declares sees l.db l.design (declared_if (option_map (λ v. view v.now) l.body)) (map (λ name. name.items) (drop l.name-index l.names)) (map declared l.fresh.items)) l.initial.tx.conn.now l.tx.conn.now (Ok tt);
}
