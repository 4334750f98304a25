use Rattle.index.proofs.Common.{Declarations, Documents, IndexFault, Ok, map, option_map, take, ◌≡◌}
use Rattle.couch_json.specs.View.{view}
use Rattle.index.specs.Declaring.{IsRebuildable}
use Rattle.index.specs.Meaning.{declared_if}
use Rattle.index.specs.Rebuilding.{AreCleared}
use Rattle.index.specs.Steps.{Steps}
use Rattle.index.proofs.rebuilding.clear_names.Given as goal

-- the same transaction, and none of the names so far has other fields
abbrev pub invariant-loop-name : goal.invariant-loop-name
invariant-loop-name g l = record {
  same : l.tx.conn.ghost_name ≡ l.initial.tx.conn.ghost_name;
  so_far : (declares : Declarations) (sees : Documents)
      → Steps {X = Unit {0}} {E = IndexFault} g.S.Store (IsRebuildable declares sees l.db)
      (AreCleared declares sees l.db l.design (declared_if (option_map (λ v. view v.now) l.body)) (map (λ name. name.items) (take l.name-index l.names))) l.initial.tx.conn.now l.tx.conn.now (Ok tt);
}
