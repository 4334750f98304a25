use Rattle.index.proofs.Common.{AllByRecursion, IsShownDeclaration, map, ◌++◌, ◌≡◌}
use Rattle.std.specs.Vec.Iter.{into_iter_items}
use Rattle.index.specs.Rebuilding.{shown_name}
use Rattle.index.proofs.rebuilding.list_stored.Given as goal

-- the names so far and those of what is left are all, and where all rows are such rows those that are left are
abbrev pub invariant-loop-row : goal.invariant-loop-row
invariant-loop-row l =
    (map (λ name. name.items) l.names.items ++ map shown_name (into_iter_items l.row-iterator) ≡ map shown_name l.fn.rows.items)
    × (AllByRecursion IsShownDeclaration l.fn.rows.items → AllByRecursion IsShownDeclaration (into_iter_items l.row-iterator))
