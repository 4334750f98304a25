use Rattle.index.proofs.Common.{AllByRecursion, IsShownDeclaration, declared, declared_shown, drop, map, ◌++◌, ◌≡◌}
use Rattle.index.proofs.refreshing.read_declarations.Given as goal

-- the declarations so far and those of what is left are those of all, and where all rows are such rows those that are left are
abbrev pub invariant-loop-row : goal.invariant-loop-row
invariant-loop-row l =
    (map declared l.declarations.items ++ map declared_shown (drop l.row-index l.rows) ≡ map declared_shown l.rows)
    × (AllByRecursion IsShownDeclaration l.rows → AllByRecursion IsShownDeclaration (drop l.row-index l.rows))
