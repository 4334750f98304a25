use Rattle.std.proofs.Common.{Option, Some, sym, ap, ◌∙◌}
use Rattle.std.proofs.lemmas.Result.{on_ok_weaker}
use Rattle.selector.specs.Bounds.{path_value}
use Rattle.selector.specs.FieldBounds.{has_within}
use Rattle.selector.specs.declared.field_bounds.FieldBounds.{FieldBounds}
use Rattle.selector.proofs.field_bounds.add_hull.Goals as goal

pub returns-in-Some-clause-inside : goal.returns-in-Some-clause-inside
returns-in-Some-clause-inside c =
    on_ok_weaker c.add_fields.result
    (λ inside current each lie. inside current
    (λ path. ap (λ (hull : Option FieldBounds). has_within hull path (path_value (Some path) current)) (sym c.in-Some.is) ∙ each path) lie)
    c.add_fields.ensures.inside
