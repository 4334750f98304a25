use Rattle.std.proofs.Common.{Some}
use Rattle.std.proofs.lemmas.Result.{IfOk-weaker}
use Rattle.selector.specs.Truth.{selector_matches}
use Rattle.selector.proofs.selector.Selector.field_bounds.Goals as goal

pub returns-clause-inside : goal.returns-clause-inside
unfolding selector_matches
returns-clause-inside c =
    IfOk-weaker c.field_bounds_in.result _ _ (λ fields inside path v holds. inside v (Some v) holds path) c.field_bounds_in.ensures.inside
