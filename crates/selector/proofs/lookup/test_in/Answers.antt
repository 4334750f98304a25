use Rattle.std.proofs.Common.{◌∙◌}
use Rattle.selector.proofs.Tests.{field_true, some_weaker}
use Rattle.selector.proofs.lookup.test_in.Goals as goal

pub returns-in-Field : goal.returns-in-Field
returns-in-Field c =
    let this = c.in_ok-condition in
    some_weaker c.test_at.result _ _
    (λ test h root current. this.ensures.truth root current ∙ field_true this.condition.now c.in-Field.field c.in-Field.selector c.in-Field.is root current ∙ h root current)
    c.test_at.ensures
