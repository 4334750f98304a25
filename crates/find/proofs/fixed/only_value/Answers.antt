use Rattle.std.proofs.Common.{◌≡◌, rules, Some, sym, true, ◌∙◌}
use Rattle.selector.specs.Bounds.{contain}
use Rattle.selector.specs.declared.bounds.Bounds.TheVariants.{Range}
use Rattle.find.proofs.FixedFields.{only_between}
use Rattle.find.proofs.fixed.only_value.Goals as goal

pub returns : goal.returns
returns c = λ v h.
    let one : c.are_one.result ≡ true = search rules in
    only_between c.in-Some.low c.in-Some-high.high v (sym c.are_one.ensures ∙ one) ((λ i. contain (Range (sym c.in-Some.is i) (sym c.in-Some-high.is i)) (Some v)) ∙ h)
