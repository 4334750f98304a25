-- Without a fault nothing of a selector looks at the root.
use Rattle.selector.proofs.Faultless.{same_truth}
use Rattle.selector.proofs.laws.selectors_look_at_the_value_alone.Goals as goal

pub returns : goal.returns
returns c = λ selector lawful root other current. same_truth root other selector 1 lawful current
