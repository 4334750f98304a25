use Rattle.std.proofs.Common.{rules, eqb}
use Rattle.std.proofs.lemmas.Iterator.Consumers.{nth_from_yields_List}
use Rattle.std.proofs.lemmas.Iterator.Splits.{YieldsList-from_slice_split}
use Rattle.api.proofs.path.part.Goals as goal

pub returns : goal.returns
returns c =
    nth_from_yields_List _ _ c.args.place c.nth.ensures.ran
    (YieldsList-from_slice_split _ (λ b. eqb b 47) c.args.path.now c.split.ensures.rest c.split.ensures.done c.split.ensures.closure (λ x b q h. search rules))
