-- The range has all design documents.
use Rattle.std.proofs.Common.{Some, refl, ap, ◌∙◌}
use Rattle.store.proofs.DesignIds.{design_within}
use Rattle.store.proofs.design_rows.design_range.Goals as goal

pub returns : goal.returns
returns c = record {
  whole = refl;
  from_the_first = refl;
  ascending = refl;
  within = λ id h. design_within _ _ id (ap Some (c.new.ensures ∙ c.in_ok-start.ensures.ok)) (ap Some (c.new-2.ensures ∙ c.in_ok-end.ensures.ok)) h;
}
