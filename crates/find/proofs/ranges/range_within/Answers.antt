use Rattle.std.proofs.Common.{true, false, Some, sym, ap, ◌∙◌}
use Rattle.couch_json.specs.Value.{array, item}
use Rattle.selector.specs.Bounds.{contain}
use Rattle.store.specs.KeyPages.{is_above}
use Rattle.store.specs.declared.index_page.KeyRange.{KeyRange}
use Rattle.find.proofs.KeyRanges.{between}
use Rattle.find.proofs.ranges.range_within.Goals as goal

pub returns-in_ok-high_cut-in-Range-clause-within : goal.returns-in_ok-high_cut-in-Range-clause-within
returns-in_ok-high_cut-in-Range-clause-within c = λ v vs h.
    let made = c.range_between.ensures in
    between c.in-Range.low c.in-Range.high c.range_between.result v vs
    (λ over. ap (λ (r : KeyRange). is_above true r.low (array (item v vs))) made ∙ c.in_ok-low-in-Range.ensures v vs over)
    (λ under. ap (λ (r : KeyRange). is_above false r.high (array (item v vs))) made ∙ c.in_ok-high_cut-in-Range.ensures v vs under)
    (ap (λ b. contain b (Some v)) (sym c.in-Range.is) ∙ h)
