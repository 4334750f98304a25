use Rattle.std.proofs.Common.{bytes_eq, sym, ap, ◌∙◌}
use Rattle.std.specs.List.{list_any}
use Rattle.find.proofs.KeyRanges.{field_sorted}
use Rattle.find.proofs.ranges.is_sort_field.Goals as goal

pub returns : goal.returns
returns c = λ among.
    field_sorted c.args.query.now c.args.field.now (ap (λ fs. list_any (λ f. bytes_eq c.args.field.now f) fs) (sym c.as_slice.ensures) ∙ sym c.is_among.ensures ∙ among)
