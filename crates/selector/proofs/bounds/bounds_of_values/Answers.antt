use Rattle.std.proofs.Common.{sym, ap, ◌∙◌}
use Rattle.std.specs.Prelude.{option_copied}
use Rattle.selector.proofs.Hulls.{ends_contain}
use Rattle.selector.proofs.bounds.bounds_of_values.Goals as goal

pub returns-in-Some-Some : goal.returns-in-Some-Some
returns-in-Some-Some c =
    let ends = c.in-Some-Some in
    ends_contain c.args.values.now ends.least.now ends.greatest.now c.edge_at.result c.edge_at-in-Some-Some.result c.requires
    (ap option_copied (sym ends.is-0) ∙ c.first.ensures.value) (ap option_copied (sym ends.is-1) ∙ c.last.ensures.value)
    (c.edge_at.ensures.value, c.edge_at.ensures.inclusive) (c.edge_at-in-Some-Some.ensures.value, c.edge_at-in-Some-Some.ensures.inclusive)
