-- A numeral that is read, and none that is refused.
use Rattle.std.proofs.Common.{sym, ap, ◌∙◌}
use Rattle.api.proofs.Counts.{at_most_greatest, count_parse}
use Rattle.api.proofs.listings.count.Goals as goal

pub returns-in_default : goal.returns-in_default
returns-in_default c =
    sym (count_parse c.args.text.now c.parse.result c.parse.ensures.value.0 (sym c.if-not-is_count.ensures) ∙ ap at_most_greatest c.in_default.is)
