use Rattle.std.proofs.Common.{◌≡◌, true, rules, sym, ◌∙◌}
use Rattle.find.proofs.KeyRanges.{next_same}
use Rattle.find.proofs.ranges.are_same.Goals as goal

pub loop-field-preserved : goal.loop-field-preserved
loop-field-preserved c =
    let yes : c.is_same.result ≡ true = search rules in
    next_same c.args.fields.now c.loop-field.field-index c.field-item.result c.in-Some.other.now c.loop-field.left.rest.now c.next.new.self.rest.now c.loop-field-test.true c.field-item.is
    c.in-Some.ensures.steps (sym c.is_same.ensures ∙ yes) c.loop-field.invariant
