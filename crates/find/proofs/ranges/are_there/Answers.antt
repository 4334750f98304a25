use Rattle.std.proofs.Common.{◌≡◌, true, rules}
use Rattle.find.proofs.KeyRanges.{next_there}
use Rattle.find.proofs.ranges.are_there.Goals as goal

pub loop-field-preserved : goal.loop-field-preserved
loop-field-preserved c = λ rest.
    let yes : c.is_there.result ≡ true = search rules in
    c.loop-field.invariant
    (next_there c.args.query.now c.args.fields.now c.loop-field.field-index c.field-item.result c.loop-field-test.true c.field-item.is (c.is_there.ensures yes) rest)
