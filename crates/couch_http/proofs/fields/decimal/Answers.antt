use Rattle.std.proofs.Common.{arith}
use Rattle.couch_http.proofs.Decimals.{decimal_after_over}
use Rattle.couch_http.proofs.fields.decimal.Goals as goal

pub returns-then-number-limit : goal.returns-then-number-limit
returns-then-number-limit c =
    rw (decimal_after_over c.args.digits.now c.loop-digit.digit-index c.loop-digit.number c.args.limit c.loop-digit-test.true c.loop-digit.invariant.made
    (omega arith))
