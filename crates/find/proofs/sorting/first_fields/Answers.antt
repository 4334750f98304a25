use Rattle.std.proofs.Common.{arith}
use Rattle.find.specs.inner.Kept.{most_compared}
use Rattle.find.proofs.Distinct.{same_take}
use Rattle.find.proofs.sorting.first_fields.Goals as goal

pub returns : goal.returns
returns c = same_take c.args.fields.now c.min.result most_compared (omega (arith, c.min.ensures)) (λ less. omega (arith, less, c.min.ensures))
