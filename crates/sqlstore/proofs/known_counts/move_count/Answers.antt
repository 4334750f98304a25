use Rattle.std.proofs.Common.{arith}
use Rattle.sqlstore.proofs.known_counts.move_count.Goals as goal

pub returns : goal.returns
returns c = (c.in_ok-more.field-0, c.in_ok-more.was, omega (arith, c.share_of.ensures, c.share_of-2.ensures, c.in_ok-value.ensures))
