use Rattle.std.proofs.Common.{sym}
use Rattle.lab.proofs.Names.{side_of-none}
use Rattle.lab.proofs.repl_line.read_side.Goals as goal

pub returns-in_default : goal.returns-in_default
returns-in_default c = sym (side_of-none c.args.bytes.now c.in_default.ensures.cases.0)
