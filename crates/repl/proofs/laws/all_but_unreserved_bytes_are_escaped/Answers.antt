use Rattle.repl.proofs.Segments.{contains-reserved}
use Rattle.repl.proofs.laws.all_but_unreserved_bytes_are_escaped.Goals as goal

pub returns : goal.returns
returns c = contains-reserved
