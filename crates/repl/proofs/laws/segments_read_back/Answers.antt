use Rattle.repl.proofs.Segments.{percent_decode-segment}
use Rattle.repl.proofs.laws.segments_read_back.Goals as goal

pub returns : goal.returns
returns c = percent_decode-segment
