use Rattle.std.proofs.Common.{length}
use Rattle.couch_http.proofs.Taken.{HasTaken}
use Rattle.couch_http.proofs.writing.write_bytes.Given as goal

abbrev pub invariant-loop-rest : goal.invariant-loop-rest
invariant-loop-rest g l = record {
  taken : HasTaken (g.W.Write.contents l.initial.writer) (g.W.Write.contents l.writer) l.rest l.bytes;
}

abbrev pub decreases-loop-rest : goal.decreases-loop-rest
decreases-loop-rest g l = length l.rest
