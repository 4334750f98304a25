use Rattle.couch_http.proofs.Taken.{HasTaken}
use Rattle.sync.specs.Streams.{outcomes_of}
use Rattle.sync.proofs.Logs.{GrewBy}
use Rattle.sync.proofs.writing.write_logged.Given as goal

abbrev pub invariant-loop-number : goal.invariant-loop-number
invariant-loop-number g l = record {
  taken : HasTaken (g.W.Write.contents l.initial.writer.stream) (g.W.Write.contents l.writer.stream) l.rest l.bytes;
  grew : GrewBy (outcomes_of l.initial.writer.log.items) (outcomes_of l.writer.log.items) l._number;
}
