use Rattle.std.proofs.Common.{◌≡◌, ◌≤◌, ◌*◌, length}
use Rattle.sync.specs.Streams.{outcomes_of}
use Rattle.sync.proofs.Reading.{HasRead}
use Rattle.sync.proofs.exchanging.read_reply.Given as goal

abbrev pub invariant-loop-number : goal.invariant-loop-number
invariant-loop-number g l = record {
  read : HasRead
      (record { bytes = g.R.Read.remaining l.initial.reader.stream; log = outcomes_of l.initial.reader.log.items })
      (record { bytes = g.R.Read.remaining l.reader.stream; log = outcomes_of l.reader.log.items })
      l._number l.cutter l.read;
  room : length l.room ≡ 8192;
  bounded : l.read ≤ l._number * 8192;
}
