use Rattle.std.proofs.Common.{◌∙◌, refl, subst, arith}
use Rattle.sync.specs.Pieces.{IsTurn}
use Rattle.sync.specs.Streams.{outcomes_of}
use Rattle.sync.proofs.Reading.{read_broken, read_ended, read_lost, read_more, read_none, read_whole}
use Rattle.sync.proofs.exchanging.read_reply.Goals as goal

pub loop-number-init : goal.loop-number-init
loop-number-init g c = record {
  read = read_none (record { bytes = g.R.Read.remaining c.args.reader.now.stream; log = outcomes_of c.args.reader.now.log.items }) c.new-cutter.result c.new-cutter.ensures;
  room = refl;
  bounded = omega arith;
}

pub returns-in-Whole : goal.returns-in-Whole
returns-in-Whole g c =
    let turn = c.in_ok-read_piece.ensures.turn in
    read_whole
    (record { bytes = g.R.Read.remaining c.args.reader.now.stream; log = outcomes_of c.args.reader.now.log.items })
    (record { bytes = g.R.Read.remaining c.loop-number.reader.stream; log = outcomes_of c.loop-number.reader.log.items })
    (record { bytes = g.R.Read.remaining c.read_piece.new.reader.stream; log = outcomes_of c.read_piece.new.reader.log.items })
    c.loop-number._number c.loop-number.cutter c.read_piece.new.cutter turn.0 turn.1 c.loop-number.read c.read_piece.new.read c.in-Whole.reply c.loop-number-test.true c.loop-number.invariant.read turn.3 turn.2 turn.4
    (subst (λ t. IsTurn c.loop-number.cutter turn.0 turn.1 t c.read_piece.new.cutter) c.in-Whole.is turn.6)

pub returns-in-Lost : goal.returns-in-Lost
returns-in-Lost g c =
    let turn = c.in_ok-read_piece.ensures.turn in
    read_lost
    (record { bytes = g.R.Read.remaining c.args.reader.now.stream; log = outcomes_of c.args.reader.now.log.items })
    (record { bytes = g.R.Read.remaining c.loop-number.reader.stream; log = outcomes_of c.loop-number.reader.log.items })
    (record { bytes = g.R.Read.remaining c.read_piece.new.reader.stream; log = outcomes_of c.read_piece.new.reader.log.items })
    c.loop-number._number c.loop-number.cutter c.read_piece.new.cutter turn.0 turn.1 c.loop-number.read c.read_piece.new.read c.loop-number-test.true c.loop-number.invariant.read turn.3 turn.2 turn.4
    (subst (λ t. IsTurn c.loop-number.cutter turn.0 turn.1 t c.read_piece.new.cutter) c.in-Lost.is turn.6)

pub returns-in-Broken : goal.returns-in-Broken
returns-in-Broken g c =
    let turn = c.in_ok-read_piece.ensures.turn in
    read_broken
    (record { bytes = g.R.Read.remaining c.args.reader.now.stream; log = outcomes_of c.args.reader.now.log.items })
    (record { bytes = g.R.Read.remaining c.loop-number.reader.stream; log = outcomes_of c.loop-number.reader.log.items })
    (record { bytes = g.R.Read.remaining c.read_piece.new.reader.stream; log = outcomes_of c.read_piece.new.reader.log.items })
    c.loop-number._number c.loop-number.cutter c.read_piece.new.cutter turn.0 turn.1 c.loop-number.read c.read_piece.new.read c.loop-number-test.true c.loop-number.invariant.read turn.3 turn.2 turn.4
    (subst (λ t. IsTurn c.loop-number.cutter turn.0 turn.1 t c.read_piece.new.cutter) c.in-Broken.is turn.6)

pub loop-number-preserved : goal.loop-number-preserved
loop-number-preserved g c =
    let turn = c.in_ok-read_piece.ensures.turn in
    record {
      read = read_more
          (record { bytes = g.R.Read.remaining c.args.reader.now.stream; log = outcomes_of c.args.reader.now.log.items })
          (record { bytes = g.R.Read.remaining c.loop-number.reader.stream; log = outcomes_of c.loop-number.reader.log.items })
          (record { bytes = g.R.Read.remaining c.read_piece.new.reader.stream; log = outcomes_of c.read_piece.new.reader.log.items })
          c.loop-number._number c.loop-number.cutter c.read_piece.new.cutter turn.0 turn.1 c.loop-number.read c.read_piece.new.read c.loop-number.invariant.read turn.3 turn.2 turn.4
          (subst (λ t. IsTurn c.loop-number.cutter turn.0 turn.1 t c.read_piece.new.cutter) c.in-Waits.is turn.6);
      room = c.in_ok-read_piece.ensures.room ∙ c.loop-number.invariant.room;
      bounded = omega (arith, c.loop-number.invariant.bounded, turn.4, turn.5, c.loop-number.invariant.room);
    }

pub returns : goal.returns
returns g c = read_ended
    (record { bytes = g.R.Read.remaining c.args.reader.now.stream; log = outcomes_of c.args.reader.now.log.items })
    (record { bytes = g.R.Read.remaining c.loop-number.reader.stream; log = outcomes_of c.loop-number.reader.log.items })
    c.loop-number._number c.loop-number.cutter c.loop-number.read (omega (arith, c.loop-number-test.false, c.loop-number.auto._number-end)) c.loop-number.invariant.read
