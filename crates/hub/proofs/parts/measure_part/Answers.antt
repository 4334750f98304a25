use Rattle.hub.proofs.PartLengths.{part_found}
use Rattle.hub.proofs.parts.measure_part.Goals as goal

pub returns-then-place-ge-LEAST-clause-one : goal.returns-then-place-ge-LEAST-clause-one
returns-then-place-ge-LEAST-clause-one c =
    part_found c.loop-place.place c.loop-place.is_empty c.args.piece.now c.loop-place-test.true c.if-ends_line.true c.if-is_empty.true c.if-place-ge-LEAST.true c.loop-place.invariant
