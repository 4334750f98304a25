use Rattle.std.proofs.Common.{ℕ, List, true, refl, sym, subst, drop, ap, ◌∙◌, arith}
use Rattle.couch_http.proofs.Taken.{HasTaken, taken_none, taken_some, taken_all, taken_short, taken_no_more, nothing_left}
use Rattle.sync.specs.Exchange.{Standing}
use Rattle.sync.specs.Streams.{IsFinal, outcomes_of}
use Rattle.sync.specs.declared.outcome.Outcome.{Outcome}
use Rattle.sync.proofs.Logs.{grew_by_none, grew_by_one}
use Rattle.sync.proofs.Written.{taken_kept, wrote_all, wrote_most, wrote_part}
use Rattle.sync.proofs.writing.write_logged.Goals.{in-Bytes, in-Interrupted}
use Rattle.sync.proofs.writing.write_logged.Goals as goal

pub loop-number-init : goal.loop-number-init
loop-number-init g c = record {
  taken = taken_none (g.W.Write.contents c.args.writer.now.stream) c.args.bytes.now;
  grew = grew_by_none (outcomes_of c.args.writer.now.log.items);
}

pub returns-then-is_empty : goal.returns-then-is_empty
returns-then-is_empty g c =
    let start : Standing = record { bytes = g.W.Write.contents c.args.writer.now.stream; log = outcomes_of c.args.writer.now.log.items } in
    let now : Standing = record { bytes = g.W.Write.contents c.loop-number.writer.stream; log = outcomes_of c.loop-number.writer.log.items } in
    wrote_all c.args.bytes.now start now now c.loop-number._number
    (taken_all start.bytes now.bytes true c.args.bytes.now
    (subst (λ (l : List ℕ). HasTaken start.bytes now.bytes l c.args.bytes.now) (nothing_left c.loop-number.rest.now c.is_empty.result c.is_empty.ensures c.if-is_empty.true) c.loop-number.invariant.taken))
    c.loop-number.invariant.grew

pub returns-in-Bytes-eq0 : goal.returns-in-Bytes-eq0
returns-in-Bytes-eq0 g c =
    let start : Standing = record { bytes = g.W.Write.contents c.args.writer.now.stream; log = outcomes_of c.args.writer.now.log.items } in
    let now : Standing = record { bytes = g.W.Write.contents c.loop-number.writer.stream; log = outcomes_of c.loop-number.writer.log.items } in
    let after : Standing = record { bytes = g.W.Write.contents c.write.new.self.stream; log = outcomes_of c.write.new.self.log.items } in
    wrote_part c.args.bytes.now start now after c.loop-number._number c.write.result
    (taken_short start.bytes after.bytes (drop c.in-Bytes-eq0.field-0 c.loop-number.rest.now) c.args.bytes.now
    (taken_some start.bytes now.bytes after.bytes c.loop-number.rest.now c.args.bytes.now (drop c.in-Bytes-eq0.field-0 c.loop-number.rest.now) c.in-Bytes-eq0.field-0
    c.loop-number.invariant.taken c.in-Bytes-eq0.ensures.written.1 refl))
    c.loop-number.invariant.grew c.write.ensures.log (subst (λ (o : Outcome). IsFinal o) (sym c.in-Bytes-eq0.is) c.in-Bytes-eq0.field-0-test)

pub returns-in-Failed : goal.returns-in-Failed
returns-in-Failed g c =
    let start : Standing = record { bytes = g.W.Write.contents c.args.writer.now.stream; log = outcomes_of c.args.writer.now.log.items } in
    let now : Standing = record { bytes = g.W.Write.contents c.loop-number.writer.stream; log = outcomes_of c.loop-number.writer.log.items } in
    let after : Standing = record { bytes = g.W.Write.contents c.write.new.self.stream; log = outcomes_of c.write.new.self.log.items } in
    wrote_part c.args.bytes.now start now after c.loop-number._number c.write.result
    (taken_no_more start.bytes now.bytes after.bytes c.loop-number.rest.now c.args.bytes.now c.loop-number.invariant.taken c.in-Failed.ensures.written)
    c.loop-number.invariant.grew c.write.ensures.log (subst (λ (o : Outcome). IsFinal o) (sym c.in-Failed.is) tt)

pub loop-number-preserved : goal.loop-number-preserved
loop-number-preserved g c =
    let start = g.W.Write.contents c.args.writer.now.stream in
    let now = g.W.Write.contents c.loop-number.writer.stream in
    let after = g.W.Write.contents c.write.new.self.stream in
    record {
      taken = elim c.match-write.branch [
        | in-Bytes w ↦ taken_some start now after c.loop-number.rest.now c.args.bytes.now c.match-write.rest.now w.in-Bytes.count c.loop-number.invariant.taken
            w.in-Bytes.ensures.written.1 (ap (λ b. b.now) w.rest-is ∙ w.skip-rest.ensures)
        | in-Interrupted w ↦ taken_kept start now after c.loop-number.rest.now c.match-write.rest.now c.args.bytes.now c.loop-number.invariant.taken
            w.in-Interrupted.ensures.written (ap (λ b. b.now) w.rest-is)
      ];
      grew = grew_by_one (outcomes_of c.args.writer.now.log.items) (outcomes_of c.loop-number.writer.log.items) (outcomes_of c.write.new.self.log.items) c.loop-number._number
          c.write.result c.loop-number.invariant.grew c.write.ensures.log;
    }

pub returns : goal.returns
returns g c =
    let start : Standing = record { bytes = g.W.Write.contents c.args.writer.now.stream; log = outcomes_of c.args.writer.now.log.items } in
    let now : Standing = record { bytes = g.W.Write.contents c.loop-number.writer.stream; log = outcomes_of c.loop-number.writer.log.items } in
    wrote_most c.args.bytes.now start now now c.loop-number._number
    (taken_short start.bytes now.bytes c.loop-number.rest.now c.args.bytes.now c.loop-number.invariant.taken)
    c.loop-number.invariant.grew (omega (arith, c.loop-number-test.false, c.loop-number.auto._number-end))
