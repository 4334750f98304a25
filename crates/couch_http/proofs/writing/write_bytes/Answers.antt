use Rattle.std.proofs.Common.{ℕ, List, true, refl, subst, drop}
use Rattle.couch_http.proofs.Taken.{HasTaken, taken_none, taken_some, taken_all, taken_short, taken_no_more, nothing_left}
use Rattle.couch_http.proofs.writing.write_bytes.Goals as goal

pub loop-rest-init : goal.loop-rest-init
loop-rest-init g c = record { taken = taken_none (g.W.Write.contents c.args.writer.now) c.args.bytes.now }

pub returns-in-Ok-eq0 : goal.returns-in-Ok-eq0
returns-in-Ok-eq0 g c =
    let start = g.W.Write.contents c.args.writer.now in
    let after = g.W.Write.contents c.write_some.new.writer in
    let rest = drop c.in-Ok-eq0.field-0 c.loop-rest.rest.now in
    taken_short start after rest c.args.bytes.now
    (taken_some start (g.W.Write.contents c.loop-rest.writer) after c.loop-rest.rest.now c.args.bytes.now rest c.in-Ok-eq0.field-0 c.loop-rest.invariant.taken c.in-Ok-eq0.ensures.bytes refl)

pub returns-in-Err : goal.returns-in-Err
returns-in-Err g c =
    taken_no_more (g.W.Write.contents c.args.writer.now) (g.W.Write.contents c.loop-rest.writer) (g.W.Write.contents c.write_some.new.writer) c.loop-rest.rest.now c.args.bytes.now
    c.loop-rest.invariant.taken c.in-Err.ensures.bytes

pub loop-rest-preserved : goal.loop-rest-preserved
loop-rest-preserved g c = record {
  taken = taken_some (g.W.Write.contents c.args.writer.now) (g.W.Write.contents c.loop-rest.writer) (g.W.Write.contents c.write_some.new.writer) c.loop-rest.rest.now c.args.bytes.now
      c.skip-rest.result.now c.in-Ok.count c.loop-rest.invariant.taken c.in-Ok.ensures.bytes c.skip-rest.ensures;
}

pub returns : goal.returns
returns g c =
    let start = g.W.Write.contents c.args.writer.now in
    let after = g.W.Write.contents c.loop-rest.writer in
    taken_all start after true c.args.bytes.now
    (subst (λ (l : List ℕ). HasTaken start after l c.args.bytes.now) (nothing_left c.loop-rest.rest.now c.is_empty.result c.is_empty.ensures c.loop-rest-test.false) c.loop-rest.invariant.taken)
