use Rattle.std.proofs.Common.{◌++◌, ◌∙◌, ℕ, List, ap₂, refl, subst, take-append-drop}
use Rattle.store.proofs.Calls.{goes_on_itself, goes_on_then}
use Rattle.couch_http.proofs.Taken.{nothing_left}
use Rattle.hub.proofs.PartLemmas.{ServedSoFar, part_ends, piece_done, so_far_more, so_far_none}
use Rattle.hub.proofs.service.serve_piece.Goals as goal

pub loop-rest-init : goal.loop-rest-init
loop-rest-init g c = record {
  served = so_far_none g.S.Store c.args.hub.now c.args.conn c.args.piece.now (g.W.Write.contents c.args.writer.now);
  is_open = c.requires.open;
  configuration = refl;
  onward = goes_on_itself g.S.Store c.args.hub.now.node.store;
}

pub returns-in-Some-clause-served : goal.returns-in-Some-clause-served
returns-in-Some-clause-served g c =
    part_ends g.S.Store c.args.hub.now c.loop-rest.hub c.serve_part.new.hub c.args.conn c.args.piece.now c.loop-rest.rest.now c.split_at.result.0.now c.split_at.result.1.now c.in-Some.end
    (g.W.Write.contents c.args.writer.now) (g.W.Write.contents c.loop-rest.writer) (g.W.Write.contents c.serve_part.new.writer)
    c.requires.open c.requires.size c.loop-rest.invariant.served
    (ap₂ (λ (x y : List ℕ). x ++ y) c.split_at.ensures.front c.split_at.ensures.back ∙ take-append-drop c.measure_part.result c.loop-rest.rest.now)
    c.in-Some.ensures.served c.in-Some.ensures.onward c.loop-rest.invariant.configuration

pub loop-rest-preserved : goal.loop-rest-preserved
loop-rest-preserved g c = record {
  served = so_far_more g.S.Store c.args.hub.now c.loop-rest.hub c.serve_part.new.hub c.args.conn c.args.piece.now c.loop-rest.rest.now c.split_at.result.0.now c.split_at.result.1.now
      (g.W.Write.contents c.args.writer.now) (g.W.Write.contents c.loop-rest.writer) (g.W.Write.contents c.serve_part.new.writer)
      c.loop-rest.invariant.served
      (ap₂ (λ (x y : List ℕ). x ++ y) c.split_at.ensures.front c.split_at.ensures.back ∙ take-append-drop c.measure_part.result c.loop-rest.rest.now)
      c.in_default.ensures.served c.in_default.ensures.onward c.loop-rest.invariant.configuration;
  is_open = c.in_default.ensures.open refl;
  configuration = c.in_default.ensures.configuration ∙ c.loop-rest.invariant.configuration;
  onward = goes_on_then g.S.Store c.args.hub.now.node.store c.loop-rest.hub.node.store c.serve_part.new.hub.node.store c.loop-rest.invariant.onward c.in_default.ensures.onward;
}

pub returns-clause-served : goal.returns-clause-served
returns-clause-served g c =
    let output = g.W.Write.contents c.args.writer.now in
    let after = g.W.Write.contents c.loop-rest.writer in
    piece_done g.S.Store c.args.hub.now c.loop-rest.hub c.args.conn c.args.piece.now output after c.requires.open c.requires.size c.requires.some
    (subst (λ (l : List ℕ). ServedSoFar g.S.Store c.args.hub.now c.args.conn c.args.piece.now l output after c.loop-rest.hub)
    (nothing_left c.loop-rest.rest.now c.is_empty.result c.is_empty.ensures c.loop-rest-test.false) c.loop-rest.invariant.served)
