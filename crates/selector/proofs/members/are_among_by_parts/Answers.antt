use Rattle.std.proofs.Common.{◌∙◌}
use Rattle.couch_json.specs.View.{items_view}
use Rattle.selector.specs.Truth.{is_element}
use Rattle.selector.proofs.Marks.{back-ascends, front-ascends, part-fails, part-holds}
use Rattle.selector.proofs.members.are_among_by_parts.Goals as goal

pub are_found-requires-clause-ascending : goal.are_found-requires-clause-ascending
are_found-requires-clause-ascending c = front-ascends 65536 c.loop-rest.rest.now c.split_at.result.0.now c.split_at.ensures.front c.loop-rest.invariant.ascending

pub returns-then-not-are_found : goal.returns-then-not-are_found
returns-then-not-are_found c =
    part-fails (λ w. is_element w (items_view c.args.items.now)) 65536 c.loop-rest.rest.now c.split_at.result.0.now _ c.are_found.result c.split_at.ensures.front c.loop-rest.invariant.each c.are_found.ensures c.if-not-are_found.true

pub loop-rest-preserved : goal.loop-rest-preserved
loop-rest-preserved c = record {
  ascending = back-ascends 65536 c.loop-rest.rest.now c.split_at.result.1.now c.split_at.ensures.back c.loop-rest.invariant.ascending;
  each = c.loop-rest.invariant.each
      ∙ part-holds (λ w. is_element w (items_view c.args.items.now)) 65536 c.loop-rest.rest.now c.split_at.result.0.now c.split_at.result.1.now c.are_found.result c.split_at.ensures.front c.split_at.ensures.back c.are_found.ensures c.if-not-are_found.false;
}
