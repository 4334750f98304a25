use Rattle.std.proofs.Common.{◌∙◌, arith}
use Rattle.store.proofs.Calls.{goes_on_then}
use Rattle.hub.proofs.Failures.{each_more, tells_more}
use Rattle.hub.proofs.Serving.{serves_more}
use Rattle.hub.proofs.answering.answer_all.Goals as goal

pub loop-request-preserved : goal.loop-request-preserved
loop-request-preserved g c = record {
  served = λ honest. rw c.push_reserved.ensures.items (serves_more g.S.Store c.args.node.now.configuration c.loop-request.node.configuration c.loop-request.invariant.configuration
      c.args.node.now.store c.loop-request.node.store c.answer.new.node.store c.args.requests.now c.loop-request.request-index c.request-item.result c.loop-request-test.true
      c.request-item.is c.loop-request.list.items c.answer.result (c.loop-request.invariant.served (c.answer.ensures.onward.honest honest)) (c.answer.ensures.step honest));
  configuration = c.answer.ensures.configuration ∙ c.loop-request.invariant.configuration;
  onward = goes_on_then g.S.Store c.args.node.now.store c.loop-request.node.store c.answer.new.node.store c.loop-request.invariant.onward c.answer.ensures.onward;
  tells = rw c.push_reserved.ensures.items (tells_more (g.L.FailureLog.told c.args.log.now) (g.L.FailureLog.told c.loop-request.log) (g.L.FailureLog.told c.answer.new.log)
      c.args.requests.now c.loop-request.request-index c.request-item.result c.loop-request-test.true c.request-item.is c.loop-request.list.items c.answer.result
      c.loop-request.invariant.each c.loop-request.invariant.tells c.answer.ensures.tells);
  each = rw c.push_reserved.ensures.items (each_more c.args.requests.now c.loop-request.request-index c.request-item.result c.loop-request-test.true c.request-item.is c.loop-request.list.items c.answer.result
      c.loop-request.invariant.each);
  len = omega arith;
  capacity = c.push_reserved.ensures.capacity ∙ c.loop-request.invariant.capacity;
}
