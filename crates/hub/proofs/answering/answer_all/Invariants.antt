use Rattle.std.proofs.Common.{◌≡◌, ◌+◌, length, map, take, vec_capacity, vec_len}
use Rattle.couch_http.specs.Message.{message_of}
use Rattle.store.specs.Calls.{GoesOn}
use Rattle.hub.specs.Answering.{RepliesInOrder}
use Rattle.hub.specs.Failing.{Tells, failures_in}
use Rattle.hub.proofs.answering.answer_all.Given as goal

abbrev pub invariant-loop-request : goal.invariant-loop-request
invariant-loop-request g l = record {
  served : g.S.Store.is_honest l.node.store → RepliesInOrder g.S.Store l.initial.node.configuration l.initial.node.store (map message_of (take l.request-index l.requests)) l.list.items l.node.store;
  configuration : l.node.configuration ≡ l.initial.node.configuration;
  onward : GoesOn g.S.Store l.initial.node.store l.node.store;
  tells : Tells (g.L.FailureLog.told l.initial.log) (g.L.FailureLog.told l.log) (failures_in (map message_of (take l.request-index l.requests)) l.list.items);
  each : length l.list.items ≡ length (map message_of (take l.request-index l.requests));
  len : vec_len l.list ≡ vec_len l.initial.list + l.request-index;
  capacity : vec_capacity l.list ≡ vec_capacity l.initial.list;
}
