use Rattle.couch_http.specs.Message.{message_of}
use Rattle.couch_http.specs.RequestText.{request_text}
use Rattle.sync.specs.Sending.{awaited_of}
use Rattle.sync.proofs.Queued.{awaits_more, bytes_more}
use Rattle.sync.proofs.ahead.Ahead.queue.Goals as goal

pub loop-request-preserved : goal.loop-request-preserved
loop-request-preserved c = record {
  awaited = awaits_more (λ r. request_text (message_of r)) c.args.next.now c.loop-request.request-index c.request-item.result c.in_ok-text.text.items c.loop-request-test.true c.request-item.is c.in_ok-text.ensures
      (awaited_of c.args.self.now) (awaited_of c.loop-request.self) (awaited_of c.push.new.self) c.in_ok-push.ensures.awaited c.loop-request.invariant.awaited;
  bytes = bytes_more (λ r. request_text (message_of r)) c.args.next.now c.loop-request.request-index c.request-item.result c.in_ok-text.text.items c.loop-request-test.true c.request-item.is c.in_ok-text.ensures
      (request_text (message_of c.args.first.now)) c.loop-request.bytes.items c.push.new.bytes.items c.in_ok-push.ensures.bytes c.loop-request.invariant.bytes;
}
