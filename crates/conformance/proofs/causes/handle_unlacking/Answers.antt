use Rattle.couch_http.specs.Message.{message_of}
use Rattle.node.specs.Answer.{answer}
use Rattle.conformance.proofs.Failures.{failed_alone}
use Rattle.conformance.proofs.causes.handle_unlacking.Goals as goal

pub returns : goal.returns
returns c after = λ failed honest numbers room.
    let old = after.args.node.now.store in
    failed_alone c.S.Store old after.handle.new.self.store (answer after.args.node.now.configuration (c.S.Store.contents old) (message_of after.args.request.now)).change
    honest numbers room (after.handle.ensures.failure failed)
