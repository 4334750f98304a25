use Rattle.std.proofs.Common.{subst}
use Rattle.couch_http.specs.Message.{message_of}
use Rattle.node.specs.Answer.{answer}
use Rattle.node.specs.Causes.{IsFailure}
use Rattle.node.specs.Step.{Serving}
use Rattle.node.proofs.Faults.{failure}
use Rattle.node.proofs.node.Node.handle_with_cause.Goals as goal

pub returns-clause-failure : goal.returns-clause-failure
returns-clause-failure g c is =
    let m = message_of c.args.request.now in
    subst (λ (n : Serving g.row.S.Denot). IsFailure g.S.Store n.store c.handle.new.store (answer n.configuration (g.S.Store.contents n.store) m).change) c.self.view_is
    (failure g.S.Store c.self.inside.store c.handle.new.store c.self.inside.auth m c.handle.result c.handle.ensures.step is)
