use Rattle.std.proofs.Common.{sym, ap, ◌∙◌}
use Rattle.couch_http.specs.Message.{message_of}
use Rattle.couch_http.specs.Reply.{Reply}
use Rattle.node.proofs.Steps.{answer_served}
use Rattle.node.proofs.dispatch.handle.Goals as goal

pub returns-in-Ok-clause-told : goal.returns-in-Ok-clause-told
returns-in-Ok-clause-told g c = λ honest failed. absurd
    ((answer_served c.args.auth.now (g.S.Store.contents c.args.store.now) (message_of c.args.request.now)).0
    (sym (ap (λ (r : Reply). r.status) (c.in-Ok.ensures.ok honest).0) ∙ failed))
