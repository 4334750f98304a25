use Rattle.std.proofs.Common.{inl, inr, arith}
use Rattle.couch_http.specs.Message.{message_of}
use Rattle.store.specs.contracts.plain_store.PlainStoreStore.TheImpl.{ghosts}
use Rattle.store.specs.Causes.{HasFailed}
use Rattle.node.proofs.Steps.{step_unfailing, unfailing_status}
use Rattle.node.proofs.memory.handle_in_memory.Goals as goal

never_failed : HasFailed 0 0 → ⊥
never_failed (inl rose) = omega (arith, rose)
never_failed (inr full) = omega (arith, full)

pub returns-clause-step : goal.returns-clause-step
returns-clause-step c =
    let old = c.args.node.now.store in
    let new = c.handle.new.self.store in
    step_unfailing ghosts old new c.args.node.now.configuration (ghosts.contents old) (message_of c.args.request.now) c.handle.result (ghosts.contents new)
    never_failed (λ h. h) (λ name ws h. h) (c.handle.ensures.step tt)

pub returns-clause-served : goal.returns-clause-served
returns-clause-served c =
    unfailing_status c.args.node.now.configuration (ghosts.contents c.args.node.now.store) (message_of c.args.request.now) c.handle.result (ghosts.contents c.handle.new.self.store)
    (returns-clause-step c)
