use Rattle.std.proofs.lemmas.Result.{IfOk-weaker}
use Rattle.hub.specs.Answering.{StoreSteps}
use Rattle.world.specs.Service.{alike}
use Rattle.world.proofs.Exchanges.{happens_exchanged}
use Rattle.world.proofs.world.World.exchange.Goals as goal

pub returns-clause-happens : goal.returns-clause-happens
returns-clause-happens g c =
    IfOk-weaker c.exchange.result _ _
    (λ outcome h honest. rw (← c.self.view_is) (happens_exchanged (alike (StoreSteps g.S.Store)) _ _ c.args.repl c.args.fate outcome (h honest c.self.inside.homes.items c.self.inside.connections)))
    c.exchange.ensures.exchanged
