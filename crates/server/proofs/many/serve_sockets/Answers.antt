use Rattle.std.proofs.Common.{Ok, Err}
use Rattle.command_line.specs.declared.fault.ProgramFault.TheVariants.{Socket}
use Rattle.server.proofs.ServingLemmas.{within_words}
use Rattle.server.proofs.many.serve_sockets.Goals as goal

pub returns-in-Ok-clause-within : goal.returns-in-Ok-clause-within
returns-in-Ok-clause-within g c =
    within_words g.S.Store c.args.conns c.args.at_once c.from.result (Ok c.in-Ok.field-0) (Ok 0) _ _ c.from.ensures c.in-Ok.ensures.within (λ X x. x)

pub returns-in-Err-Socket-clause-within : goal.returns-in-Err-Socket-clause-within
returns-in-Err-Socket-clause-within g c =
    within_words g.S.Store c.args.conns c.args.at_once c.from.result (Err c.in-Err-Socket.field-0) (Err Socket) _ _ c.from.ensures c.in-Err-Socket.ensures.within (λ X x. x)
