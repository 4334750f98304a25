use Rattle.std.proofs.Common.{None}
use Rattle.server.proofs.ServingLemmas.{serves_none, within_none}
use Rattle.server.proofs.many.serve_many.Goals as goal

pub returns-in_err-sockets-clause-served : goal.returns-in_err-sockets-clause-served
returns-in_err-sockets-clause-served g c = serves_none g.S.Store c.args.hub.now

pub returns-in_err-sockets-clause-within : goal.returns-in_err-sockets-clause-within
returns-in_err-sockets-clause-within g c = within_none _ g.S.Store c.args.conns c.args.at_once c.from_residual.result c.args.hub.now c.from_residual.ensures.1

pub returns-in_err-print_address-clause-served : goal.returns-in_err-print_address-clause-served
returns-in_err-print_address-clause-served g c = serves_none g.S.Store c.args.hub.now

pub returns-in_err-print_address-clause-within : goal.returns-in_err-print_address-clause-within
returns-in_err-print_address-clause-within g c =
    within_none _ g.S.Store c.args.conns c.args.at_once c.from_residual-in_err-print_address.result c.args.hub.now c.from_residual-in_err-print_address.ensures.1

pub returns-clause-served : goal.returns-clause-served
returns-clause-served g c = (None, None, c.serve_sockets.ensures.served)

pub returns-clause-within : goal.returns-clause-within
returns-clause-within g c = (None, None, c.serve_sockets.ensures.within)
