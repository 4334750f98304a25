use Rattle.std.proofs.Common.{◌∙◌, refl, arith}
use Rattle.store.proofs.Calls.{goes_on_itself, goes_on_then}
use Rattle.server.specs.Accepting.{acceptances_of}
use Rattle.server.proofs.ServingLemmas.{has_served_none, on_err, serves_all, serves_no_more, serves_one_more}
use Rattle.server.proofs.serving.serve.Goals as goal

pub loop-number-init : goal.loop-number-init
loop-number-init g c = record {
  served = has_served_none g.S.Store (acceptances_of c.args.listener.now.log.items) c.args.hub.now;
  configuration = refl;
  onward = goes_on_itself g.S.Store c.args.hub.now.node.store;
}

pub loop-number-preserved : goal.loop-number-preserved
loop-number-preserved g c =
    let one = c.in_ok-serve_next.ensures.served in
    record {
      served = serves_one_more g.S.Store c.loop-number._number (acceptances_of c.args.listener.now.log.items) (acceptances_of c.loop-number.listener.log.items)
          (acceptances_of c.serve_next.new.listener.log.items) one.0 c.args.hub.now c.loop-number.hub c.serve_next.new.hub c.loop-number.invariant.served one.1 one.2 one.3;
      configuration = c.in_ok-serve_next.ensures.configuration ∙ c.loop-number.invariant.configuration;
      onward = goes_on_then g.S.Store c.args.hub.now.node.store c.loop-number.hub.node.store c.serve_next.new.hub.node.store c.loop-number.invariant.onward c.in_ok-serve_next.ensures.onward;
    }

pub returns-in_err-serve_next-clause-failed : goal.returns-in_err-serve_next-clause-failed
returns-in_err-serve_next-clause-failed g c =
    let one = c.in_err-serve_next.ensures.served in
    on_err c.from_residual.result
    (serves_no_more g.S.Store c.loop-number._number (acceptances_of c.args.listener.now.log.items) (acceptances_of c.loop-number.listener.log.items)
    (acceptances_of c.serve_next.new.listener.log.items) one.0 c.args.hub.now c.loop-number.hub c.serve_next.new.hub c.args.conns c.loop-number-test.true c.loop-number.invariant.served one.1 one.2 one.4)

pub returns-clause-served : goal.returns-clause-served
returns-clause-served g c =
    serves_all g.S.Store c.loop-number._number c.args.conns (acceptances_of c.args.listener.now.log.items) (acceptances_of c.loop-number.listener.log.items) c.args.hub.now c.loop-number.hub
    (omega (arith, c.loop-number-test.false, c.loop-number.auto._number-end)) c.loop-number.invariant.served
