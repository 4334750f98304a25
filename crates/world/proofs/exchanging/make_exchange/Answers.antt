use Rattle.std.proofs.Common.{refl}
use Rattle.couch_http.specs.Message.{message_of}
use Rattle.hub.specs.Answering.{StoreSteps}
use Rattle.repl.specs.Asks.{pass_of}
use Rattle.repl.specs.Passes.{asked_of}
use Rattle.world.specs.inner.Turning.{transfer_of}
use Rattle.world.proofs.Exchanges.{lost_source, lost_target}
use Rattle.world.proofs.Onward.{nodes_themselves}
use Rattle.world.proofs.exchanging.make_exchange.Goals as goal

pub returns-in_default-clause-made : goal.returns-in_default-clause-made
returns-in_default-clause-made g c = λ honest. (
  c.in_default.ensures.lost.0,
  lost_source (StoreSteps g.S.Store) c.args.nodes.now.items c.carry.new.nodes.items c.args.repl (transfer_of c.args.transfer.now) _ (asked_of (pass_of c.args.transfer.now.pass))
      (message_of c.in-Ok-ToSource.request) (rw c.in-Ok-ToSource.field-0-is at c.in-Ok-ToSource.ensures) refl (c.in_default.ensures.lost.1 honest),
)

pub returns-in_default-carry-clause-made : goal.returns-in_default-carry-clause-made
returns-in_default-carry-clause-made g c = λ honest. (
  c.in_default-carry.ensures.lost.0,
  lost_target (StoreSteps g.S.Store) c.args.nodes.now.items c.carry-in-Ok-ToTarget.new.nodes.items c.args.repl (transfer_of c.args.transfer.now) _
      (asked_of (pass_of c.args.transfer.now.pass)) (message_of c.in-Ok-ToTarget.request) (rw c.in-Ok-ToTarget.field-0-is at c.in-Ok-ToTarget.ensures) refl
      (c.in_default-carry.ensures.lost.1 honest),
)

pub returns-in-Ok-Done-clause-onward : goal.returns-in-Ok-Done-clause-onward
returns-in-Ok-Done-clause-onward g c = nodes_themselves g.S.Store c.args.nodes.now.items

pub returns-in-Ok-Stopped-clause-onward : goal.returns-in-Ok-Stopped-clause-onward
returns-in-Ok-Stopped-clause-onward g c = nodes_themselves g.S.Store c.args.nodes.now.items

pub returns-in-Err-clause-onward : goal.returns-in-Err-clause-onward
returns-in-Err-clause-onward g c = nodes_themselves g.S.Store c.args.nodes.now.items
