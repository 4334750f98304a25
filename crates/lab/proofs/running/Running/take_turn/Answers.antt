use Rattle.std.proofs.Common.{ap, false, subst, sym}
use Rattle.std.specs.Prelude.{is_some}
use Rattle.lab.proofs.JudgedLemmas.{judged_err, judged_known}
use Rattle.lab.specs.Naming.{value_named}
use Rattle.lab.specs.Stopping.{IsFaultJudged}
use Rattle.world.specs.declared.fate.Fate.TheVariants.{Answered, ReplyLost, RequestLost}
use Rattle.lab.proofs.PlayLemmas.{OnOk-then}
use Rattle.lab.proofs.SceneLemmas.{exchanges_of, turned}
use Rattle.lab.specs.Stages.{names_of}
use Rattle.lab.specs.declared.turn.Turn.TheVariants.{Step, Lose, Unsent, Run}
use Rattle.lab.proofs.running.Running.take_turn.Goals as goal

pub returns-in-Step-clause-turned : goal.returns-in-Step-clause-turned
returns-in-Step-clause-turned g c =
    OnOk-then c.exchange.result c.exchange.ensures.shown
    (λ q. (
      q.1,
      turned g.S.Store c.args.turn Step (names_of c.args.self.now) (names_of c.exchange.new.self) c.args.name.now q.1 c.in-Step.is
          (exchanges_of g.S.Store (names_of c.args.self.now) (names_of c.exchange.new.self) c.args.name.now c.in_ok-repl.repl Answered q.0 q.1 c.in_ok-repl.ensures.number q.2 q.3),
      q.4,
    ))

pub returns-in-Lose-clause-turned : goal.returns-in-Lose-clause-turned
returns-in-Lose-clause-turned g c =
    OnOk-then c.exchange-in-Lose.result c.exchange-in-Lose.ensures.shown
    (λ q. (
      q.1,
      turned g.S.Store c.args.turn Lose (names_of c.args.self.now) (names_of c.exchange-in-Lose.new.self) c.args.name.now q.1 c.in-Lose.is
          (exchanges_of g.S.Store (names_of c.args.self.now) (names_of c.exchange-in-Lose.new.self) c.args.name.now c.in_ok-repl.repl ReplyLost q.0 q.1 c.in_ok-repl.ensures.number q.2 q.3),
      q.4,
    ))

pub returns-in-Unsent-clause-turned : goal.returns-in-Unsent-clause-turned
returns-in-Unsent-clause-turned g c =
    OnOk-then c.exchange-in-Unsent.result c.exchange-in-Unsent.ensures.shown
    (λ q. (
      q.1,
      turned g.S.Store c.args.turn Unsent (names_of c.args.self.now) (names_of c.exchange-in-Unsent.new.self) c.args.name.now q.1 c.in-Unsent.is
          (exchanges_of g.S.Store (names_of c.args.self.now) (names_of c.exchange-in-Unsent.new.self) c.args.name.now c.in_ok-repl.repl RequestLost q.0 q.1 c.in_ok-repl.ensures.number q.2 q.3),
      q.4,
    ))

pub returns-in-Run-clause-turned : goal.returns-in-Run-clause-turned
returns-in-Run-clause-turned g c =
    OnOk-then c.run.result c.run.ensures.ran
    (λ q. (
      q.0,
      turned g.S.Store c.args.turn Run (names_of c.args.self.now) (names_of c.run.new.self) c.args.name.now q.0 c.in-Run.is
          (c.in_ok-repl.repl, c.in_ok-repl.ensures.number, ((names_of c.run.new.self).network, q.1, q.2)),
      q.3,
    ))

pub returns-in_err-repl-clause-judged : goal.returns-in_err-repl-clause-judged
returns-in_err-repl-clause-judged g c =
    let can = is_some (value_named c.args.name.now (names_of c.args.self.now).passes) in
    let unknown = c.in_err-repl.ensures.unknown in
    judged_err false can c.in_err-repl.field-0.0 c.from_residual.result c.from_residual.ensures.1 (subst (IsFaultJudged false can) (sym unknown.0) unknown.1)

pub returns-in-Step-clause-judged : goal.returns-in-Step-clause-judged
returns-in-Step-clause-judged g c =
    judged_known false (is_some (value_named c.args.name.now (names_of c.args.self.now).passes)) c.exchange.result c.exchange.ensures.faults (ap is_some c.in_ok-repl.ensures.number)

pub returns-in-Lose-clause-judged : goal.returns-in-Lose-clause-judged
returns-in-Lose-clause-judged g c =
    judged_known false (is_some (value_named c.args.name.now (names_of c.args.self.now).passes)) c.exchange-in-Lose.result c.exchange-in-Lose.ensures.faults (ap is_some c.in_ok-repl.ensures.number)

pub returns-in-Unsent-clause-judged : goal.returns-in-Unsent-clause-judged
returns-in-Unsent-clause-judged g c =
    judged_known false (is_some (value_named c.args.name.now (names_of c.args.self.now).passes)) c.exchange-in-Unsent.result c.exchange-in-Unsent.ensures.faults (ap is_some c.in_ok-repl.ensures.number)

pub returns-in-Run-clause-judged : goal.returns-in-Run-clause-judged
returns-in-Run-clause-judged g c =
    judged_known false (is_some (value_named c.args.name.now (names_of c.args.self.now).passes)) c.run.result c.run.ensures.faults (ap is_some c.in_ok-repl.ensures.number)
