use Rattle.std.proofs.Common.{◌∙◌}
use Rattle.lab.proofs.PlayLemmas.{OnOk-then}
use Rattle.lab.proofs.RunLemmas.{run_ended, run_on, run_over}
use Rattle.lab.proofs.showing.run.Goals as goal

pub returns-then-branch-clause-ran : goal.returns-then-branch-clause-ran
returns-then-branch-clause-ran g c =
    let q = c.in_ok-show.ensures.shown (λ k d inside. g.met.S.LabStore.honest _) in
    run_ended g.S.Store c.args.most c.loop-turn._turn c.args.repl c.args.name.now q.1 q.0 c.args.world.now c.loop-turn.world c.show.new.world (g.W.Write.contents c.args.out.now)
    (g.W.Write.contents c.loop-turn.out) (g.W.Write.contents c.show.new.out) c.loop-turn.invariant.ran c.loop-turn-test.true q.2 (q.3 ∙ c.if-branch.true) q.4

pub loop-turn-preserved : goal.loop-turn-preserved
loop-turn-preserved g c =
    let q = c.in_ok-show.ensures.shown (λ k d inside. g.met.S.LabStore.honest _) in record {
      ran = run_on g.S.Store c.args.most c.loop-turn._turn c.args.repl c.args.name.now q.1 q.0 c.args.world.now c.loop-turn.world c.show.new.world (g.W.Write.contents c.args.out.now)
          (g.W.Write.contents c.loop-turn.out) (g.W.Write.contents c.show.new.out) c.loop-turn.invariant.ran c.loop-turn-test.true q.2 (q.3 ∙ c.if-branch.false) q.4;
      many = c.in_ok-show.ensures.many ∙ c.loop-turn.invariant.many;
    }

pub returns-clause-ran : goal.returns-clause-ran
returns-clause-ran g c =
    OnOk-then c.show_end.result c.show_end.ensures.said
    (λ q. run_over g.S.Store c.args.most c.loop-turn._turn c.args.repl c.args.name.now q.0 c.args.world.now c.loop-turn.world c.show_end.new.world (g.W.Write.contents c.args.out.now)
    (g.W.Write.contents c.loop-turn.out) (g.W.Write.contents c.show_end.new.out) c.loop-turn.invariant.ran c.loop-turn-test.false q.1 q.2)
