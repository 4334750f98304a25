use Rattle.std.proofs.Common.{◌≡◌, ◌-◌, length}
use Rattle.lab.proofs.RunLemmas.{HasRun}
use Rattle.lab.proofs.showing.run.Given as goal

abbrev pub invariant-loop-turn : goal.invariant-loop-turn
invariant-loop-turn g l = record {
  ran : HasRun g.S.Store l.most (l.most - l._turn) l.repl l.name l.fn.world l.world (g.W.Write.contents l.initial.out) (g.W.Write.contents l.out);
  many : length l.world.nodes ≡ length l.fn.world.nodes;
}
