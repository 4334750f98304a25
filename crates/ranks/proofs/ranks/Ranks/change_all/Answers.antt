use Rattle.std.proofs.Common.{List, subst, arith}
use Rattle.std.proofs.lemmas.List.{drop_all}
use Rattle.ranks.proofs.Lists.{changes_step, counts_permuted}
use Rattle.ranks.specs.Counts.{AreChanges}
use Rattle.ranks.specs.declared.ranks.Change.{Change}
use Rattle.ranks.proofs.ranks.Ranks.change_all.Goals as goal

pub loop-i-preserved : goal.loop-i-preserved
loop-i-preserved c old new changes ranks =
    let so = c.loop-i.invariant old new changes ranks in
    changes_step c.args.changes.now c.loop-i.i _ so.0 new c.loop-i.self c.apply.new.self c.loop-i-test.true so.1 so.2 c.apply.ensures

pub returns : goal.returns
returns c so_many old new changes ranks =
    let so = c.loop-i.invariant old new changes ranks in
    let none = drop_all c.loop-i.i c.args.changes.now (omega (arith, c.loop-i-test.false)) in
    let self = c.loop-i.self in
    counts_permuted self.head so.0 new self.segments (subst (λ (cs : List Change). AreChanges cs so.0 new) none so.1) so.2
