-- One that comes in, or is taken back.
use Rattle.std.proofs.Common.{[], ◌∷◌, ◌∙◌, List, refl, sym, subst}
use Rattle.tree.specs.Revision.{Revision}
use Rattle.tree.specs.Nodes.{AreKept, insertion_of}
use Rattle.tree.proofs.Between.{came, gone_back, one_gone, one_lost, settled, unsettled_open}
use Rattle.tree.proofs.nodes.put_new.Goals as goal

pub returns-in_default-clause-kept : goal.returns-in_default-clause-kept
returns-in_default-clause-kept c =
    let between = came _ _ _ _ _ _ c.args.entry _ c.requires.kept c.in_ok-put_node.ensures.ok c.in_ok-put_node.ensures.new c.in_ok-put_node.ensures.leaves c.if-not-branch.false in
    subst (λ (ks : List Revision). AreKept c.take_back_one.new.nodes.entries c.take_back_one.new.leaves ks) (sym c.in_default.ensures.err)
    (gone_back _ _ _ _ _ _ _ c.requires.kept.in_order c.take_back_one.ensures.nodes (one_gone _ _ _ c.take_back_one.ensures.leaves) between.back)

pub returns-in_default-clause-err : goal.returns-in_default-clause-err
returns-in_default-clause-err c =
    let between = came _ _ _ _ _ _ c.args.entry _ c.requires.kept c.in_ok-put_node.ensures.ok c.in_ok-put_node.ensures.new c.in_ok-put_node.ensures.leaves c.if-not-branch.false in
    c.take_back_one.ensures.nodes ∙ between.back.before

pub returns-clause-kept : goal.returns-clause-kept
returns-clause-kept c =
    let between = came _ _ _ _ _ _ c.args.entry _ c.requires.kept c.in_ok-put_node.ensures.ok c.in_ok-put_node.ensures.new c.in_ok-put_node.ensures.leaves c.if-not-branch.false in
    settled _ _ _ _ _ (insertion_of c.args.rev c.args.entry ∷ []) (one_gone _ _ _ c.settle_one.ensures.leaves) (one_lost _ _ _ c.settle_one.ensures.awaited) (unsettled_open _ _ _ _ _ _ _ _ refl c.in-Ok.ensures.ok between)
