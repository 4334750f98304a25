-- The leaves that are kept, turned round.
use Rattle.std.proofs.Common.{◌++◌, ◌∙◌, List, append-nil, sym, ap}
use Rattle.std.specs.Prelude.{reverse}
use Rattle.tree.specs.Revision.{Revision}
use Rattle.tree.specs.History.{leaves_marked}
use Rattle.tree.proofs.KeptLeaves.{kept_list, one_round}
use Rattle.tree.proofs.history.History.leaves_marked.Goals as goal

pub loop-rev-init : goal.loop-rev-init
loop-rev-init c =
    ap (λ (out : List Revision). out ++ reverse c.into_iter-rev-iterator.result.iter) c.new-leaves.ensures.items
    ∙ ap (λ it. reverse it.iter) c.into_iter-rev-iterator.ensures.into_iter_gives ∙ ap reverse (c.rev-rev-items.ensures.source ∙ c.iter.ensures.rest)
    ∙ kept_list c.args.deleted c.with_mark.result.now.keys c.self.inside.nodes.entries c.self.inside.leaves c.self.inside.awaited.keys c.self.invariant c.with_mark.ensures c.iter.ensures.ordered
    ∙ ap (leaves_marked c.args.deleted) c.self.view_is

pub loop-rev-preserved : goal.loop-rev-preserved
loop-rev-preserved c = one_round _ _ _ _ c.in-Some.rev.now _ c.in-Some.ensures.steps c.in_ok-push.ensures.items c.loop-rev.invariant

pub returns : goal.returns
returns c = sym (append-nil c.loop-rev.leaves.items) ∙ ap (λ (left : List Revision). c.loop-rev.leaves.items ++ reverse left) (sym c.in-None.ensures.steps.0) ∙ c.loop-rev.invariant
