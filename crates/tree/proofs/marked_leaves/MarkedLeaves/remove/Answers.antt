-- Both sets lose it.
use Rattle.std.proofs.Common.{◌≡◌, ◌&&◌, Bool, true, false, not}
use Rattle.std.specs.Ordering.{eq_by_cmp}
use Rattle.tree.specs.Revision.{Revision, revision_cmp}
use Rattle.tree.specs.Nodes.{has, leaves_with}
use Rattle.tree.proofs.Between.{without_one}
use Rattle.tree.proofs.marked_leaves.MarkedLeaves.remove.Goals as goal

both_less : (c : goal.After-remove-2) (mark : Bool) (r : Revision)
    → has (leaves_with (record { live = c.remove.new.self; deleted = c.remove-2.new.self }) mark) r ≡ (has (leaves_with c.args.self.now mark) r && not (eq_by_cmp revision_cmp c.args.rev.now r))
both_less c true r = without_one (eq_by_cmp revision_cmp c.args.rev.now r) _ _ (c.remove-2.ensures.updates.0 r)
both_less c false r = without_one (eq_by_cmp revision_cmp c.args.rev.now r) _ _ (c.remove.ensures.updates.0 r)

pub returns : goal.returns
returns c = both_less c
