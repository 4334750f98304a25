-- One of the two sets has one more.
use Rattle.std.proofs.Common.{◌≡◌, ◌∙◌, ◌&&◌, ◌||◌, Bool, true, false, not, sym, ap}
use Rattle.std.specs.Ordering.{eq_by_cmp}
use Rattle.tree.specs.Revision.{Revision, revision_cmp}
use Rattle.tree.specs.Nodes.{has, is_mark, leaves_with}
use Rattle.tree.proofs.Between.{with_one}
use Rattle.tree.proofs.marked_leaves.MarkedLeaves.insert.Goals as goal

deleted_more : (c : goal.In_ok-insert) (mark : Bool) (s : Revision)
    → has (leaves_with (record { live = c.args.self.now.live; deleted = c.insert.new.self }) mark) s ≡ ((is_mark mark c.args.deleted && eq_by_cmp revision_cmp c.args.rev s) || has (leaves_with c.args.self.now mark) s)
deleted_more c true s =
    with_one (eq_by_cmp revision_cmp c.args.rev s) _ _ (c.in_ok-insert.ensures.updates.0 s)
    ∙ ap (λ b. (b && eq_by_cmp revision_cmp c.args.rev s) || has c.args.self.now.deleted.keys s) (sym c.if-deleted.true)
deleted_more c false s = ap (λ b. (not b && eq_by_cmp revision_cmp c.args.rev s) || has c.args.self.now.live.keys s) (sym c.if-deleted.true)

live_more : (c : goal.In_ok-insert-2) (mark : Bool) (s : Revision)
    → has (leaves_with (record { live = c.insert-else-deleted.new.self; deleted = c.args.self.now.deleted }) mark) s ≡ ((is_mark mark c.args.deleted && eq_by_cmp revision_cmp c.args.rev s) || has (leaves_with c.args.self.now mark) s)
live_more c true s = ap (λ b. (b && eq_by_cmp revision_cmp c.args.rev s) || has c.args.self.now.deleted.keys s) (sym c.if-deleted.false)
live_more c false s =
    with_one (eq_by_cmp revision_cmp c.args.rev s) _ _ (c.in_ok-insert-2.ensures.updates.0 s)
    ∙ ap (λ b. (not b && eq_by_cmp revision_cmp c.args.rev s) || has c.args.self.now.live.keys s) (sym c.if-deleted.false)

pub returns-in_ok-insert-clause-ok : goal.returns-in_ok-insert-clause-ok
returns-in_ok-insert-clause-ok c = deleted_more c

pub returns-in_ok-insert-2-clause-ok : goal.returns-in_ok-insert-2-clause-ok
returns-in_ok-insert-2-clause-ok c = live_more c
