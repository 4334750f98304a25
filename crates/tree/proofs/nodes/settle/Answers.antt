-- One more that is settled, or did not come in; and the end.
use Rattle.std.proofs.Common.{◌+◌, ◌∙◌, ◌&&◌, List, drop, not, refl, sym, ap}
use Rattle.std.proofs.lemmas.List.{take_rest}
use Rattle.tree.specs.Revision.{Revision}
use Rattle.tree.specs.Nodes.{Insertion, has, insertions_in, is_followed, is_new, leaves_with, next_of}
use Rattle.tree.proofs.Between.{lost_next, none_left, rest_came, rest_skipped}
use Rattle.tree.proofs.nodes.settle.Goals.{then-came_in-i, else-came_in-i}
use Rattle.tree.proofs.nodes.settle.Goals as goal

pub loop-i-preserved : goal.loop-i-preserved
loop-i-preserved c =
    let inv = c.loop-i.invariant in
    let path = c.args.path.now in
    let n = c.loop-i.i in
    let parent = c.args.parent.now in
    let rest = insertions_in (drop (n + 1) c.args.came_in.now) (drop (n + 1) path) parent in
    elim c.if-came_in-i.branch [
      | then-came_in-i w ↦
          let up = w.find_next.ensures ∙ ap (λ (p : List Revision). next_of p parent) (take_rest path (n + 1)) in
          let cut = rest_came c.args.came_in.now path n c.index-path-i.result parent w.find_next.result c.requires c.loop-i-test.true c.index-path-i.is up w.if-came_in-i.true in
          rw (w.leaves-is, w.awaited-is) (record {
            leaves = λ mark r. lost_next _ _ _ (is_followed rest r) _ (w.settle_one.ensures.leaves mark r) (ap (λ (is : List Insertion). has (leaves_with c.loop-i.leaves mark) r && not (is_followed is r)) (sym cut) ∙ inv.leaves mark r);
            awaited = λ r. lost_next _ _ _ (is_new rest r) _ (w.settle_one.ensures.awaited r) (ap (λ (is : List Insertion). has c.loop-i.awaited.keys r && not (is_new is r)) (sym cut) ∙ inv.awaited r);
          })
      | else-came_in-i w ↦
          let cut = rest_skipped c.args.came_in.now path n c.index-path-i.result parent c.requires c.loop-i-test.true c.index-path-i.is w.if-came_in-i.false in
          rw (w.leaves-is, w.awaited-is) (record {
            leaves = λ mark r. ap (λ (is : List Insertion). has (leaves_with c.loop-i.leaves mark) r && not (is_followed is r)) (sym cut) ∙ inv.leaves mark r;
            awaited = λ r. ap (λ (is : List Insertion). has c.loop-i.awaited.keys r && not (is_new is r)) (sym cut) ∙ inv.awaited r;
          })
    ]

pub returns-clause-leaves : goal.returns-clause-leaves
returns-clause-leaves c = λ mark r. none_left _ (λ is. is_followed is r) _ _ _ _ _ c.requires c.loop-i-test.false refl (c.loop-i.invariant.leaves mark r)

pub returns-clause-awaited : goal.returns-clause-awaited
returns-clause-awaited c = λ r. none_left _ (λ is. is_new is r) _ _ _ _ _ c.requires c.loop-i-test.false refl (c.loop-i.invariant.awaited r)
