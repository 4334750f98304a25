-- One that is taken back, or did not come in.
use Rattle.std.proofs.Common.{◌≡◌, ◌∙◌, ◌<◌, ◌&&◌, List, Option, ap, sym, length, not, arith}
use Rattle.tree.specs.Revision.{Revision}
use Rattle.tree.specs.Nodes.{Insertion, has, is_new, leaves_with, nodes_before}
use Rattle.tree.proofs.Between.{lost_last, new_last, popped, shorter, skipped}
use Rattle.tree.proofs.Insertions.{nodes_less}
use Rattle.tree.proofs.nodes.take_back.Goals as goal

pub loop-is_new-preserved-then-is_new : goal.loop-is_new-preserved-then-is_new
loop-is_new-preserved-then-is_new c =
    let inv = c.loop-is_new.invariant in
    let less = shorter c.loop-is_new.came_in.items c.pop.new.self.items c.in-Some.is_new c.in-Some.ensures.items in
    let at : length c.pop.new.self.items ≡ c.len.result = sym c.pop.new.self.ok.0 ∙ sym c.len.ensures in
    let within : c.len.result < length c.args.path.now = let few = inv.few in omega arith in
    let split = λ (parent : Option Revision). popped c.loop-is_new.came_in.items c.pop.new.self.items c.args.path.now c.len.result c.in-Some.is_new c.index-path-len.result parent at within c.index-path-len.is c.if-is_new.true c.in-Some.ensures.items in
    record {
      few = let few = inv.few in omega arith;
      nodes = λ parent. nodes_less _ _ _ _ _ _ (split parent) c.take_back_one.ensures.nodes (inv.nodes parent);
      leaves = λ parent mark r. lost_last _ _ _ _ _ _ (c.take_back_one.ensures.leaves mark r) (new_last _ _ _ r (split parent)) (inv.leaves parent mark r);
    }

pub loop-is_new-preserved : goal.loop-is_new-preserved
loop-is_new-preserved c =
    let inv = c.loop-is_new.invariant in
    let less = shorter c.loop-is_new.came_in.items c.pop.new.self.items c.in-Some.is_new c.in-Some.ensures.items in
    let same = λ (parent : Option Revision). skipped c.loop-is_new.came_in.items c.pop.new.self.items c.args.path.now c.in-Some.is_new parent c.if-is_new.false c.in-Some.ensures.items in
    record {
      few = let few = inv.few in omega arith;
      nodes = λ parent. ap (nodes_before c.loop-is_new.nodes.entries) (sym (same parent)) ∙ inv.nodes parent;
      leaves = λ parent mark r. ap (λ (is : List Insertion). has (leaves_with c.loop-is_new.leaves mark) r && not (is_new is r)) (sym (same parent)) ∙ inv.leaves parent mark r;
    }
