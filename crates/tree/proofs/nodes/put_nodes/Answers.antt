-- One more revision of the path, and its end.
use Rattle.std.proofs.Common.{◌+◌, ◌∙◌, Bool, List, length, refl, sym, ap, subst, arith}
use Rattle.std.proofs.lemmas.List.{drop_all, take_rest}
use Rattle.tree.specs.Revision.{Revision}
use Rattle.tree.specs.Nodes.{CanGoBack, IsBetween, entries_before, insertions_in, next_of, nodes_with}
use Rattle.tree.proofs.Between.{back_still, next_at_end, next_is, on_err, pushed, shorter, start, step, unsettled_closed, unsettled_open}
use Rattle.tree.proofs.Insertions.{path_step}
use Rattle.tree.proofs.nodes.put_nodes.Goals.{then-is_followed+in_ok-await_parent, else-is_followed}
use Rattle.tree.proofs.nodes.put_nodes.Goals as goal

pub loop-i-init : goal.loop-i-init
loop-i-init c = record {
  between = rw c.requires.empty (start c.args.nodes.now.entries c.args.leaves.now c.args.awaited.now.keys (next_of c.args.path.now c.args.parent) c.requires.kept);
  each = ap (λ (bs : List Bool). length bs) c.requires.empty;
  room = c.requires.room;
  rest = refl;
}

pub returns-in_err-is_followed-clause-err : goal.returns-in_err-is_followed-clause-err
returns-in_err-is_followed-clause-err c =
    on_err _ _ (back_still _ _ _ _ _ _ _ _ _ c.in_err-is_followed.ensures.err.0 c.in_err-is_followed.ensures.err.1 c.loop-i.invariant.between)

pub note-requires : goal.note-requires
note-requires c = let a = c.loop-i.invariant.each in let b = c.loop-i.invariant.room in let d = c.loop-i-test.true in let e = c.loop-i.came_in.ok.0 in omega arith

pub loop-i-preserved : goal.loop-i-preserved
loop-i-preserved c =
    let inv = c.loop-i.invariant in
    let path = c.args.path.now in
    let up = c.find_next.ensures ∙ ap (λ p. next_of p c.args.parent) (take_rest path (c.loop-i.i + 1)) in
    record {
      between = subst (IsBetween c.args.nodes.now.entries c.put_node.new.nodes.entries c.put_node.new.leaves c.args.awaited.now.keys (insertions_in c.note.new.came_in.items path c.args.parent) c.in_ok-is_followed.is_followed) up
          (step _ _ _ _ _ _ _ _ _ _ c.index-path-i.result (record { parent = c.find_next.result; held = c.take.result }) _ (next_is path c.loop-i.i c.index-path-i.result c.args.parent c.loop-i-test.true c.index-path-i.is)
          c.in_ok-is_followed.ensures.ok c.in_ok-is_followed.ensures.new c.in_ok-is_followed.ensures.leaves
          (pushed c.loop-i.came_in.items c.note.new.came_in.items path c.loop-i.i c.in_ok-is_followed.is_followed c.index-path-i.result c.args.parent c.find_next.result inv.each c.loop-i-test.true c.index-path-i.is up c.note.ensures.items) inv.between);
      each = shorter _ _ _ c.note.ensures.items ∙ ap (λ n. n + 1) inv.each;
      room = let a = inv.room in let b = c.note.ensures.capacity in omega arith;
      rest = path_step _ _ path c.args.parent c.loop-i.i c.index-path-i.result _ _ _ _ _ c.loop-i-test.true c.index-path-i.is up c.take.ensures.value c.take.ensures.after c.in_ok-is_followed.ensures.ok inv.rest;
    }

pub returns-in_err-await_parent-clause-err : goal.returns-in_err-await_parent-clause-err
returns-in_err-await_parent-clause-err c =
    on_err _ _ (subst (λ (ks : List Revision). CanGoBack c.args.nodes.now.entries c.loop-i.nodes.entries c.loop-i.leaves ks (insertions_in c.loop-i.came_in.items c.args.path.now c.args.parent)) (sym c.in_err-await_parent.ensures.err) c.loop-i.invariant.between.back)

pub returns-clause-ok : goal.returns-clause-ok
returns-clause-ok c =
    ap (λ p. nodes_with c.loop-i.nodes.entries (entries_before c.loop-i.held p c.args.parent)) (sym (drop_all c.loop-i.i c.args.path.now c.loop-i-test.false)) ∙ c.loop-i.invariant.rest

pub returns-clause-all : goal.returns-clause-all
returns-clause-all c =
    let between =
    subst (IsBetween c.args.nodes.now.entries c.loop-i.nodes.entries c.loop-i.leaves c.args.awaited.now.keys (insertions_in c.loop-i.came_in.items c.args.path.now c.args.parent) c.loop-i.is_followed)
    (next_at_end c.args.path.now c.loop-i.i c.args.parent c.loop-i-test.false) c.loop-i.invariant.between in
    elim c.if-is_followed.branch [
      | then-is_followed+in_ok-await_parent w ↦ rw w.awaited-is (unsettled_open _ _ _ _ _ _ _ _ w.if-is_followed.true w.in_ok-await_parent.ensures.ok between)
      | else-is_followed w ↦ rw w.awaited-is (unsettled_closed _ _ _ _ _ _ _ w.if-is_followed.false between)
    ]
