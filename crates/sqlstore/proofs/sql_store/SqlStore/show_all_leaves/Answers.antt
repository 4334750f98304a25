use Rattle.sqlstore.proofs.Lemmas.{SeqRow, Some, Trees, [], all_done, ap, arith, drop, drop_more, history_in_rows, inside, length, map, map-append, map-map, one_more, revs_tree, sequence_row_of, sequence_rows, stands_same, stands_then, sym, trees_of, was_honest, with_leaves, ◌++◌, ◌+◌, ◌∙◌, ◌∷◌, ◌≤◌}
use Rattle.sqlstore.proofs.sql_store.SqlStore.show_all_leaves.Goals as goal

pub loop-row-preserved : goal.loop-row-preserved
loop-row-preserved g c =
    let s = c.args.self.now in
    let mid = c.loop-row.self in
    let end = c.show_leaves.new.self in
    let n = c.args.number.now in
    let rows = c.args.rows.now in
    let i = c.loop-row.row-index in
    let row = c.row-item.result in
    let made = c.in_ok-show_leaves.field-0 in
    let shown = c.loop-row.shown.items in
    let inv = c.loop-row.invariant in
    let e = c.in_ok-show_leaves.ensures in
    let next = drop_more rows i row c.loop-row-test.true ∙ (λ j. sym c.row-item.is j ∷ drop (i + 1) rows) in
    let number = λ (r : SeqRow). r.sequence in
    let leaves = λ (r : SeqRow). with_leaves (history_in_rows (trees_of g.S.Store s revs_tree) n) (sequence_row_of r) in
    record {
      stands = stands_then g.S.Store s mid end inv.stands e.stands;
      sequences = one_more number rows i row (map number shown) (map number c.push.new.self.items) next
          (ap (map number) c.in_ok-push.ensures.items ∙ map-append number shown (made ∷ []) ∙ ap (λ k. map number shown ++ k ∷ []) e.sequence) inv.sequences;
      shown = λ honest.
          let told = sym (inside _ _ (e.answer honest)) ∙ ap (λ (t : Trees). with_leaves (history_in_rows (t revs_tree) n) (sequence_row_of row)) (stands_same g.S.Store s mid inv.stands) in
          one_more leaves rows i row (sequence_rows shown) (sequence_rows c.push.new.self.items) next
          (ap sequence_rows c.in_ok-push.ensures.items ∙ map-append sequence_row_of shown (made ∷ []) ∙ ap (λ r. sequence_rows shown ++ r ∷ []) told) (inv.shown (was_honest g.S.Store mid end e.stands honest));
    }

pub returns-clause-answer : goal.returns-clause-answer
returns-clause-answer g c honest =
    let rows = c.args.rows.now in
    let leaves = with_leaves (history_in_rows (trees_of g.S.Store c.args.self.now revs_tree) c.args.number.now) in
    let none : length c.args.rows.now ≤ c.loop-row.row-index = omega (arith, c.loop-row-test.false) in
    ap Some (map-map leaves sequence_row_of rows ∙ sym (all_done (λ r. leaves (sequence_row_of r)) rows c.loop-row.row-index (sequence_rows c.loop-row.shown.items) none (c.loop-row.invariant.shown honest)))
