use Rattle.sqlstore.proofs.IdRows.{rows_intact, rows_read, rows_skipped}
use Rattle.sqlstore.proofs.ListedRows.{id_rows_set}
use Rattle.sqlstore.proofs.Lemmas.{Some, answered, ap, arith, inside, laid, sym, trees_of, was_honest, ∥∥₁_elim, ◌<◌, ◌^◌, ◌∙◌, ◌≤◌}
use Rattle.sqlstore.proofs.sql_store.SqlStore.list_id_rows.Goals as goal

pub returns-then-range-clause-answer : goal.returns-then-range-clause-answer
returns-then-range-clause-answer g c k =
    let s = c.args.self.now in
    let end = c.count_marked.new.self in
    let trees = trees_of g.S.Store s in
    let range = c.args.range.now in
    let count = inside _ _ (c.in_ok-count_marked.ensures.answer k) in
    let lt : c.in_ok-count_marked.field-0 < 2 ^ 63 = omega (arith, c.in_ok-count_marked.ensures.bounded) in
    let far : 2 ^ 63 ≤ range.skip = omega (arith, c.if-range.true) in
    ap Some
    (∥∥₁_elim (laid g.S.Store s (was_honest g.S.Store s end c.count_marked.ensures.stands k)) (id_rows_set _ _)
    (λ l. rows_skipped trees c.args.db.now l range c.args.low.now c.args.high.now c.requires.low c.requires.high c.in_ok-count_marked.field-0 count lt far)
    ∙ sym c.new-then-range.ensures.items)

pub returns-clause-answer : goal.returns-clause-answer
returns-clause-answer g c =
    let s = c.args.self.now in
    let end = c.live_rows.new.self in
    let trees = trees_of g.S.Store s in
    let range = c.args.range.now in
    let given = c.in_ok-rows.rows.items in
    answered g.S.Store s end (λ rows. rows.items) _ _ _ c.read_id_rows.result c.read_id_rows.ensures
    (λ honest.
    let found = c.in_ok-rows.ensures.found honest in
    let lay = laid g.S.Store s (was_honest g.S.Store s end c.live_rows.ensures.stands honest) in (
      λ none. ∥∥₁_elim lay (λ p q. absurd p) (λ l. none (rows_intact trees c.args.db.now l range c.args.low.now c.args.high.now c.requires.low c.requires.high given found)),
      ap Some (∥∥₁_elim lay (id_rows_set _ _) (λ l. rows_read trees c.args.db.now l range c.args.low.now c.args.high.now c.requires.low c.requires.high given found)),
    ))
