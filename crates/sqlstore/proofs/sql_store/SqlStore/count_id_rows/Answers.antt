use Rattle.sqlstore.proofs.Common.{Trees, count_by, length, listed_by_id, live_rows, rows_within}
use Rattle.sqlstore.proofs.IdRows.{all_counted, counts_made}
use Rattle.sqlstore.specs.inner.Listing.{all_count}
use Rattle.sqlstore.proofs.ListedRows.{row_counts_set}
use Rattle.sqlstore.proofs.Lemmas.{Some, ap, false, inside, laid, stands_same, stands_then, sym, trees_of, was_honest, ∥∥₁_elim, ◌∙◌, ◌≡◌}
use Rattle.std.proofs.Common.{min}
use Rattle.store.specs.Pages.{is_before_start}
use Rattle.sqlstore.proofs.sql_store.SqlStore.count_id_rows.Goals as goal

pub returns-clause-answer : goal.returns-clause-answer
returns-clause-answer g c k =
    let s = c.args.self.now in
    let one = c.count_all.new.self in
    let two = c.count_skipped_ids.new.self in
    let three = c.count_ids_before.new.self in
    let n = c.args.db.now in
    let trees = trees_of g.S.Store s in
    let to_one = c.count_all.ensures.stands in
    let to_two = stands_then g.S.Store s one two to_one c.count_skipped_ids.ensures.stands in
    let honest_two = was_honest g.S.Store two three c.count_ids_before.ensures.stands k in
    let honest_one = was_honest g.S.Store one two c.count_skipped_ids.ensures.stands honest_two in
    let all : all_count trees n false ≡ c.in_ok-total.total = inside _ _ (c.in_ok-total.ensures.answer honest_one) in
    let left = ap (λ (t : Trees). min c.args.range.now.skip (length (rows_within c.args.range.now (live_rows (listed_by_id t n))))) (sym (stands_same g.S.Store s one to_one)) ∙ inside _ _ (c.in_ok-skipped.ensures.answer honest_two) in
    let first = ap (λ (t : Trees). count_by (λ r. is_before_start c.args.range.now r.id) (live_rows (listed_by_id t n))) (sym (stands_same g.S.Store s two to_two)) ∙ inside _ _ (c.in_ok-before.ensures.answer k) in
    ap Some
    (∥∥₁_elim (laid g.S.Store s (was_honest g.S.Store s one to_one honest_one)) (row_counts_set _ _)
    (λ l. counts_made trees n l c.args.range.now c.args.low.now c.args.high.now c.requires.low c.requires.high c.in_ok-before.before c.in_ok-skipped.skipped c.in_ok-total.total c.counts_of.result c.if-not-range.false (all_counted trees n l false ∙ all) left first
    c.counts_of.ensures.offset c.counts_of.ensures.total))
