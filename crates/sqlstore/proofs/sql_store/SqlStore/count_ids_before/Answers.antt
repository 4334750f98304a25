use Rattle.sqlstore.proofs.Common.{Coded-set, coded_ℕ}
use Rattle.sqlstore.proofs.IdRows.{first_down, first_up, none_before}
use Rattle.sqlstore.proofs.KeyEntries.{answers_as}
use Rattle.sqlstore.proofs.Lemmas.{None, Some, ap, false, laid, rules, trees_of, was_honest, ∥∥₁_elim, ◌∙◌, ◌≡◌}
use Rattle.sqlstore.specs.Model.{fault_count, is_honest}
use Rattle.tables.specs.Listings.{marked_count}
use Rattle.tables.specs.Schema.{docs_tree}
use Rattle.sqlstore.proofs.sql_store.SqlStore.count_ids_before.Goals as goal

pub returns-then-is_none-clause-answer : goal.returns-then-is_none-clause-answer
returns-then-is_none-clause-answer g c honest =
    let s = c.args.self.now in
    let trees = trees_of g.S.Store s in
    let none : c.args.range.now.start ≡ None = search rules in
    ap Some
    (∥∥₁_elim (laid g.S.Store s honest) (Coded-set coded_ℕ _ _) (λ l. none_before trees c.args.db.now l c.args.range.now none))

pub returns-then-range-clause-answer : goal.returns-then-range-clause-answer
returns-then-range-clause-answer g c =
    let s = c.args.self.now in
    let end = c.count_live.new.self in
    let trees = trees_of g.S.Store s in
    answers_as (is_honest g.S.Store) (is_honest g.S.Store) (fault_count g.S.Store) s end (λ m. m) _ _ c.count_live.result (λ k. k)
    (λ k.
    ap (λ e. marked_count c.args.db.now false c.args.high.now e (trees docs_tree)) (c.deref.ensures.value ∙ c.in_ok-end.ensures)
    ∙ ∥∥₁_elim (laid g.S.Store s (was_honest g.S.Store s end c.count_live.ensures.stands k)) (Coded-set coded_ℕ _ _)
    (λ l. first_down trees c.args.db.now l c.args.range.now c.args.low.now c.args.high.now c.requires.low c.requires.high c.if-range.true))
    c.count_live.ensures.answer

pub returns-clause-answer : goal.returns-clause-answer
returns-clause-answer g c =
    let s = c.args.self.now in
    let end = c.count_live-2.new.self in
    let trees = trees_of g.S.Store s in
    answers_as (is_honest g.S.Store) (is_honest g.S.Store) (fault_count g.S.Store) s end (λ m. m) _ _ c.count_live-2.result (λ k. k)
    (λ k.
    ap (λ e. marked_count c.args.db.now false e c.args.low.now (trees docs_tree)) (c.deref-2.ensures.value ∙ c.new-start.ensures.items)
    ∙ ∥∥₁_elim (laid g.S.Store s (was_honest g.S.Store s end c.count_live-2.ensures.stands k)) (Coded-set coded_ℕ _ _)
    (λ l. first_up trees c.args.db.now l c.args.range.now c.args.low.now c.args.high.now c.requires.low c.requires.high c.if-range.false))
    c.count_live-2.ensures.answer
