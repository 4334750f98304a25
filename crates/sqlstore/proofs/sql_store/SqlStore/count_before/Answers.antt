use Rattle.index.proofs.PagePlaces.{before_down, before_up}
use Rattle.index.specs.Places.{AreEntriesAt}
use Rattle.index.specs.Rows.{count_of}
use Rattle.sqlstore.proofs.KeyEntries.{answers_as, entries_before}
use Rattle.sqlstore.proofs.Lemmas.{ap, trees_of, ◌∙◌}
use Rattle.sqlstore.specs.Model.{fault_count, is_honest}
use Rattle.tables.specs.Schema.{entries_tree}
use Rattle.sqlstore.proofs.sql_store.SqlStore.count_before.Goals as goal

pub returns-then-range-clause-answer : goal.returns-then-range-clause-answer
returns-then-range-clause-answer g c places lows highs =
    let s = c.args.self.now in
    let end = c.count_keys.new.self in
    let n = c.args.declaration.now in
    answers_as (is_honest g.S.Store) (λ x. is_honest g.S.Store x × AreEntriesAt n places (trees_of g.S.Store x entries_tree)) (fault_count g.S.Store) s end (λ m. m) _ _ c.count_keys.result (λ k. k.0)
    (λ k.
    ap (λ e. count_of n c.args.high.now e (trees_of g.S.Store s entries_tree)) (c.deref.ensures.value ∙ c.in_ok-end.ensures)
    ∙ before_down n places (trees_of g.S.Store s entries_tree) (entries_before g.S.Store s end n places c.count_keys.ensures.stands k.1) c.args.range.now c.args.high.now highs c.if-range.true)
    c.count_keys.ensures.answer

pub returns-clause-answer : goal.returns-clause-answer
returns-clause-answer g c places lows highs =
    let s = c.args.self.now in
    let end = c.count_keys-2.new.self in
    let n = c.args.declaration.now in
    answers_as (is_honest g.S.Store) (λ x. is_honest g.S.Store x × AreEntriesAt n places (trees_of g.S.Store x entries_tree)) (fault_count g.S.Store) s end (λ m. m) _ _ c.count_keys-2.result (λ k. k.0)
    (λ k.
    ap (λ e. count_of n e c.args.low.now (trees_of g.S.Store s entries_tree)) (c.deref-2.ensures.value ∙ c.new-start.ensures.items)
    ∙ before_up n places (trees_of g.S.Store s entries_tree) (entries_before g.S.Store s end n places c.count_keys-2.ensures.stands k.1) c.args.range.now c.args.low.now lows c.if-range.false)
    c.count_keys-2.ensures.answer
