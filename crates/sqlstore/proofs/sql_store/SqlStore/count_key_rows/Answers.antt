use Rattle.index.specs.Places.{AreEntriesAt}
use Rattle.sqlstore.proofs.Common.{Option, Result, StoreFault, if_counted}
use Rattle.store.specs.KeyPages.{key_counts}
use Rattle.sqlstore.proofs.KeyEntries.{counts_made, entries_before, fault_of}
use Rattle.sqlstore.specs.inner.ByKey.{AnswersOf}
use Rattle.sqlstore.specs.Model.{fault_count, is_honest}
use Rattle.store.specs.declared.listing.RowCounts.{RowCounts}
use Rattle.sqlstore.proofs.Lemmas.{Err, Some, ap, inside, rules, stands_then, subst, sym, trees_of, was_honest, ℕ, ◌≡◌}
use Rattle.tables.specs.Schema.{entries_tree}
use Rattle.sqlstore.proofs.sql_store.SqlStore.count_key_rows.Goals as goal

pub returns-clause-answer : goal.returns-clause-answer
returns-clause-answer g c places lows highs k =
    let s = c.args.self.now in
    let one = c.count_entries.new.self in
    let two = c.count_skipped_keys.new.self in
    let three = c.count_before.new.self in
    let n = c.args.declaration.now in
    let to_one = c.count_entries.ensures.stands in
    let honest_two = was_honest g.S.Store two three c.count_before.ensures.stands k.0 in
    let honest_one = was_honest g.S.Store one two c.count_skipped_keys.ensures.stands honest_two in
    let at_two = entries_before g.S.Store two three n places c.count_before.ensures.stands k.1 in
    let at_one = entries_before g.S.Store one two n places c.count_skipped_keys.ensures.stands at_two in
    let h = entries_before g.S.Store s one n places to_one at_one in
    let rows = trees_of g.S.Store s entries_tree in
    let all = inside _ _ (c.in_ok-total.ensures.answer honest_one) in
    let left = inside _ _ (c.in_ok-skipped.ensures.answer places lows highs (honest_two, at_two)) in
    let first = inside _ _ (c.in_ok-before.ensures.answer places lows highs k) in
    ap Some
    (counts_made n places rows h c.args.range.now c.args.low.now c.args.high.now lows highs c.in_ok-before.before c.in_ok-skipped.skipped c.in_ok-total.total c.counts_of.result c.if-not-range.false all left first
    c.counts_of.ensures.offset c.counts_of.ensures.total)

pub returns-in_err-skipped-clause-answer : goal.returns-in_err-skipped-clause-answer
returns-in_err-skipped-clause-answer g c places lows highs =
    let s = c.args.self.now in
    let one = c.count_entries.new.self in
    let two = c.count_skipped_keys.new.self in
    let n = c.args.declaration.now in
    let told : Option RowCounts → Option RowCounts = λ counts. counts in
    let count : ℕ → ℕ = λ m. m in
    let asked = if_counted c.args.range.now.counted (key_counts c.args.range.now places) in
    let fault = c.in_err-skipped.field-0.0 in
    let is : c.from_residual-in_err-skipped.result ≡ Err fault = search rules in
    subst (λ (r : Result (Option RowCounts) StoreFault). AnswersOf g.S.Store n places s two told asked r) (sym is)
    (fault_of (λ x. is_honest g.S.Store x × AreEntriesAt n places (trees_of g.S.Store x entries_tree)) (λ x. is_honest g.S.Store x × AreEntriesAt n places (trees_of g.S.Store x entries_tree)) (fault_count g.S.Store) s one two count told _ (Some asked) fault
    c.count_entries.ensures.stands.counted (λ k none. none k) (c.in_err-skipped.ensures.answer places lows highs))

pub returns-in_err-before-clause-answer : goal.returns-in_err-before-clause-answer
returns-in_err-before-clause-answer g c places lows highs =
    let s = c.args.self.now in
    let one = c.count_entries.new.self in
    let two = c.count_skipped_keys.new.self in
    let three = c.count_before.new.self in
    let n = c.args.declaration.now in
    let told : Option RowCounts → Option RowCounts = λ counts. counts in
    let count : ℕ → ℕ = λ m. m in
    let asked = if_counted c.args.range.now.counted (key_counts c.args.range.now places) in
    let fault = c.in_err-before.field-0.0 in
    let is : c.from_residual-in_err-before.result ≡ Err fault = search rules in
    let to_two = stands_then g.S.Store s one two c.count_entries.ensures.stands c.count_skipped_keys.ensures.stands in
    subst (λ (r : Result (Option RowCounts) StoreFault). AnswersOf g.S.Store n places s three told asked r) (sym is)
    (fault_of (λ x. is_honest g.S.Store x × AreEntriesAt n places (trees_of g.S.Store x entries_tree)) (λ x. is_honest g.S.Store x × AreEntriesAt n places (trees_of g.S.Store x entries_tree)) (fault_count g.S.Store) s two three count told _ (Some asked) fault
    to_two.counted (λ k none. none k) (c.in_err-before.ensures.answer places lows highs))
