use Rattle.index.specs.Places.{AreEntriesAt, IsHighBound, IsLowBound}
use Rattle.sqlstore.proofs.KeyEntries.{fault_of}
use Rattle.sqlstore.proofs.Common.{Global, IndexPlace, Option, Result, Some, StoreFault, Vec, key_page}
use Rattle.store.specs.declared.index_page.PageByKey.{PageByKey}
use Rattle.sqlstore.proofs.Lemmas.{Err, List, arith, rules, subst, sym, trees_of, ◌≡◌}
use Rattle.sqlstore.specs.inner.ByKey.{AnswersOf}
use Rattle.sqlstore.specs.Model.{fault_count, is_honest}
use Rattle.store.specs.KeyPageStructs.{key_page_of}
use Rattle.store.specs.declared.index_page.KeyRow.{KeyRow}
use Rattle.store.specs.declared.listing.RowCounts.{RowCounts}
use Rattle.tables.specs.Schema.{entries_tree}
use Rattle.sqlstore.proofs.sql_store.SqlStore.find_page_of.Goals as goal

pub returns-in_err-rows-clause-answer : goal.returns-in_err-rows-clause-answer
returns-in_err-rows-clause-answer g c places =
    let s = c.args.self.now in
    let n = c.args.declaration.now in
    let view : Vec KeyRow Global → List IndexPlace = λ rows. rows.items in
    let fault = c.in_err-rows.field-0.0 in
    let is : c.from_residual-in_err-rows.result ≡ Err fault = search rules in
    subst (λ (r : Result PageByKey StoreFault). AnswersOf g.S.Store n places s c.list_key_rows.new.self key_page_of (key_page c.args.range.now places) r) (sym is)
    (fault_of (λ x. is_honest g.S.Store x × AreEntriesAt n places (trees_of g.S.Store x entries_tree)) (λ x. is_honest g.S.Store x × AreEntriesAt n places (trees_of g.S.Store x entries_tree)) (fault_count g.S.Store) s s c.list_key_rows.new.self view key_page_of _ (Some (key_page c.args.range.now places)) fault
    (omega arith) (λ k none. none k) (c.in_err-rows.ensures.answer places (subst (IsLowBound c.args.range.now) (sym c.deref.ensures.value) c.in_ok-low.ensures) (subst (IsHighBound c.args.range.now) (sym c.deref-2.ensures.value) c.in_ok-high.ensures)))

pub returns-in_err-counts-clause-answer : goal.returns-in_err-counts-clause-answer
returns-in_err-counts-clause-answer g c places =
    let s = c.args.self.now in
    let mid = c.list_key_rows.new.self in
    let n = c.args.declaration.now in
    let told : Option RowCounts → Option RowCounts = λ counts. counts in
    let fault = c.in_err-counts.field-0.0 in
    let is : c.from_residual-in_err-counts.result ≡ Err fault = search rules in
    subst (λ (r : Result PageByKey StoreFault). AnswersOf g.S.Store n places s c.count_key_rows.new.self key_page_of (key_page c.args.range.now places) r) (sym is)
    (fault_of (λ x. is_honest g.S.Store x × AreEntriesAt n places (trees_of g.S.Store x entries_tree)) (λ x. is_honest g.S.Store x × AreEntriesAt n places (trees_of g.S.Store x entries_tree)) (fault_count g.S.Store) s mid c.count_key_rows.new.self told key_page_of _ (Some (key_page c.args.range.now places)) fault
    c.list_key_rows.ensures.stands.counted (λ k none. none k) (c.in_err-counts.ensures.answer places (subst (IsLowBound c.args.range.now) (sym c.deref-3.ensures.value) c.in_ok-low.ensures) (subst (IsHighBound c.args.range.now) (sym c.deref-4.ensures.value) c.in_ok-high.ensures)))
