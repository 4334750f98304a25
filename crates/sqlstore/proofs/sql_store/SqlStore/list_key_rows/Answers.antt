use Rattle.std.specs.List.{AllByRecursion}
use Rattle.index.specs.Places.{AreEntriesAt, IsShownEntry}
use Rattle.sqlstore.proofs.KeyEntries.{answers_by, entries_before, fault_of, range_shown, rows_read, rows_skipped}
use Rattle.sqlstore.proofs.Lemmas.{Err, List, Some, ap, arith, inside, rules, stands_then, subst, sym, trees_of, was_honest, ◌<◌, ◌^◌, ◌∙◌, ◌≡◌, ◌≤◌}
use Rattle.sqlstore.proofs.Common.{Global, IndexPlace, Result, SqlStore, StoreFault, Vec, drop, up_to_limit}
use Rattle.store.specs.KeyPages.{key_rows_within}
use Rattle.sqlstore.specs.inner.ByKey.{AnswersOf}
use Rattle.store.specs.declared.index_page.KeyRow.{KeyRow}
use Rattle.sqlstore.specs.Model.{fault_count, is_honest}
use Rattle.tables.specs.Schema.{entries_tree}
use Rattle.sqlstore.proofs.sql_store.SqlStore.list_key_rows.Goals as goal

pub returns-then-range-clause-answer : goal.returns-then-range-clause-answer
returns-then-range-clause-answer g c places lows highs k =
    let s = c.args.self.now in
    let end = c.count_between.new.self in
    let n = c.args.declaration.now in
    let h = entries_before g.S.Store s end n places c.count_between.ensures.stands k.1 in
    let count = inside _ _ (c.in_ok-count_between.ensures.answer k.0) in
    let lt : c.in_ok-count_between.field-0 < 2 ^ 63 = omega (arith, c.in_ok-count_between.ensures.bounded) in
    let far : 2 ^ 63 ≤ c.args.range.now.skip = omega (arith, c.if-range.true) in
    ap Some (rows_skipped n places (trees_of g.S.Store s entries_tree) h c.args.range.now c.args.low.now c.args.high.now lows highs c.in_ok-count_between.field-0 count lt far ∙ sym c.new.ensures.items)

pub returns-in_err-read-clause-answer : goal.returns-in_err-read-clause-answer
returns-in_err-read-clause-answer g c places lows highs =
    let s = c.args.self.now in
    let mid = c.entry_rows.new.self in
    let end = c.read_key_rows.new.self in
    let n = c.args.declaration.now in
    let view : Vec KeyRow Global → List IndexPlace = λ rows. rows.items in
    let Is : SqlStore g.row.S.Denot g.S.Store → Type 0 = λ x. is_honest g.S.Store x × AreEntriesAt n places (trees_of g.S.Store x entries_tree) in
    let intact : Type 0 = AllByRecursion IsShownEntry c.in_ok-rows.rows.items in
    let fault = c.in_err-read.field-0.0 in
    let is : c.from_residual-in_err-read.result ≡ Err fault = search rules in
    let asked = up_to_limit c.args.range.now.limit (drop c.args.range.now.skip (key_rows_within c.args.range.now places)) in
    let stood = stands_then g.S.Store s mid end c.entry_rows.ensures.stands c.read_key_rows.ensures.stands in
    subst (λ (r : Result (Vec KeyRow Global) StoreFault). AnswersOf g.S.Store n places s end view asked r) (sym is)
    (fault_of Is Is (fault_count g.S.Store) s mid end view view asked (Some asked) fault c.entry_rows.ensures.stands.counted (λ k none. none k)
    (answers_by Is (fault_count g.S.Store) mid end view (Some asked) intact (Err fault) tt c.in_err-read.ensures.told
    (λ k none.
    none
    (range_shown n places (trees_of g.S.Store s entries_tree) (entries_before g.S.Store s end n places stood k.1) c.args.range.now c.args.low.now c.args.high.now lows highs c.in_ok-rows.rows.items
    (c.in_ok-rows.ensures.found (was_honest g.S.Store mid end c.read_key_rows.ensures.stands k.0))))))

pub returns-clause-answer : goal.returns-clause-answer
returns-clause-answer g c places lows highs k =
    let s = c.args.self.now in
    let mid = c.entry_rows.new.self in
    let end = c.read_key_rows.new.self in
    let n = c.args.declaration.now in
    let stood = stands_then g.S.Store s mid end c.entry_rows.ensures.stands c.read_key_rows.ensures.stands in
    let h = entries_before g.S.Store s end n places stood k.1 in
    ap Some
    (rows_read n places (trees_of g.S.Store s entries_tree) h c.args.range.now c.args.low.now c.args.high.now lows highs c.in_ok-rows.rows.items c.in_ok-read.read.items c.cut_to_limit.result.items
    (c.in_ok-rows.ensures.found (was_honest g.S.Store mid end c.read_key_rows.ensures.stands k.0)) c.in_ok-read.ensures.lawful c.in_ok-read.ensures.spots c.cut_to_limit.ensures)
