use Rattle.index.proofs.Common.{Ok, [], ap, arith, declared, drop, entries_tree, get_or, length, map, refl, rules, state, ◌+◌, ◌∙◌, ◌≡◌}
use Rattle.std.proofs.Common.{◌≤◌}
use Rattle.std.proofs.lemmas.List.{drop_all, length-map}
use Rattle.index.proofs.Beside.{beside_as}
use Rattle.index.proofs.Filled.{none_missing}
use Rattle.index.proofs.GatherSteps.{putting_failed, row_failed, row_put, row_refused}
use Rattle.index.proofs.Going.{only_itself}
use Rattle.index.proofs.StepLemmas.{steps_none, steps_so}
use Rattle.index.specs.Filling.{numbers_of, without_ids}
use Rattle.index.specs.inner.Gathering.{AreToGather, HasEntriesBeside, entry_of}
use Rattle.tables.specs.Rows.{id_of, listed_document}
use Rattle.index.proofs.filling.gather_rows.Goals as goal

pub loop-row-init : goal.loop-row-init
loop-row-init g c = record {
  same = refl;
  so_far = λ docs due.
      let xs = map declared c.args.declarations.now in
      let before = map entry_of c.args.gathered.now.entries.items in
      steps_none g.S.Store (AreToGather c.args.db.now xs c.args.rows.now docs before due) (HasEntriesBeside (without_ids due (numbers_of xs) (map id_of docs)) before) c.args.tx.now.conn.now (Ok tt)
      (λ fit. record { entries = fit.entries; only = only_itself entries_tree (state g.S.Store c.args.tx.now.conn.now).now }) tt;
}

pub loop-row-preserved : goal.loop-row-preserved
loop-row-preserved g c = record {
  same = c.in_ok-put_full.ensures.same_reference ∙ c.in_ok-gather_row.ensures.same_reference ∙ c.loop-row.invariant.same;
  so_far = λ docs due.
      let later = without_ids due (numbers_of (map declared c.args.declarations.now)) (map id_of (drop (c.loop-row.row-index + 1) docs)) in
      row_put g.S.Store c.args.db.now (map declared c.args.declarations.now) c.args.rows.now docs (map entry_of c.args.gathered.now.entries.items) (map entry_of c.loop-row.gathered.entries.items) due c.loop-row.row-index c.row-item.result c.loop-row-test.true c.row-item.is
      c.args.tx.now.conn.now c.loop-row.tx.conn.now c.gather_row.new.tx.conn.now (c.loop-row.invariant.so_far docs due) (map entry_of c.gather_row.new.gathered.entries.items)
      (c.in_ok-gather_row.ensures.gathers (get_or docs c.loop-row.row-index []) later) (map entry_of c.put_full.new.gathered.entries.items) c.put_full.new.tx.conn.now (c.in_ok-put_full.ensures.puts later);
}

pub returns-in_err-gather_row-clause-gathers : goal.returns-in_err-gather_row-clause-gathers
returns-in_err-gather_row-clause-gathers g c docs due =
    row_failed g.S.Store c.args.db.now (map declared c.args.declarations.now) c.args.rows.now docs (map entry_of c.args.gathered.now.entries.items) (map entry_of c.loop-row.gathered.entries.items) due c.loop-row.row-index c.row-item.result c.loop-row-test.true c.row-item.is
    c.args.tx.now.conn.now c.loop-row.tx.conn.now c.gather_row.new.tx.conn.now (c.loop-row.invariant.so_far docs due) (map entry_of c.gather_row.new.gathered.entries.items)
    c.in_err-gather_row.field-0.0 c.from_residual.result (search rules) (c.in_err-gather_row.ensures.gathers (get_or docs c.loop-row.row-index []) (without_ids due (numbers_of (map declared c.args.declarations.now)) (map id_of (drop (c.loop-row.row-index + 1) docs))))

pub returns-in_err-put_full-clause-gathers : goal.returns-in_err-put_full-clause-gathers
returns-in_err-put_full-clause-gathers g c docs due =
    let later = without_ids due (numbers_of (map declared c.args.declarations.now)) (map id_of (drop (c.loop-row.row-index + 1) docs)) in
    putting_failed g.S.Store c.args.db.now (map declared c.args.declarations.now) c.args.rows.now docs (map entry_of c.args.gathered.now.entries.items) (map entry_of c.loop-row.gathered.entries.items) due c.loop-row.row-index c.row-item.result c.loop-row-test.true c.row-item.is
    c.args.tx.now.conn.now c.loop-row.tx.conn.now c.gather_row.new.tx.conn.now (c.loop-row.invariant.so_far docs due) (map entry_of c.gather_row.new.gathered.entries.items)
    (c.in_ok-gather_row.ensures.gathers (get_or docs c.loop-row.row-index []) later) (map entry_of c.put_full.new.gathered.entries.items) c.put_full.new.tx.conn.now c.in_err-put_full.field-0.0 c.from_residual-in_err-put_full.result (search rules) (c.in_err-put_full.ensures.puts later)

pub returns-clause-gathers : goal.returns-clause-gathers
returns-clause-gathers g c docs due =
    let first = c.args.tx.now.conn.now in
    let second = c.loop-row.tx.conn.now in
    let xs = map declared c.args.declarations.now in
    let rows = c.args.rows.now in
    let i = c.loop-row.row-index in
    let before = map entry_of c.args.gathered.now.entries.items in
    let now = map entry_of c.loop-row.gathered.entries.items in
    let none : length rows ≤ i = omega (arith, c.loop-row-test.false) in
    let left = without_ids due (numbers_of xs) (map id_of (drop i docs)) in
    steps_so g.S.Store (AreToGather c.args.db.now xs rows docs before due) (HasEntriesBeside left now) (HasEntriesBeside due now) first second (Ok tt) (c.loop-row.invariant.so_far docs due)
    (λ fit made.
    let size : length rows ≡ length docs = ap length fit.shown_is ∙ length-map docs listed_document in
    let end : length docs ≤ i = omega (arith, none, size) in
    record {
      entries = beside_as left due now ((state g.S.Store second).now.trees entries_tree) (λ m k j. ap (λ l. without_ids due (numbers_of xs) (map id_of l) m k j) (drop_all i docs end) ∙ none_missing due (numbers_of xs) m k j) made.entries;
      only = made.only;
    })

pub returns-in_err-gather_row-clause-err : goal.returns-in_err-gather_row-clause-err
returns-in_err-gather_row-clause-err g c docs due =
    let later = without_ids due (numbers_of (map declared c.args.declarations.now)) (map id_of (drop (c.loop-row.row-index + 1) docs)) in
    row_refused g.S.Store c.args.db.now (map declared c.args.declarations.now) c.args.rows.now docs (map entry_of c.args.gathered.now.entries.items) (map entry_of c.loop-row.gathered.entries.items) due c.loop-row.row-index c.row-item.result c.loop-row-test.true c.row-item.is
    c.args.tx.now.conn.now c.loop-row.tx.conn.now c.gather_row.new.tx.conn.now (c.loop-row.invariant.so_far docs due) (map entry_of c.gather_row.new.gathered.entries.items)
    c.in_err-gather_row.field-0.0 c.from_residual.result (search rules) (c.in_err-gather_row.ensures.gathers (get_or docs c.loop-row.row-index []) later).asks (c.in_err-gather_row.ensures.err (get_or docs c.loop-row.row-index []) later)
