use Rattle.index.proofs.Common.{Err, List, Ok, Row, declared, map, rules, state, ◌∙◌, ◌≡◌}
use Rattle.index.proofs.StepLemmas.{steps_read, steps_stop}
use Rattle.index.proofs.GatherSteps.{rows_gathered, rows_refused}
use Rattle.index.specs.Filling.{numbers_of}
use Rattle.index.specs.inner.Gathering.{HasEntriesBeside, IsToGatherRange, entry_of, without_documents}
use Rattle.index.specs.inner.Seen.{documents_between}
use Rattle.index.specs.declared.fault.IndexFault.TheVariants as fault
use Rattle.tables.specs.Schema.{docs_tree}
use Rattle.index.proofs.filling.gather_part.Goals as goal

pub returns-in_err-rows-clause-gathers : goal.returns-in_err-rows-clause-gathers
returns-in_err-rows-clause-gathers g c left due =
    let first = c.args.tx.now.conn.now in
    let second = c.rows_between.new.tx.conn.now in
    let xs = map declared c.args.declarations.now in
    let before = map entry_of c.args.gathered.now.entries.items in
    let F = IsToGatherRange c.args.db.now xs c.args.low.now c.args.high.now left before due in
    let reads = c.in_err-rows.ensures.reads in
    let e = c.in_err-rows.field-0.0 in
    let is : c.from_residual.result ≡ Err (fault.Sqlite e) = search rules in
    steps_stop g.S.Store {X = List Row} F (λ p q. q ≡ p) (HasEntriesBeside (without_documents due (numbers_of xs) left) before) first second e (fault.Sqlite e) c.from_residual.result is
    (steps_read g.S.Store F first second (Err e) reads.stands reads.looks reads.asks (λ fit. fit.store.schema_is))

pub returns-clause-gathers : goal.returns-clause-gathers
returns-clause-gathers g c left due =
    let reads = c.in_ok-rows.ensures.reads in
    rows_gathered g.S.Store c.args.db.now (map declared c.args.declarations.now) c.args.low.now c.args.high.now left (map entry_of c.args.gathered.now.entries.items) due c.args.tx.now.conn.now c.rows_between.new.tx.conn.now c.gather_rows.new.tx.conn.now c.in_ok-rows.rows
    (steps_read g.S.Store (IsToGatherRange c.args.db.now (map declared c.args.declarations.now) c.args.low.now c.args.high.now left (map entry_of c.args.gathered.now.entries.items) due) c.args.tx.now.conn.now c.rows_between.new.tx.conn.now (Ok c.in_ok-rows.rows) reads.stands reads.looks reads.asks (λ fit. fit.store.schema_is))
    c.deref.result.now (λ was store. c.deref.ensures.value ∙ reads.found was store)
    (map entry_of c.gather_rows.new.gathered.entries.items) c.gather_rows.result (c.gather_rows.ensures.gathers (documents_between c.args.db.now c.args.low.now c.args.high.now ((state g.S.Store c.args.tx.now.conn.now).now.trees docs_tree)) (without_documents due (numbers_of (map declared c.args.declarations.now)) left))

pub returns-clause-err : goal.returns-clause-err
returns-clause-err g c left due =
    let reads = c.in_ok-rows.ensures.reads in
    rows_refused g.S.Store c.args.db.now (map declared c.args.declarations.now) c.args.low.now c.args.high.now left (map entry_of c.args.gathered.now.entries.items) due c.args.tx.now.conn.now c.rows_between.new.tx.conn.now c.gather_rows.new.tx.conn.now c.in_ok-rows.rows
    (steps_read g.S.Store (IsToGatherRange c.args.db.now (map declared c.args.declarations.now) c.args.low.now c.args.high.now left (map entry_of c.args.gathered.now.entries.items) due) c.args.tx.now.conn.now c.rows_between.new.tx.conn.now (Ok c.in_ok-rows.rows) reads.stands reads.looks reads.asks (λ fit. fit.store.schema_is))
    c.deref.result.now (λ was store. c.deref.ensures.value ∙ reads.found was store)
    c.gather_rows.result (c.gather_rows.ensures.gathers (documents_between c.args.db.now c.args.low.now c.args.high.now ((state g.S.Store c.args.tx.now.conn.now).now.trees docs_tree)) (without_documents due (numbers_of (map declared c.args.declarations.now)) left)).asks
    (c.gather_rows.ensures.err (documents_between c.args.db.now c.args.low.now c.args.high.now ((state g.S.Store c.args.tx.now.conn.now).now.trees docs_tree)) (without_documents due (numbers_of (map declared c.args.declarations.now)) left))
