use Rattle.index.proofs.Common.{ap, declared, declared_by, decls_tree, is_due, map, option_map, rules, state, with_declared}
use Rattle.couch_json.specs.Value.{Value}
use Rattle.couch_json.specs.View.{view}
use Rattle.index.proofs.RebuildSteps.{all_rebuilt, declaring_failed, declaring_refused, filling_refused}
use Rattle.index.proofs.Refusals.{refused_as}
use Rattle.index.proofs.StepLemmas.{steps_stop}
use Rattle.index.specs.Declaring.{IsRebuildable, IsRebuilt}
use Rattle.index.specs.Meaning.{declared_if}
use Rattle.index.specs.Rebuilding.{IsDesignCleared}
use Rattle.index.specs.Steps.{WasFit}
use Rattle.index.proofs.rebuilding.rebuild.Goals as goal

pub returns-in_err-clear_design-clause-rebuilds : goal.returns-in_err-clear_design-clause-rebuilds
returns-in_err-clear_design-clause-rebuilds g c declares sees =
    let f = declared_if (option_map {U = Value} (λ v. view v.now) c.args.body) in
    let fault = c.in_err-clear_design.field-0.0 in
    steps_stop g.S.Store {X = Unit {0}} (IsRebuildable declares sees c.args.db.now) (IsDesignCleared declares sees c.args.db.now c.args.design.now f) (IsRebuilt (with_declared declares c.args.db.now c.args.design.now f) sees)
    c.args.tx.now.conn.now c.clear_design.new.tx.conn.now fault fault c.from_residual.result (search rules) (c.in_err-clear_design.ensures.clears declares sees)

pub returns-in_err-clear_design-clause-err : goal.returns-in_err-clear_design-clause-err
returns-in_err-clear_design-clause-err g c declares sees =
    refused_as (WasFit g.S.Store (IsRebuildable declares sees c.args.db.now) c.args.tx.now.conn.now c.clear_design.new.tx.conn.now) c.from_residual.result c.in_err-clear_design.field-0.0 (search rules)
    (c.in_err-clear_design.ensures.err declares sees)

pub returns-in_err-declare_design-clause-rebuilds : goal.returns-in_err-declare_design-clause-rebuilds
returns-in_err-declare_design-clause-rebuilds g c declares sees =
    declaring_failed g.S.Store declares sees c.args.db.now c.args.design.now (option_map {U = Value} (λ v. view v.now) c.args.body) c.args.tx.now.conn.now c.clear_design.new.tx.conn.now (c.in_ok-clear_design.ensures.clears declares sees)
    c.declare_design.new.tx.conn.now (map declared c.new-fresh.result.items) (map declared c.declare_design.new.fresh.items) (search rules) c.in_err-declare_design.field-0.0
    c.from_residual-in_err-declare_design.result (search rules) (c.in_err-declare_design.ensures.declares (declared_by ((state g.S.Store c.clear_design.new.tx.conn.now).now.trees decls_tree)) sees)

pub returns-in_err-declare_design-clause-err : goal.returns-in_err-declare_design-clause-err
returns-in_err-declare_design-clause-err g c declares sees =
    let mid = declared_by ((state g.S.Store c.clear_design.new.tx.conn.now).now.trees decls_tree) in
    declaring_refused g.S.Store declares sees c.args.db.now c.args.design.now (option_map {U = Value} (λ v. view v.now) c.args.body) c.args.tx.now.conn.now c.clear_design.new.tx.conn.now (c.in_ok-clear_design.ensures.clears declares sees)
    c.declare_design.new.tx.conn.now (map declared c.new-fresh.result.items) (map declared c.declare_design.new.fresh.items) (search rules) c.in_ok-clear_design.ensures.served c.in_err-declare_design.field-0.0
    c.from_residual-in_err-declare_design.result (search rules) (c.in_err-declare_design.ensures.declares mid sees).asks (c.in_err-declare_design.ensures.err mid sees)

pub returns-clause-rebuilds : goal.returns-clause-rebuilds
returns-clause-rebuilds g c declares sees =
    all_rebuilt g.S.Store declares sees c.args.db.now c.args.design.now (option_map {U = Value} (λ v. view v.now) c.args.body) c.args.tx.now.conn.now c.clear_design.new.tx.conn.now (c.in_ok-clear_design.ensures.clears declares sees)
    c.declare_design.new.tx.conn.now (map declared c.new-fresh.result.items) (map declared c.declare_design.new.fresh.items) (search rules) (c.in_ok-declare_design.ensures.declares (declared_by ((state g.S.Store c.clear_design.new.tx.conn.now).now.trees decls_tree)) sees)
    c.fill_indexes.new.tx.conn.now (map declared c.deref.result.now) (ap (map declared) c.deref.ensures.value) c.fill_indexes.result
    (c.fill_indexes.ensures.fills (is_due sees ((state g.S.Store c.declare_design.new.tx.conn.now).now.trees decls_tree)))

pub returns-clause-err : goal.returns-clause-err
returns-clause-err g c declares sees =
    let due = is_due sees ((state g.S.Store c.declare_design.new.tx.conn.now).now.trees decls_tree) in
    filling_refused g.S.Store declares sees c.args.db.now c.args.design.now (option_map {U = Value} (λ v. view v.now) c.args.body) c.args.tx.now.conn.now c.clear_design.new.tx.conn.now (c.in_ok-clear_design.ensures.clears declares sees)
    c.declare_design.new.tx.conn.now (map declared c.new-fresh.result.items) (map declared c.declare_design.new.fresh.items) (search rules) (c.in_ok-declare_design.ensures.declares (declared_by ((state g.S.Store c.clear_design.new.tx.conn.now).now.trees decls_tree)) sees)
    c.fill_indexes.new.tx.conn.now (map declared c.deref.result.now) (ap (map declared) c.deref.ensures.value) c.in_ok-clear_design.ensures.served c.fill_indexes.result
    (c.fill_indexes.ensures.fills due).asks (c.fill_indexes.ensures.err due)
