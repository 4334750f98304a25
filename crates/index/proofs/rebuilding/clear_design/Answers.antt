use Rattle.index.proofs.Common.{AllByRecursion, Err, Error, HasCleanDisk, HasIndexRows, IsShownDeclaration, IsTrue, List, None, Ok, OnOk, Result, ap, arith, map, option_map, rules, state, subst, sym, ℕ, ◌∙◌, ◌≡◌}
use Rattle.couch_json.specs.Value.{Value}
use Rattle.couch_json.specs.View.{view}
use Rattle.index.proofs.Designs.{design_cleared, stored_names}
use Rattle.index.proofs.Going.{if_err}
use Rattle.index.proofs.Refusals.{refused_as, refused_then, shown_some}
use Rattle.index.proofs.ShownDeclarations.{refused_of}
use Rattle.index.specs.Steps.{AreFit, WasFit}
use Rattle.index.proofs.StepLemmas.{steps_read, steps_then}
use Rattle.index.specs.Declaring.{IsRebuildable}
use Rattle.index.specs.Meaning.{declared_if}
use Rattle.index.specs.Rebuilding.{AreCleared, IsDesignCleared, is_of_design, shown_name}
use Rattle.index.proofs.rebuilding.clear_design.Goals as goal

pub returns-clause-clears : goal.returns-clause-clears
returns-clause-clears g c declares sees =
    let a = c.args.tx.now.conn.now in
    let b = c.rows_of_design.new.tx.conn.now in
    let e = c.clear_names.new.tx.conn.now in
    let A = (state g.S.Store a).now in
    let E = (state g.S.Store e).now in
    let db = c.args.db.now in
    let design = c.args.design.now in
    let f = declared_if (option_map {U = Value} (λ v. view v.now) c.args.body) in
    let names = map {B = List ℕ} (λ name. name.items) c.deref.result.now in
    let reads = c.in_ok-rows.ensures.reads in
    let F = IsRebuildable declares sees db in
    steps_then g.S.Store {E = Error} F F (λ p q. q ≡ p) (AreCleared declares sees db design f names) (IsDesignCleared declares sees db design f) a b e c.in_ok-rows.rows c.clear_names.result
    (steps_read g.S.Store F a b (Ok c.in_ok-rows.rows) reads.stands reads.looks reads.asks (λ fit. fit.store.schema_is)) (c.clear_names.ensures.clears declares sees)
    (λ was fit same. subst F (sym same) fit)
    (λ was fit same got.
    let rows : HasIndexRows A = record { schema_is = fit.store.schema_is; decls = fit.indexed.decls; entries = fit.indexed.entries.laid } in
    let names_are : names ≡ stored_names db design A = ap (map {B = List ℕ} (λ name. name.items)) c.deref.ensures.value ∙ c.in_ok-stored.ensures.ok ∙ ap (map shown_name) (reads.found was rows) in
    design_cleared declares sees db design f names A E fit names_are (subst (λ p. AreCleared declares sees db design f names p E) same got))

pub returns-in_err-stored-clause-err : goal.returns-in_err-stored-clause-err
returns-in_err-stored-clause-err g c declares sees =
    let a = c.args.tx.now.conn.now in
    let b = c.rows_of_design.new.tx.conn.now in
    let db = c.args.db.now in
    let reads = c.in_ok-rows.ensures.reads in
    let sound = WasFit g.S.Store (IsRebuildable declares sees db) a b in
    let why = c.in_err-stored.field-0.0 in
    let is : c.from_residual-in_err-stored.result ≡ Err why = search rules in
    refused_as sound c.from_residual-in_err-stored.result why is
    (refused_of (AllByRecursion IsShownDeclaration c.in_ok-rows.rows.items) sound why
    (λ it.
    let fit = it.1 (reads.served it.0) in
    let rows : HasIndexRows (state g.S.Store a).now = record { schema_is = fit.store.schema_is; decls = fit.indexed.decls; entries = fit.indexed.entries.laid } in
    shown_some (state g.S.Store a).now rows (is_of_design db c.args.design.now) c.in_ok-rows.rows.items (reads.found it.0 rows)) c.in_err-stored.ensures.err)

pub returns-clause-err : goal.returns-clause-err
returns-clause-err g c declares sees =
    let a = c.args.tx.now.conn.now in
    let b = c.rows_of_design.new.tx.conn.now in
    let e = c.clear_names.new.tx.conn.now in
    let db = c.args.db.now in
    let reads = c.in_ok-rows.ensures.reads in
    let clears = c.clear_names.ensures.clears declares sees in
    let F = IsRebuildable declares sees db in
    let sound = WasFit g.S.Store F a e in
    if_err c.clear_names.result
    (λ why h.
    refused_of (AreFit g.S.Store F a e) sound why
    (λ it. let was : HasCleanDisk (state g.S.Store b) = omega (arith, clears.asks.survives.clean, it.0) in (it.0, it.1 (reads.served was)))
    (refused_then g.S.Store {E = Error} F F (λ p q. q ≡ p) a b e c.in_ok-rows.rows why
    (steps_read g.S.Store F a b (Ok c.in_ok-rows.rows) reads.stands reads.looks reads.asks (λ fit. fit.store.schema_is)) clears.asks
    (λ was fit same. subst F (sym same) fit) h))
    (c.clear_names.ensures.err declares sees)

pub returns-clause-served : goal.returns-clause-served
returns-clause-served g c clean =
    let b = c.rows_of_design.new.tx.conn.now in
    let asks = (c.clear_names.ensures.clears (λ db design name. None) (λ db id. None)).asks in
    let was : HasCleanDisk (state g.S.Store b) = omega (arith, asks.survives.clean, clean) in
    done {P = IsTrue (state g.S.Store c.args.tx.now.conn.now).is_open} c.clear_names.result (c.in_ok-rows.ensures.reads.served was)
  where
    done : {X E P : Type 0} (r : Result X E) → P → OnOk r P
    done (Ok x) p = p
    done (Err e) p = tt
