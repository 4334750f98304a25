use Rattle.transactions.proofs.Lemmas.{rules, state, subst, sym, ◌∙◌}
use Rattle.transactions.proofs.Common.{option_map}
use Rattle.transactions.proofs.StoredDesigns.{change_stopped, changed, cleared_as_read, reading_stopped}
use Rattle.transactions.specs.inner.Postponing.{IsClearedAsStored}
use Rattle.couch_json.specs.Value.{Value}
use Rattle.couch_json.specs.View.{view}
use Rattle.index.specs.Declaring.{IsRebuildable}
use Rattle.index.specs.Meaning.{declared_if}
use Rattle.index.specs.Rebuilding.{IsDesignCleared}
use Rattle.index.specs.Steps.{WasFit}
use Rattle.transactions.proofs.postponing.clear_stored.Goals as goal

pub returns-in_err-history-clause-clears : goal.returns-in_err-history-clause-clears
returns-in_err-history-clause-clears g c declares sees =
    reading_stopped g.S.Store (IsRebuildable declares sees c.args.db.now) (λ d fit. fit.store) c.args.tx.now.conn.now c.find_winning.new.tx.conn.now (IsClearedAsStored declares sees c.args.db.now c.args.id.now)
    c.in_err-history.field-0.0 c.from_residual.result (search rules) c.in_err-history.ensures.finds

pub returns-in_err-clear_design-clause-clears : goal.returns-in_err-clear_design-clause-clears
returns-in_err-clear_design-clause-clears g c declares sees =
    let F = IsRebuildable declares sees c.args.db.now in
    let e = c.in_err-clear_design.ensures in
    change_stopped g.S.Store F (λ d fit. fit.store) c.args.tx.now.conn.now c.find_winning.new.tx.conn.now c.in_ok-history.ensures.finds c.clear_design.new.tx.conn.now F (λ was fit same. subst F (sym same) fit)
    _ (IsClearedAsStored declares sees c.args.db.now c.args.id.now) (WasFit g.S.Store F c.find_winning.new.tx.conn.now c.clear_design.new.tx.conn.now) (λ it. (it.0, λ up. it.1))
    c.in_err-clear_design.field-0.0 c.from_residual-in_err-clear_design.result (search rules) (e.clears declares sees) (e.err declares sees)

pub returns-clause-clears : goal.returns-clause-clears
returns-clause-clears g c declares sees =
    let find = c.in_ok-history.ensures.finds in
    let F = IsRebuildable declares sees c.args.db.now in
    let body = option_map {U = Value} (λ v. view v.now) c.find_winning_body-body.result in
    changed g.S.Store F (λ d fit. fit.store) c.args.tx.now.conn.now c.find_winning.new.tx.conn.now find c.clear_design.new.tx.conn.now F (λ was fit same. subst F (sym same) fit)
    (IsDesignCleared declares sees c.args.db.now c.as_bytes.result.now (declared_if body)) (IsClearedAsStored declares sees c.args.db.now c.args.id.now) (c.in_ok-clear_design.ensures.clears declares sees)
    (cleared_as_read g.S.Store declares sees c.args.db.now c.as_bytes.result.now c.args.id.now (c.as_bytes.ensures.value ∙ c.as_str.ensures.text) body c.args.tx.now.conn.now c.find_winning.new.tx.conn.now c.in_ok-history.history c.find_winning_body-body.ensures find.ok
    (state g.S.Store c.clear_design.new.tx.conn.now).now)
