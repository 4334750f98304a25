use Rattle.transactions.proofs.Lemmas.{map, rules, state, ◌∙◌, ◌≡◌}
use Rattle.transactions.proofs.Common.{option_map}
use Rattle.transactions.proofs.StoredDesigns.{change_stopped, changed, declared_as_read, reading_stopped, to_declare_as_read}
use Rattle.transactions.specs.inner.Postponing.{IsDeclaredAsStored, IsToDeclareAsStored}
use Rattle.couch_json.specs.Value.{Value}
use Rattle.couch_json.specs.View.{view}
use Rattle.index.specs.Meaning.{declared_if, with_declared}
use Rattle.index.specs.Rebuilding.{AreLeftUnfilled, IsToDeclare}
use Rattle.index.specs.Shown.{declared}
use Rattle.index.specs.Steps.{AreFit}
use Rattle.transactions.proofs.postponing.declare_stored.Goals as goal

pub returns-in_err-history-clause-declares : goal.returns-in_err-history-clause-declares
returns-in_err-history-clause-declares g c declares sees =
    let before = map declared c.args.fresh.now.items in
    reading_stopped g.S.Store (IsToDeclareAsStored declares sees c.args.db.now c.args.id.now before) (λ d fit. fit.unfilled.store) c.args.tx.now.conn.now c.find_winning.new.tx.conn.now
    (IsDeclaredAsStored declares sees c.args.db.now c.args.id.now before) c.in_err-history.field-0.0 c.from_residual.result (search rules) c.in_err-history.ensures.finds

pub returns-in_err-declare_design-clause-declares : goal.returns-in_err-declare_design-clause-declares
returns-in_err-declare_design-clause-declares g c declares sees =
    let find = c.in_ok-history.ensures.finds in
    let before = map declared c.args.fresh.now.items in
    let body = option_map {U = Value} (λ v. view v.now) c.find_winning_body-body.result in
    let F' = IsToDeclare declares sees c.args.db.now c.as_bytes.result.now (declared_if body) before in
    let e = c.in_err-declare_design.ensures in
    change_stopped g.S.Store (IsToDeclareAsStored declares sees c.args.db.now c.args.id.now before) (λ d fit. fit.unfilled.store) c.args.tx.now.conn.now c.find_winning.new.tx.conn.now find c.declare_design.new.tx.conn.now F'
    (to_declare_as_read g.S.Store declares sees c.args.db.now c.as_bytes.result.now c.args.id.now (c.as_bytes.ensures.value ∙ c.as_str.ensures.text) body c.args.tx.now.conn.now c.find_winning.new.tx.conn.now c.in_ok-history.history c.find_winning_body-body.ensures find.ok before)
    _ (IsDeclaredAsStored declares sees c.args.db.now c.args.id.now (map declared c.declare_design.new.fresh.items)) (AreFit g.S.Store F' c.find_winning.new.tx.conn.now c.declare_design.new.tx.conn.now) (λ it. it)
    c.in_err-declare_design.field-0.0 c.from_residual-in_err-declare_design.result (search rules) (e.declares declares sees) (e.err declares sees)

pub returns-clause-declares : goal.returns-clause-declares
returns-clause-declares g c declares sees =
    let find = c.in_ok-history.ensures.finds in
    let before = map declared c.args.fresh.now.items in
    let after = map declared c.declare_design.new.fresh.items in
    let body = option_map {U = Value} (λ v. view v.now) c.find_winning_body-body.result in
    let bytes = c.as_bytes.result.now in
    let named : bytes ≡ c.args.id.now = c.as_bytes.ensures.value ∙ c.as_str.ensures.text in
    changed g.S.Store (IsToDeclareAsStored declares sees c.args.db.now c.args.id.now before) (λ d fit. fit.unfilled.store) c.args.tx.now.conn.now c.find_winning.new.tx.conn.now find
    c.declare_design.new.tx.conn.now (IsToDeclare declares sees c.args.db.now bytes (declared_if body) before)
    (to_declare_as_read g.S.Store declares sees c.args.db.now bytes c.args.id.now named body c.args.tx.now.conn.now c.find_winning.new.tx.conn.now c.in_ok-history.history c.find_winning_body-body.ensures find.ok before)
    (AreLeftUnfilled (with_declared declares c.args.db.now bytes (declared_if body)) sees c.args.db.now after) (IsDeclaredAsStored declares sees c.args.db.now c.args.id.now after) (c.in_ok-declare_design.ensures.declares declares sees)
    (declared_as_read g.S.Store declares sees c.args.db.now bytes c.args.id.now named body c.args.tx.now.conn.now c.find_winning.new.tx.conn.now c.in_ok-history.history c.find_winning_body-body.ensures find.ok before after (state g.S.Store c.declare_design.new.tx.conn.now).now)
