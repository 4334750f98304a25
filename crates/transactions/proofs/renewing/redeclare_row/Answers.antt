use Rattle.transactions.specs.Commits.{IsSound}
use Rattle.transactions.proofs.Lemmas.{ap, rules, ⊤, state, subst, sym, ◌∙◌, ◌≡◌}
use Rattle.transactions.proofs.Common.{Err, List, db_of, false, id_of, refl, true, ℕ, ◌∷◌}
use Rattle.transactions.proofs.Redeclared.{named_one, redeclared, skipped, unwritten_as}
use Rattle.transactions.proofs.Committing.{unwritten_of}
use Rattle.transactions.specs.Indexing.{IsRedeclared}
use Rattle.transactions.specs.Renewing.{AreRedeclared, IsShownName, IsToRedeclare, without_documents}
use Rattle.index.specs.Declaring.{IsRebuildable}
use Rattle.index.specs.Meaning.{declares_in, sees_in}
use Rattle.index.specs.Steps.{AreFit, WasFit}
use Rattle.index.proofs.Going.{if_err}
use Rattle.index.proofs.StepLemmas.{steps_err, steps_read, steps_so, steps_weaker}
use Rattle.sqlite_value.specs.Order.{bytes, column}
use Rattle.tables.specs.Rows.{whole_in_cell}
use Rattle.tree.specs.DocumentId.{is_design_id}
use Rattle.transactions.proofs.renewing.redeclare_row.Goals as goal

pub returns-in_err-named-clause-makes : goal.returns-in_err-named-clause-makes
returns-in_err-named-clause-makes g c d left =
    let a = c.args.tx.now.conn.now in
    let fault = c.in_err-named.field-0.0 in
    let Fit = IsToRedeclare c.args.row.now d left in
    let Given = AreFit g.S.Store Fit a a in
    let is : c.from_residual.result ≡ Err fault = search rules in
    record {
      steps = steps_err g.S.Store Fit (AreRedeclared left) a fault c.from_residual.result is;
      err = unwritten_as Given c.from_residual.result fault is
          (unwritten_of (IsShownName c.args.row.now) Given fault (λ it. subst IsShownName (sym it.1.shown_is) (named_one (state g.S.Store a).now.trees d it.1.row)) c.in_err-named.ensures.err);
    }

-- what is read of another document changes nothing, and that declares nothing
pub returns-clause-makes : goal.returns-clause-makes
returns-clause-makes g c d left =
    let first = c.args.tx.now.conn.now in
    let last = c.check_stored.new.tx.conn.now in
    let a = (state g.S.Store first).now in
    let plain : is_design_id c.in_ok-named.named.id ≡ false = search rules in
    let Fit = IsToRedeclare c.args.row.now d left in
    let read = c.check_stored.ensures.finds in
    record {
      steps = steps_so g.S.Store Fit (λ p q. q ≡ p) (AreRedeclared left) first last c.check_stored.result
          (steps_read g.S.Store Fit first last c.check_stored.result read.stands read.looks read.asks (λ fit. fit.store.schema_is))
          (λ fit same.
          subst (AreRedeclared left a) (sym same)
          (skipped d left a c.args.row.now fit (ap is_design_id (ap (λ s. bytes (column s 1)) (sym fit.shown_is) ∙ sym c.in_ok-named.ensures.id) ∙ plain)));
      err = if_err c.check_stored.result
          (λ e. unwritten_of (IsSound g.S.Store (λ _. ⊤) first last) (AreFit g.S.Store Fit first last) e (λ it. (it.0, λ up. (it.1.store, tt)))) read.err;
    }

pub returns-then-is_design-clause-makes : goal.returns-then-is_design-clause-makes
returns-then-is_design-clause-makes g c d left =
    let first = c.args.tx.now.conn.now in
    let last = c.redeclare.new.tx.conn.now in
    let a = (state g.S.Store first).now in
    let b = (state g.S.Store last).now in
    let declares = without_documents (declares_in a.trees) (d ∷ left) in
    let sees = sees_in a.trees in
    let n = c.in_ok-named.named.db in
    let id : List ℕ = c.in_ok-named.named.id in
    let design : is_design_id id ≡ true = search rules in
    let Fit = IsToRedeclare c.args.row.now d left in
    record {
      steps = steps_weaker g.S.Store Fit (IsRebuildable declares sees n) (AreRedeclared left) (IsRedeclared declares sees n id) first last c.redeclare.result (c.redeclare.ensures.steps declares sees design)
          (λ fit. record { store = fit.store; indexed = fit.indexed; seen = λ i. refl })
          (λ fit made.
          let number : n ≡ db_of d = c.in_ok-named.ensures.db ∙ ap (λ s. whole_in_cell (column s 0)) fit.shown_is in
          let name : id ≡ id_of d = c.in_ok-named.ensures.id ∙ ap (λ s. bytes (column s 1)) fit.shown_is in
          redeclared d left a c.args.row.now fit b (subst (λ i. IsRedeclared declares sees (db_of d) i a b) name (subst (λ m. IsRedeclared declares sees m id a b) number made)));
      err = if_err c.redeclare.result
          (λ e. unwritten_of (WasFit g.S.Store (IsRebuildable declares sees n) first last) (AreFit g.S.Store Fit first last) e
          (λ it. (it.0, λ up. record { store = it.1.store; indexed = it.1.indexed; seen = λ i. refl }))) (c.redeclare.ensures.err declares sees);
    }
