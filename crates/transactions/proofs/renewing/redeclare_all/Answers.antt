use Rattle.transactions.proofs.Lemmas.{filter, state, subst, sym, ◌∙◌, ◌≡◌}
use Rattle.transactions.proofs.Common.{Error, Ok, [], docs_tree}
use Rattle.transactions.proofs.Redeclared.{all_to_redeclare, of_ids, unwritten_then}
use Rattle.transactions.specs.Renewing.{AreRedeclared, AreToRedeclare, HasNoIndexes}
use Rattle.index.proofs.Going.{if_err}
use Rattle.index.proofs.StepLemmas.{steps_read, steps_then}
use Rattle.transactions.proofs.renewing.redeclare_all.Goals as goal

pub returns-clause-makes : goal.returns-clause-makes
returns-clause-makes g c =
    let first = c.args.tx.now.conn.now in
    let between = c.rows_between_in.new.tx.conn.now in
    let last = c.redeclare_rows.new.tx.conn.now in
    let a = (state g.S.Store first).now in
    let e = (state g.S.Store last).now in
    let rows = c.deref.result.now in
    let docs = filter of_ids (a.trees docs_tree) in
    let reads = c.in_ok-rows.ensures.reads in
    let found = steps_read g.S.Store HasNoIndexes first between (Ok c.in_ok-rows.rows) reads.stands reads.looks reads.asks (λ fit. fit.store.schema_is) in
    let makes = c.redeclare_rows.ensures.makes docs in
    record {
      steps = steps_then g.S.Store {E = Error} HasNoIndexes (AreToRedeclare rows docs) (λ p q. q ≡ p) (AreRedeclared []) (AreRedeclared []) first between last c.in_ok-rows.rows c.redeclare_rows.result found makes.steps
          (λ was fit same. subst (AreToRedeclare rows docs) (sym same) (all_to_redeclare rows a fit (c.deref.ensures.value ∙ reads.found was fit.store)))
          (λ was fit same got. subst (λ z. AreRedeclared [] z e) same got);
      err = if_err c.redeclare_rows.result
          (λ e. unwritten_then g.S.Store {E = Error} HasNoIndexes (AreToRedeclare rows docs) (λ p q. q ≡ p) first between last c.in_ok-rows.rows e found makes.steps.asks
          (λ was fit same. subst (AreToRedeclare rows docs) (sym same) (all_to_redeclare rows a fit (c.deref.ensures.value ∙ reads.found was fit.store)))) makes.err;
    }
