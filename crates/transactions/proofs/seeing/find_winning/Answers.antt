use Rattle.transactions.proofs.Lemmas.{alone_is, ap, lost_damaged, rules, sym, winner_known, ◌∙◌}
use Rattle.transactions.proofs.Common.{None, Some, Trees, entry_of_row}
use Rattle.transactions.proofs.Readers.{finds_both, finds_lost, finds_so, then_failed}
use Rattle.couch_json.specs.View.{view}
use Rattle.tree.specs.History.{with_new}
use Rattle.transactions.specs.inner.Histories.{stored_history}
use Rattle.transactions.specs.declared.commit_fault.CommitFault.TheVariants as write
use Rattle.transactions.proofs.seeing.find_winning.Goals as goal

pub returns-in_err-known-clause-finds : goal.returns-in_err-known-clause-finds
returns-in_err-known-clause-finds g c =
    then_failed g.S.Store c.in_ok-winner.ensures.finds c.in_err-known.field-0.0 c.from_residual-in_err-known.result (search rules) c.in_err-known.ensures.finds (λ d store holds found. tt)

pub returns-in_err-body-clause-finds : goal.returns-in_err-body-clause-finds
returns-in_err-body-clause-finds g c =
    let w = c.in-Some.winner in
    let fault = c.in_err-body.field-0.0 in
    finds_lost g.S.Store (finds_both g.S.Store c.in_ok-winner.ensures.finds c.in_ok-known.ensures.finds) (write.Store fault) c.from_residual-in_err-body.result (search rules) _
    (λ trees laid holds both. winner_known trees c.args.db.now c.args.id.now laid w c.in_ok-known.known (sym both.0 ∙ c.in-Some.is) both.1)
    (lost_damaged _ fault c.in_err-body.ensures.err.0 c.in_err-body.ensures.err.1)

pub returns-clause-finds : goal.returns-clause-finds
returns-clause-finds g c =
    let w = c.in-Some.winner in
    let held = Some (w.deleted, view c.in_ok-body.body) in
    finds_so g.S.Store (finds_both g.S.Store c.in_ok-winner.ensures.finds c.in_ok-known.ensures.finds)
    (λ (trees : Trees) laid both.
    c.in_ok-put_revision.ensures.ok ∙ ap (λ k. with_new k w.rev (entry_of_row None held)) c.new-history.ensures
    ∙ alone_is (stored_history trees c.args.db.now c.args.id.now) w c.in_ok-known.known held (sym both.0 ∙ c.in-Some.is) both.1 (sym c.in_ok-body.ensures.ok))
