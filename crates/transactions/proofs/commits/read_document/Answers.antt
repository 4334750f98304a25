use Rattle.transactions.proofs.Lemmas.{ap, history_intact, history_read, history_shown, is_row_of_document, lost, lost_damaged, rules, sym, ◌∙◌}
use Rattle.transactions.proofs.Readers.{finds_lost, finds_shown, finds_so}
use Rattle.tree.specs.Outline.{marked_winner}
use Rattle.transactions.specs.declared.commit_fault.CommitFault.TheVariants as write
use Rattle.transactions.proofs.commits.read_document.Goals as goal

pub returns-clause-finds : goal.returns-clause-finds
returns-clause-finds g c =
    finds_so g.S.Store (finds_shown g.S.Store c.in_ok-rows.ensures.reads)
    (λ trees laid found. history_read trees c.args.db.now c.args.id.now c.in_ok-rows.rows.items _ laid found c.in_ok-history.ensures)

pub returns-in_err-history-clause-finds : goal.returns-in_err-history-clause-finds
returns-in_err-history-clause-finds g c =
    let fault = c.in_err-history.field-0.0 in
    finds_lost g.S.Store (finds_shown g.S.Store c.in_ok-rows.ensures.reads) (write.Store fault) c.from_residual-in_err-history.result (search rules) _
    (λ trees laid holds found. history_intact trees (is_row_of_document c.args.db.now c.args.id.now) _ laid found)
    (lost (history_shown c.in_ok-rows.rows.items) _ _ fault c.in_err-history.ensures (λ intact. intact))

pub returns-in_err-check_history-clause-finds : goal.returns-in_err-check_history-clause-finds
returns-in_err-check_history-clause-finds g c =
    let fault = c.in_err-check_history.field-0.0 in
    finds_lost g.S.Store (finds_shown g.S.Store c.in_ok-rows.ensures.reads) (write.Store fault) c.from_residual-in_err-check_history.result (search rules) _
    (λ trees laid named found. named ∙ ap marked_winner (sym (history_read trees c.args.db.now c.args.id.now c.in_ok-rows.rows.items _ laid found c.in_ok-history.ensures)))
    (lost_damaged _ fault c.in_err-check_history.ensures.err.0 c.in_err-check_history.ensures.err.1)
