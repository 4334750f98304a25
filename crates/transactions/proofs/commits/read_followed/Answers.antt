use Rattle.transactions.proofs.Lemmas.{addition_of, rules, sym, ◌∙◌}
use Rattle.transactions.proofs.Common.{None, Some}
use Rattle.transactions.proofs.Readers.{finds_so, finds_then, then_failed}
use Rattle.transactions.proofs.WinningRows.{read_for}
use Rattle.transactions.proofs.commits.read_followed.Goals as goal

pub returns-in_err-check_winner-clause-finds : goal.returns-in_err-check_winner-clause-finds
returns-in_err-check_winner-clause-finds g c =
    then_failed g.S.Store c.in_ok-winner.ensures.finds c.in_err-check_winner.field-0.0 c.from_residual-in_err-check_winner.result (search rules) c.in_err-check_winner.ensures.finds
    (λ d store holds found. sym found ∙ c.in-Some-winner.is)

pub returns-in_default-winner-clause-finds : goal.returns-in_default-winner-clause-finds
returns-in_default-winner-clause-finds g c =
    let history = c.in_ok-history.ensures in
    finds_so g.S.Store c.in_ok-winner.ensures.finds
    (λ trees laid found.
    read_for trees c.args.db.now laid (addition_of c.args.write.now) c.copy_winner.result None _ _ (c.copy_winner.ensures ∙ c.in_default-winner.is) (sym c.in_default-winner.is ∙ found) c.in-Some.is
    history.serves history.has_best)

pub returns-clause-finds : goal.returns-clause-finds
returns-clause-finds g c =
    let history = c.in_ok-history.ensures in
    finds_then g.S.Store c.in_ok-winner.ensures.finds c.in_ok-check_winner.ensures.finds
    (λ trees laid found checked.
    read_for trees c.args.db.now laid (addition_of c.args.write.now) c.copy_winner.result (Some c.in-Some-winner.best) _ _ (c.copy_winner.ensures ∙ c.in-Some-winner.is) (sym c.in-Some-winner.is ∙ found)
    c.in-Some.is history.serves history.has_best)
