use Rattle.transactions.proofs.Lemmas.{refl, ◌∙◌}
use Rattle.transactions.proofs.Common.{inl, inr}
use Rattle.transactions.proofs.Readers.{finds_so}
use Rattle.transactions.proofs.postponing.note_winner.Goals as goal

pub returns-then-is_same_winner-clause-finds : goal.returns-then-is_same_winner-clause-finds
returns-then-is_same_winner-clause-finds g c = finds_so g.S.Store c.in_ok-after.ensures.finds (λ trees laid found. inl (c.is_same_winner.ensures.0 c.if-is_same_winner.true ∙ found, refl))

pub returns-clause-finds : goal.returns-clause-finds
returns-clause-finds g c = finds_so g.S.Store c.in_ok-after.ensures.finds (λ trees laid found. inr c.in_ok-postpone.ensures)
