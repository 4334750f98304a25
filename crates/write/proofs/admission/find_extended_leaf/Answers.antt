-- A live history has a winner that is not deleted; the winner of another is deleted.
use Rattle.std.proofs.Common.{Some, sym, ap, ◌∙◌}
use Rattle.write.proofs.Extending.{extended_live, extended_other}
use Rattle.write.proofs.admission.find_extended_leaf.Goals as goal

pub returns-then-is_live : goal.returns-then-is_live
returns-then-is_live c = sym (extended_live c.args.history.now (sym c.is_live.ensures ∙ c.if-is_live.true))

pub returns-in-Some : goal.returns-in-Some
returns-in-Some c =
    ap (λ o. Some o) (sym c.in-Some.is ∙ c.copied.ensures ∙ c.winner.ensures)
    ∙ sym (extended_other c.args.history.now (sym c.is_live.ensures ∙ c.if-is_live.false))

pub returns-in-None : goal.returns-in-None
returns-in-None c =
    ap (λ o. Some o) (sym c.in-None.is ∙ c.copied.ensures ∙ c.winner.ensures)
    ∙ sym (extended_other c.args.history.now (sym c.is_live.ensures ∙ c.if-is_live.false))
