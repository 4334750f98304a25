use Rattle.transactions.proofs.Common.{eq_by_cmp, false, refl, revision_cmp, rules, sym, true, ◌∙◌, ◌≡◌}
use Rattle.tree.proofs.Revisions.{same, tied}
use Rattle.transactions.proofs.winner_checks.check_same.Goals as goal

pub returns-then-is_eq-clause-ok : goal.returns-then-is_eq-clause-ok
returns-then-is_eq-clause-ok c =
    let on : eq_by_cmp revision_cmp c.args.one.now c.args.other.now ≡ true = search rules in
    same c.args.one.now c.args.other.now on

pub returns-else-is_eq-clause-err : goal.returns-else-is_eq-clause-err
returns-else-is_eq-clause-err c = (
  refl,
  λ is.
      let off : eq_by_cmp revision_cmp c.args.one.now c.args.other.now ≡ false = search rules in
      let both : true ≡ false = sym (tied c.args.one.now c.args.other.now is) ∙ off in
      cc,
)
