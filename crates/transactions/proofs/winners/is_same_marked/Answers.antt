use mathlib.Core.Bool.{beq}
use Rattle.transactions.proofs.Common.{Bool, ap, eq_by_cmp, false, refl, revision_cmp, rules, sym, true, ◌∙◌, ◌≡◌}
use Rattle.tree.proofs.Revisions.{same, tied}
use Rattle.tree.specs.declared.marked_rev.MarkedRev.{MarkedRev}
use Rattle.transactions.proofs.winners.is_same_marked.Goals as goal

same_mark : (x y : Bool) → beq x y ≡ true → x ≡ y
same_mark true true e = refl
same_mark true false e = sym e
same_mark false true e = e
same_mark false false e = refl

itself : (x : Bool) → beq x x ≡ true
itself true = refl
itself false = refl

pub returns-then-is_eq : goal.returns-then-is_eq
returns-then-is_eq c =
    let one = c.args.one.now in
    let other = c.args.other.now in
    let on : eq_by_cmp revision_cmp one.rev other.rev ≡ true = search rules in (
      (λ marks. λ i. record { rev = same one.rev other.rev on i; deleted = same_mark one.deleted other.deleted marks i }),
      (λ is. ap (λ (m : MarkedRev). beq one.deleted m.deleted) (sym is) ∙ itself one.deleted),
    )

pub returns-else-is_eq : goal.returns-else-is_eq
returns-else-is_eq c =
    let one = c.args.one.now in
    let other = c.args.other.now in
    let off : eq_by_cmp revision_cmp one.rev other.rev ≡ false = search rules in (
      (λ is. let both : true ≡ false = sym is ∙ c.if-is_eq.false in cc),
      (λ is. let both : true ≡ false = sym (tied one.rev other.rev (ap (λ (m : MarkedRev). m.rev) is)) ∙ off in cc),
    )
