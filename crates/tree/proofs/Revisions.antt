-- Revisions that tie are equal, and whether two are equal is told by their order.
use Rattle.std.proofs.Common.{◌≡◌, ◌⊎◌, Bool, true, false, Ordering, refl, sym, ap, ◌∙◌, inl, inr}
use Rattle.std.specs.declared.cmp.Ordering.TheVariants.{Less, Equal, Greater}
use Rattle.std.specs.Ordering.{nat_cmp, is_eq, eq_by_cmp, ordering_then}
use Rattle.std.specs.Cmp.{tied_itself, Equal-is}
use Rattle.std.specs.Cmp.Lexicographic.{slice_cmp}
use Rattle.std.specs.FinMap.{IsAntisymmetric, nat_cmp-IsAntisymmetric, slice_cmp-IsAntisymmetric}
use Rattle.tree.specs.Revision.{Revision, revision_cmp}
use Rattle.tree.proofs.Kept.{revision_cmp_total}

first_tied : (a b : Ordering) → ordering_then a b ≡ Equal → (a ≡ Equal) × (b ≡ Equal)
first_tied Less b e = cc
first_tied Equal b e = (refl, e)
first_tied Greater b e = cc

pub revision_cmp_exact : IsAntisymmetric revision_cmp
revision_cmp_exact x y e =
    let t = first_tied (nat_cmp x.number y.number) (slice_cmp nat_cmp x.hash y.hash) e in
    let n = nat_cmp-IsAntisymmetric x.number y.number t.0 in
    let h = slice_cmp-IsAntisymmetric nat_cmp-IsAntisymmetric x.hash y.hash t.1 in
    λ i. record { number = n i; hash = h i }

pub same : (r s : Revision) → eq_by_cmp revision_cmp r s ≡ true → r ≡ s
same r s e = revision_cmp_exact r s ((Equal-is (revision_cmp r s)).0 e)

pub tied : (r s : Revision) → r ≡ s → eq_by_cmp revision_cmp r s ≡ true
tied r s e = ap (λ x. eq_by_cmp revision_cmp r x) (sym e) ∙ ap is_eq (tied_itself revision_cmp_total r)

pub told : (r s : Revision) → (r ≡ s) ⊎ (eq_by_cmp revision_cmp r s ≡ false)
told r s = by (eq_by_cmp revision_cmp r s) refl
  where
    by : (b : Bool) → eq_by_cmp revision_cmp r s ≡ b → (r ≡ s) ⊎ (eq_by_cmp revision_cmp r s ≡ false)
    by true e = inl (same r s e)
    by false e = inr e
