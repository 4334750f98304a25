-- The winner is a leaf, and where there is none no revision is one.
use Rattle.std.proofs.Common.{◌≡◌, Bool, true, false, cond, Option, Some, None, refl, sym, ap, subst, ◌∙◌}
use Rattle.std.specs.Prelude.{IsTrue, MatchOption, option_map, ◌⊎◌}
use Rattle.tree.proofs.Leaves.{winner_is_best}
use Rattle.tree.proofs.Shown.{inside}
use Rattle.tree.specs.History.{HistoryContent, IsBetter, is_leaf, winner}
use Rattle.tree.specs.Outline.{marked_revision, marked_winner}
use Rattle.tree.specs.Revision.{Revision}
use Rattle.tree.specs.declared.marked_rev.MarkedRev.{MarkedRev}

module _ (h : HistoryContent) where
  best : (o : Option Revision) → winner h ≡ o → MatchOption o ((r : Revision) → IsTrue (is_leaf h r) → ⊥) (λ r. IsTrue (is_leaf h r) × ((s : Revision) → IsTrue (is_leaf h s) → (s ≡ r) ⊎ IsBetter h r s))
  best o is = subst (λ o. MatchOption o ((r : Revision) → IsTrue (is_leaf h r) → ⊥) (λ r. IsTrue (is_leaf h r) × ((s : Revision) → IsTrue (is_leaf h s) → (s ≡ r) ⊎ IsBetter h r s))) is (winner_is_best h)

  marked_is : (o : Option Revision) (m : MarkedRev) → Some m ≡ option_map (marked_revision h) o → o ≡ Some m.rev
  marked_is None m is = absurd (cc)
  marked_is (Some r) m is = ap (λ (n : MarkedRev). Some n.rev) (sym (inside m (marked_revision h r) is))

  unmarked : (o : Option Revision) → None ≡ option_map (marked_revision h) o → o ≡ None
  unmarked None is = refl
  unmarked (Some r) is = absurd (cc)

  -- the edit that names it may follow it
  pub named_winner : (m : MarkedRev) (r : Revision) → Some m ≡ marked_winner h → m.rev ≡ r → cond (is_leaf h r) (Some (Some r)) None ≡ Some (Some r)
  named_winner m r is same = ap (λ b. cond b (Some (Some r)) None) (sym (ap (is_leaf h) same) ∙ (best (Some m.rev) (marked_is (winner h) m is)).0)

  -- and where there is none, no edit may follow what it names
  pub no_named : (r : Revision) → None ≡ marked_winner h → cond (is_leaf h r) (Some (Some r)) None ≡ None
  no_named r is = by (is_leaf h r) refl
    where
      by : (b : Bool) → is_leaf h r ≡ b → cond b (Some (Some r)) None ≡ None
      by false l = refl
      by true l = absurd (best None (unmarked (winner h) is) r l)
