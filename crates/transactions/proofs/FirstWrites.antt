-- What the first write of a document makes of its empty history: the newest revision of its path is the best.
use Rattle.transactions.proofs.Common.{Addition, Bool, Entry, HasBest, HistoryContent, IsBest, List, None, Option, Revision, Some, [], ap, ancestors_of_parent, cond, refl, revision_cmp, slice_get, sym, text_of, with_addition, with_write, written_in, ℕ, ◌++◌, ◌∙◌, ◌∷◌, ◌≡◌}
use Rattle.std.proofs.Common.{zero, suc}
use Rattle.std.proofs.lemmas.Bool.{false≢true}
use Rattle.std.specs.FinMap as finite
use Rattle.std.specs.Prelude.{is_some}
use Rattle.store.proofs.Winnings.{no_winner}
use Rattle.tables.proofs.FirstPath.{first_held, first_wins}
use Rattle.tree.proofs.Shown.{inside}
use Rattle.tree.specs.History.{is_deleted, path_from, onward, parent_of, winner}
use Rattle.tree.specs.Write.{Write}
use Rattle.transactions.specs.inner.Following.{HasPlaceFor}

behind_nothing : (o : Option Revision) → ancestors_of_parent finite.empty o ≡ []
behind_nothing None = refl
behind_nothing (Some p) = by p.number
  where
    by : (n : ℕ) → path_from finite.empty n p ≡ []
    by zero = refl
    by (suc n) = ap (λ (b : Bool). cond b (p ∷ onward (λ q. path_from finite.empty n q) (parent_of finite.empty p)) []) (ap is_some (finite.get-empty {X = Entry} revision_cmp p))

pub first_best : (a : Addition) (text : List ℕ) (n : Revision) → slice_get a.path 0 ≡ Some n → text ≡ text_of n → HasPlaceFor finite.empty a → IsBest (with_addition finite.empty a) text a.deleted
first_best a text n at told place = by a.path refl at
  where
    w : Write
    w = (written_in finite.empty a).write

    by : (xs : List Revision) → a.path ≡ xs → slice_get xs 0 ≡ Some n → IsBest (with_addition finite.empty a) text a.deleted
    by [] is first = absurd (cc)
    by (m ∷ rest) is first =
        let begins : w.path ≡ m ∷ (rest ++ ancestors_of_parent finite.empty a.parent) = ap (λ (xs : List Revision). xs ++ ancestors_of_parent finite.empty a.parent) is in
        record {
          best = m;
          best_is = first_wins w m (rest ++ ancestors_of_parent finite.empty a.parent) begins place;
          text_is = told ∙ ap text_of (sym (inside m n first));
          deleted_is = sym (ap is_deleted (first_held w m (rest ++ ancestors_of_parent finite.empty a.parent) begins place));
        }

-- a write without a path makes nothing
pub no_first : (a : Addition) → slice_get a.path 0 ≡ None → HasBest (with_addition finite.empty a) → ⊥
no_first a none best = by a.path refl none
  where
    w : Write
    w = (written_in finite.empty a).write

    by : (xs : List Revision) → a.path ≡ xs → slice_get xs 0 ≡ None → ⊥
    by (m ∷ rest) is first = absurd (cc)
    by [] is first =
        let nothing : w.path ≡ [] = ap (λ (xs : List Revision). xs ++ ancestors_of_parent finite.empty a.parent) is ∙ behind_nothing a.parent in
        let same : with_write finite.empty w ≡ finite.empty = ap (λ (xs : List Revision). with_write finite.empty (record { path = xs; deleted = w.deleted; body = w.body })) nothing in
        false≢true (sym (ap is_some no_winner) ∙ ap (λ (h : HistoryContent). is_some (winner h)) (sym same) ∙ best)
