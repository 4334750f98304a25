-- Two lists of the same elements, none of which stands twice, are one list in two orders.
use Rattle.std.proofs.Common.{◌≡◌, ◌≢◌, ◌⊎◌, List, [], ◌∷◌, ◌++◌, inl, inr, refl, sym, ap, subst, ◌∙◌}
use Rattle.std.proofs.lemmas.List.Sorted.{IsPermutation-cons, IsPermutation-middle, IsPermutation-refl, IsPermutation-sym, IsPermutation-trans}
use Rattle.std.specs.List.Sorted.{IsPermutation}
use Rattle.sqlite_trees.specs.Tree.{IsAscending}
use Rattle.store.proofs.Listings.{In}
use Rattle.index.proofs.Spots.{at_in, each_in}

-- no element stands twice in the list
abbrev pub IsApart : {X : Type 0} → List X → Type 0
IsApart xs = IsAscending (λ a b. a ≢ b) xs

module _ {X : Type 0} where
  -- ---- a list, and what is left of it without an element

  in_middle : (front behind : List X) (x : X) → In (front ++ x ∷ behind) x
  in_middle [] behind x = inl refl
  in_middle (y ∷ front) behind x = inr (in_middle front behind x)

  in_whole : (front behind : List X) (x z : X) → In (front ++ behind) z → In (front ++ x ∷ behind) z
  in_whole [] behind x z i = inr i
  in_whole (y ∷ front) behind x z (inl e) = inl e
  in_whole (y ∷ front) behind x z (inr i) = inr (in_whole front behind x z i)

  in_rest : (front behind : List X) (x z : X) → In (front ++ x ∷ behind) z → (x ≡ z) ⊎ In (front ++ behind) z
  in_rest [] behind x z i = i
  in_rest (y ∷ front) behind x z (inl e) = inr (inl e)
  in_rest (y ∷ front) behind x z (inr i) = elim (in_rest front behind x z i) as (λ _. (x ≡ z) ⊎ In (y ∷ (front ++ behind)) z) [ inl e ↦ inl e | inr j ↦ inr (inr j) ]

  -- what stands in front of an element and behind it
  parts_at : (xs : List X) (x : X) → In xs x → (front : List X) × (behind : List X) × (xs ≡ front ++ x ∷ behind)
  parts_at [] x i = absurd i
  parts_at (y ∷ ys) x (inl e) = ([], ys, ap (λ z. z ∷ ys) e)
  parts_at (y ∷ ys) x (inr i) = let p = parts_at ys x i in (y ∷ p.0, p.1, ap (λ l. y ∷ l) p.2)

  -- nor does one stand twice without it, and it doesn't stand there
  apart_without : (front behind : List X) (x : X) → IsApart (front ++ x ∷ behind) → IsApart (front ++ behind) × ((z : X) → In (front ++ behind) z → x ≢ z)
  apart_without [] behind x up = (up.1, λ z i. at_in (λ b. x ≢ b) behind z up.0 i)
  apart_without (y ∷ front) behind x up =
      let rest = apart_without front behind x up.1 in
      let other : y ≢ x = at_in (λ b. y ≢ b) (front ++ x ∷ behind) x up.0 (in_middle front behind x) in (
        (each_in (λ b. y ≢ b) (front ++ behind) (λ z i. at_in (λ b. y ≢ b) (front ++ x ∷ behind) z up.0 (in_whole front behind x z i)), rest.0),
        λ z i. elim i as (λ _. x ≢ z) [ inl e ↦ λ same. other (e ∙ sym same) | inr j ↦ rest.1 z j ],
      )

  -- ---- two lists

  pub same_elements : (xs ys : List X) → IsApart xs → IsApart ys → ((z : X) → In xs z → In ys z) → ((z : X) → In ys z → In xs z) → IsPermutation xs ys
  same_elements [] [] p q into back = IsPermutation-refl []
  same_elements [] (y ∷ ys) p q into back = absurd (back y (inl refl))
  same_elements (x ∷ xs) ys p q into back =
      let at = parts_at ys x (into x (inl refl)) in
      let front = at.0 in
      let behind = at.1 in
      let left = apart_without front behind x (subst IsApart at.2 q) in
      let rest = same_elements xs (front ++ behind) p.1 left.0
      (λ z i. other (front ++ behind) z (at_in (λ b. x ≢ b) xs z p.0 i) (in_rest front behind x z (subst (λ l. In l z) at.2 (into z (inr i)))))
      (λ z i. other xs z (left.1 z i) (back z (subst (λ l. In l z) (sym at.2) (in_whole front behind x z i)))) in
      subst (IsPermutation (x ∷ xs)) (sym at.2)
      (IsPermutation-trans (x ∷ xs) (x ∷ (front ++ behind)) (front ++ x ∷ behind) (IsPermutation-cons x xs (front ++ behind) rest)
      (IsPermutation-sym (front ++ x ∷ behind) (x ∷ (front ++ behind)) (IsPermutation-middle front x behind)))
    where
      other : (l : List X) (z : X) → x ≢ z → (x ≡ z) ⊎ In l z → In l z
      other l z apart (inl e) = absurd (apart e)
      other l z apart (inr i) = i
