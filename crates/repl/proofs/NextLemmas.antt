-- Requests behind the one that a pass asks now, made one after another.
use Rattle.std.proofs.Common.{◌≡◌, ◌<◌, ◌≤◌, ◌+◌, ◌++◌, ◌∙◌, ◌∷◌, ℕ, zero, suc, List, [], length, map, drop, take, ap, refl, sym, slice_index_or, arith}
use Rattle.std.proofs.lemmas.List.{map-append}

module _ {A B C : Type 0} (f : A → B) (g : B → C) where
  more_of : (xs : List A) (n : ℕ) (d : A) → n < length xs → d ≡ slice_index_or xs n d → take (suc n) (map g (map f xs)) ≡ take n (map g (map f xs)) ++ g (f d) ∷ []
  more_of [] n d within is = absurd (omega (arith, within))
  more_of (x ∷ xs) zero d within is = ap (λ (e : A). g (f e) ∷ []) (sym is)
  more_of (x ∷ xs) (suc n) d within is = ap (λ (l : List C). g (f x) ∷ l) (more_of xs n d (omega (arith, within)) is)

  all_of : (xs : List A) (n m : ℕ) → length xs ≤ n → n ≤ m → take n (map g (map f xs)) ≡ take m (map g (map f xs))
  all_of [] zero zero within less = refl
  all_of [] zero (suc m) within less = refl
  all_of [] (suc n) zero within less = refl
  all_of [] (suc n) (suc m) within less = refl
  all_of (x ∷ xs) zero m within less = absurd (omega (arith, within))
  all_of (x ∷ xs) (suc n) zero within less = absurd (omega (arith, less))
  all_of (x ∷ xs) (suc n) (suc m) within less = ap (λ (l : List C). g (f x) ∷ l) (all_of xs n m (omega (arith, within)) (omega (arith, less)))

  -- the one behind those that were made
  pub one_more_next : (xs : List A) (n : ℕ) (d : A) → n + 1 < length xs → d ≡ slice_index_or xs (n + 1) d
      → take (n + 1) (map g (drop 1 (map f xs))) ≡ take n (map g (drop 1 (map f xs))) ++ g (f d) ∷ []
  one_more_next [] n d within is = absurd (omega (arith, within))
  one_more_next (x ∷ xs) n d within is =
      let one : n + 1 ≡ suc n = omega arith in
      rw one (more_of xs n d (omega (arith, within)) (is ∙ ap (λ (k : ℕ). slice_index_or (x ∷ xs) k d) one))

  -- there is none behind those that were made
  pub no_more_next : (xs : List A) (n m : ℕ) → length xs ≤ n + 1 → n ≤ m → take n (map g (drop 1 (map f xs))) ≡ take m (map g (drop 1 (map f xs)))
  no_more_next [] zero zero within less = refl
  no_more_next [] zero (suc m) within less = refl
  no_more_next [] (suc n) zero within less = refl
  no_more_next [] (suc n) (suc m) within less = refl
  no_more_next (x ∷ xs) n m within less = all_of xs n m (omega (arith, within)) less

  -- one more request is made
  pub makes_next : {R : Type 0} (h : R → C) (old new : List R) (r : R) (xs : List A) (n : ℕ) (d : A) → new ≡ old ++ r ∷ [] → map h old ≡ take n (map g (drop 1 (map f xs))) → h r ≡ g (f d)
      → n + 1 < length xs → d ≡ slice_index_or xs (n + 1) d → map h new ≡ take (n + 1) (map g (drop 1 (map f xs)))
  makes_next h old new r xs n d pushed made is within there =
      ap (map h) pushed ∙ map-append h old (r ∷ []) ∙ ap (λ (l : List C). l ++ h r ∷ []) made
      ∙ ap (λ (e : C). take n (map g (drop 1 (map f xs))) ++ e ∷ []) is ∙ sym (one_more_next xs n d within there)
