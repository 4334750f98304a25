-- Parts of a list, by a limit and by how many are left out.
use Rattle.sqlstore.proofs.Common.{AllByRecursion, Bool, IsLimitFor, List, None, Option, Row, Some, [], ap, arith, count_by, drop, false, first_rows, inl, inr, inside, length, map, negsuc, pos, refl, suc, sym, take, take-map, up_to_limit, zero, ℕ, ℤ, ◌∙◌, ◌∷◌, ◌≡◌, ◌≤◌}
use Rattle.std.proofs.lemmas.List.Sums.{length-filter}
use Rattle.sqlite_keyed.proofs.ListLemmas.{all_of, filter_none}
use Rattle.sqlite_trees.proofs.ListLemmas.{filter_same}
use Rattle.index.proofs.PagePlaces.{all_taken}

pub first_map : {A B : Type 0} (f : A → B) (most : ℤ) (xs : List A) → map f (first_rows most xs) ≡ first_rows most (map f xs)
first_map f (pos n) xs = sym (take-map f n xs)
first_map f (negsuc n) xs = refl

pub first_all : (P : Row → Type 0) (most : ℤ) (rows : List Row) → AllByRecursion P rows → AllByRecursion P (first_rows most rows)
first_all P (pos n) rows all = all_taken P n rows all
first_all P (negsuc n) rows all = all

pub limited : {A : Type 0} (limit : Option ℕ) (most : ℤ) (xs : List A) → IsLimitFor limit most → up_to_limit limit (first_rows most xs) ≡ up_to_limit limit xs
limited limit most xs (inl none) = ap (λ n. up_to_limit limit (first_rows n xs)) none
limited None most xs (inr own) = absurd (cc)
limited {A} (Some n) most xs (inr own) = let same : pos n ≡ most = inside (pos n) most own in ap (λ m. take n (first_rows m xs)) (sym same) ∙ again n xs
  where
    again : (m : ℕ) (ys : List A) → take m (take m ys) ≡ take m ys
    again zero ys = refl
    again (suc m) [] = refl
    again (suc m) (y ∷ ys) = ap (λ l. y ∷ l) (again m ys)

pub count_same : {A : Type 0} (f g : A → Bool) (xs : List A) → AllByRecursion (λ x. f x ≡ g x) xs → count_by f xs ≡ count_by g xs
count_same f g xs all = sym (length-filter f xs) ∙ ap length (filter_same f g xs all) ∙ length-filter g xs

pub count_none : {A : Type 0} (f : A → Bool) → ((x : A) → f x ≡ false) → (xs : List A) → count_by f xs ≡ 0
count_none f none xs = sym (length-filter f xs) ∙ ap length (filter_none f xs (all_of (λ x. f x ≡ false) none xs))

pub nothing_left : {A : Type 0} (n : ℕ) (xs : List A) → length xs ≤ n → drop n xs ≡ []
nothing_left n [] le = nothing n
  where
    nothing : {A : Type 0} (m : ℕ) → drop {A = A} m [] ≡ []
    nothing zero = refl
    nothing (suc m) = refl
nothing_left zero (x ∷ xs) le = absurd (omega (arith, le))
nothing_left (suc n) (x ∷ xs) le = nothing_left n xs (omega (arith, le))

pub none_limited : {A : Type 0} (limit : Option ℕ) → up_to_limit {A = A} limit [] ≡ []
none_limited None = refl
none_limited (Some zero) = refl
none_limited (Some (suc n)) = refl
