-- What a store needs beside: the order of the keys has no influence, a count is that of a filter, and where a list begins that skips keys.
use Rattle.std.proofs.Common.{◌≡◌, ℕ, zero, suc, ◌+◌, ◌-◌, ◌<◌, ◌≤◌, List, [], ◌∷◌, ◌++◌, Bool, true, false, cond, not, ◌&&◌, length, get_or, nat_lt, drop, filter, map, reverse, take, refl, sym, ap, ap₂, subst, ◌∙◌, arith}
use Rattle.std.specs.List.{sum_by}
use Rattle.std.specs.List.Sorted.{IsPermutation}
use Rattle.std.proofs.lemmas.Bool.Decides.{nat_tests}
use Rattle.std.proofs.Math.ListN.{drop_of_length-le}
use Rattle.std.proofs.Math.Seq.{drop-append_seam}
use Rattle.std.proofs.lemmas.List.{drop-drop, drop_more, length-drop, length-reverse, length-take-le, reverse-append, take-append-drop, take-take}
use Rattle.std.proofs.lemmas.List.Recursion.{is_sum_by}
use Rattle.std.proofs.lemmas.List.Sorted.{length_permutation, sum_by-IsPermutation}
use Rattle.ranks.specs.Counts.{AreChanges, AreCounts, AreRanksOf, Segments, below, between, is_below, with_key}
use Rattle.ranks.specs.Seen.{Ranks}
use Rattle.ranks.specs.declared.ranks.Change.{Change}
use Rattle.ranks.proofs.Order.{below_empty, below_rises, below_trans, not_under, rank}

-- ---- the order of the keys is no matter

below_sum : (f : List ℕ) (ks : List (List ℕ)) → below f ks ≡ sum_by (λ k. cond (is_below k f) 1 0) ks
below_sum f ks = is_sum_by (below f) (λ k. cond (is_below k f) 1 0) refl (λ k ks. refl) ks

pub below_permuted : (f : List ℕ) (ks ls : List (List ℕ)) → IsPermutation ks ls → below f ks ≡ below f ls
below_permuted f ks ls p = below_sum f ks ∙ sym (sum_by-IsPermutation (λ k. cond (is_below k f) 1 0) ks ls p) ∙ sym (below_sum f ls)

pub counts_permuted : (at : ℕ) (ks ls : List (List ℕ)) (ss : Segments) → IsPermutation ks ls → AreCounts at ks ss → AreCounts at ls ss
counts_permuted at ks ls [] p t = t ∙ sym (length_permutation ks ls p)
counts_permuted at ks ls (s ∷ ss) p t = (t.0 ∙ below_permuted s.0 ks ls p, counts_permuted (at + s.1) ks ls ss p t.1)

-- ---- changes of keys

-- what the first of the changes that are left did to the keys is counted, and the others are left
pub changes_step : (cs : List Change) (i : ℕ) (d : Change) (keys new : List (List ℕ)) (before after : Ranks) → i < length cs → AreChanges (drop i cs) keys new → AreRanksOf before keys
    → ((others : List (List ℕ)) → AreRanksOf before (with_key (get_or cs i d).was (get_or cs i d).key.now others) → AreRanksOf after (with_key (get_or cs i d).is (get_or cs i d).key.now others))
    → (ks : List (List ℕ)) × AreChanges (drop (i + 1) cs) ks new × AreRanksOf after ks
changes_step cs i d keys new before after lt changes ranks so =
    let c = get_or cs i d in
    let left : AreChanges (c ∷ drop (i + 1) cs) keys new = subst (λ (l : List Change). AreChanges l keys new) (drop_more cs i d lt) changes in
    (with_key c.is c.key.now left.0, left.2, so left.0 (counts_permuted before.head keys (with_key c.was c.key.now left.0) before.segments left.1 ranks))

-- ---- a count(*) of the rows below a key

counted : (f k : List ℕ) (ks : List (List ℕ)) (b : Bool) → is_below k f ≡ b → below f ks ≡ length (filter (λ k. is_below k f) ks) → below f (k ∷ ks) ≡ length (filter (λ k. is_below k f) (k ∷ ks))
counted f k ks true e h = rw e (omega (arith, h))
counted f k ks false e h = rw e (omega (arith, h))

pub below_filter : (f : List ℕ) (ks : List (List ℕ)) → below f ks ≡ length (filter (λ k. is_below k f) ks)
below_filter f [] = refl
below_filter f (k ∷ ks) = counted f k ks (is_below k f) refl (below_filter f ks)

-- ---- a count(*) of the rows between two keys

between_one : (lo hi k : List ℕ) (ks : List (List ℕ)) (a b : Bool) → is_below k lo ≡ a → is_below k hi ≡ b → between lo hi ks ≡ length (filter (λ k. not (is_below k lo) && is_below k hi) ks)
    → between lo hi (k ∷ ks) ≡ length (filter (λ k. not (is_below k lo) && is_below k hi) (k ∷ ks))
between_one lo hi k ks true b e f h = rw e (omega (arith, h))
between_one lo hi k ks false true e f h = rw (e, f) (omega (arith, h))
between_one lo hi k ks false false e f h = rw (e, f) (omega (arith, h))

pub between_filter : (lo hi : List ℕ) (ks : List (List ℕ)) → between lo hi ks ≡ length (filter (λ k. not (is_below k lo) && is_below k hi) ks)
between_filter lo hi [] = refl
between_filter lo hi (k ∷ ks) = between_one lo hi k ks (is_below k lo) (is_below k hi) refl refl (between_filter lo hi ks)

-- as many keys are between two bounds as below the one and not below the other
none_between : (lo hi k : List ℕ) (ks : List (List ℕ)) → is_below hi lo ≡ true → (b : Bool) → is_below k hi ≡ b → between lo hi ks ≡ 0 → between lo hi (k ∷ ks) ≡ 0
none_between lo hi k ks h true e more = rw (below_trans k hi lo e h) (omega (arith, more))
none_between lo hi k ks h false e more = rw e (by (is_below k lo))
  where
    by : (b : Bool) → cond b 0 (cond false 1 0) + between lo hi ks ≡ 0
    by true = omega (arith, more)
    by false = omega (arith, more)

no_keys_between : (lo hi : List ℕ) (ks : List (List ℕ)) → is_below hi lo ≡ true → between lo hi ks ≡ 0
no_keys_between lo hi [] h = refl
no_keys_between lo hi (k ∷ ks) h = none_between lo hi k ks h (is_below k hi) refl (no_keys_between lo hi ks h)

pub between_below : (lo hi : List ℕ) (ks : List (List ℕ)) → between lo hi ks ≡ below hi ks - below lo ks
between_below lo hi ks = by (is_below hi lo) refl
  where
    by : (b : Bool) → is_below hi lo ≡ b → between lo hi ks ≡ below hi ks - below lo ks
    by false e = omega (arith, rank lo hi ks e)
    by true e = omega (arith, no_keys_between lo hi ks e, below_rises hi hi lo ks (not_under hi) e)

pub between_least : (hi : List ℕ) (ks : List (List ℕ)) → between [] hi ks ≡ below hi ks
between_least hi ks = omega (arith, between_below [] hi ks, below_empty ks)

-- ---- ascending keys

and_false : (b : Bool) → (b && false) ≡ false
and_false true = refl
and_false false = refl

abbrev pub Above : List ℕ → List (List ℕ) → Type 0
Above k [] = Unit {0}
Above k (l ∷ ls) = (is_below k l ≡ true) × Above k ls

-- each key is above those before it
abbrev pub Rises : List (List ℕ) → Type 0
Rises [] = Unit {0}
Rises (k ∷ ks) = Above k ks × Rises ks

under : (f k l : List ℕ) (b : Bool) → is_below l f ≡ b → is_below k f ≡ false → is_below k l ≡ true → is_below l f ≡ false
under f k l false e h a = e
under f k l true e h a = let yes = below_trans k l f a e in cc

none_under : (f k : List ℕ) (ks : List (List ℕ)) → is_below k f ≡ false → Above k ks → below f ks ≡ 0
none_under f k [] h a = refl
none_under f k (l ∷ ls) h a = rw (under f k l (is_below l f) refl h a.0) (omega (arith, none_under f k ls h a.1))

-- the rank of a key that stands at a place is the number of the place
above_dropped : (l : List ℕ) (i : ℕ) (ks : List (List ℕ)) (k : List ℕ) (rest : List (List ℕ)) → Above l ks → drop i ks ≡ k ∷ rest → is_below l k ≡ true
above_dropped l zero [] k rest a e = absurd (cc)
above_dropped l (suc i) [] k rest a e = absurd (cc)
above_dropped l zero (m ∷ ks) k rest a e = let same : m ≡ k = cc in subst (λ x. is_below l x ≡ true) same a.0
above_dropped l (suc i) (m ∷ ks) k rest a e = above_dropped l i ks k rest a.1 e

pub rank_at : (i : ℕ) (ks : List (List ℕ)) (k : List ℕ) (rest : List (List ℕ)) → Rises ks → drop i ks ≡ k ∷ rest → below k ks ≡ i
rank_at zero [] k rest r e = absurd (cc)
rank_at (suc i) [] k rest r e = absurd (cc)
rank_at zero (l ∷ ks) k rest r e =
    let same : l ≡ k = cc in
    subst (λ x. below x (l ∷ ks) ≡ 0) same (rw (not_under l) (omega (arith, none_under l l ks (not_under l) r.0)))
rank_at (suc i) (l ∷ ks) k rest r e = rw (above_dropped l i ks k rest r.0 e) (omega (arith, rank_at i ks k rest r.1 e))

-- ---- parts of ascending keys

module _ {A : Type 0} (key : A → List ℕ) where
  abbrev pub is_part : List ℕ → List ℕ → A → Bool
  is_part lo hi x = not (is_below (key x) lo) && is_below (key x) hi

  none_part : (lo hi k : List ℕ) (xs : List A) → is_below k hi ≡ false → Above k (map key xs) → filter (is_part lo hi) xs ≡ []
  none_part lo hi k [] h a = refl
  none_part lo hi k (x ∷ xs) h a = rw (under hi k (key x) (is_below (key x) hi) refl h a.0, and_false (not (is_below (key x) lo))) (none_part lo hi k xs h a.1)

  -- those between two bounds begin at the rank of the one, and end at that of the other
  pub part_between : (lo hi : List ℕ) (xs : List A) → Rises (map key xs) → filter (is_part lo hi) xs ≡ drop (below lo (map key xs)) (take (below hi (map key xs)) xs)
  part_between lo hi [] r = sym (none_left (below lo (map key [])) (below hi (map key [])))
    where
      none_left : (m n : ℕ) → drop m (take {A = A} n []) ≡ []
      none_left zero zero = refl
      none_left zero (suc n) = refl
      none_left (suc m) zero = refl
      none_left (suc m) (suc n) = refl
  part_between lo hi (x ∷ xs) r = go (is_below (key x) hi) refl (is_below (key x) lo) refl (part_between lo hi xs r.1)
    where
      nothing : (m n : ℕ) → n ≡ 0 → drop m (take n (x ∷ xs)) ≡ []
      nothing zero zero e = refl
      nothing (suc m) zero e = refl
      nothing m (suc n) e = absurd (omega (arith, e))

      go : (b : Bool) → is_below (key x) hi ≡ b → (c : Bool) → is_below (key x) lo ≡ c → filter (is_part lo hi) xs ≡ drop (below lo (map key xs)) (take (below hi (map key xs)) xs)
          → filter (is_part lo hi) (x ∷ xs) ≡ drop (below lo (map key (x ∷ xs))) (take (below hi (map key (x ∷ xs))) (x ∷ xs))
      go false e c f more =
          let n : below hi (map key (x ∷ xs)) ≡ 0 = rw e (omega (arith, none_under hi (key x) (map key xs) e r.0)) in
          let left : filter (is_part lo hi) (x ∷ xs) ≡ [] = rw (e, and_false (not (is_below (key x) lo))) (none_part lo hi (key x) xs e r.0) in
          left ∙ sym (nothing (below lo (map key (x ∷ xs))) (below hi (map key (x ∷ xs))) n)
      go true e true f more =
          let n : below hi (map key (x ∷ xs)) ≡ suc (below hi (map key xs)) = rw e (omega arith) in
          let m : below lo (map key (x ∷ xs)) ≡ suc (below lo (map key xs)) = rw f (omega arith) in
          let left : filter (is_part lo hi) (x ∷ xs) ≡ filter (is_part lo hi) xs = rw f refl in
          left ∙ more ∙ sym (ap₂ (λ i j. drop i (take j (x ∷ xs))) m n)
      go true e false f more =
          let n : below hi (map key (x ∷ xs)) ≡ suc (below hi (map key xs)) = rw e (omega arith) in
          let none : below lo (map key xs) ≡ 0 = none_under lo (key x) (map key xs) f r.0 in
          let m : below lo (map key (x ∷ xs)) ≡ 0 = rw f (omega (arith, none)) in
          let left : filter (is_part lo hi) (x ∷ xs) ≡ x ∷ filter (is_part lo hi) xs = rw (f, e) refl in
          left ∙ ap (λ l. x ∷ l) (more ∙ ap (λ i. drop i (take (below hi (map key xs)) xs)) none) ∙ sym (ap₂ (λ i j. drop i (take j (x ∷ xs))) m n)

-- ---- a skip

-- some keys are left out at the start, and then the rest of those that are skipped
pub skip_up : {A : Type 0} (xs : List A) (low before skip : ℕ) → low ≤ before → before ≤ low + skip → drop skip (drop low xs) ≡ drop (low + skip - before) (drop before xs)
skip_up xs low before skip le most =
    let sum : before + (low + skip - before) ≡ low + skip = omega arith in
    drop-drop skip low xs ∙ ap (λ n. drop n xs) (sym sum) ∙ sym (drop-drop (low + skip - before) before xs)

drop_back : {A : Type 0} (k : ℕ) (ys : List A) → drop k (reverse ys) ≡ reverse (take (length ys - k) ys)
drop_back k ys = by (nat_lt (length ys) k) refl
  where
    by : (b : Bool) → nat_lt (length ys) k ≡ b → drop k (reverse ys) ≡ reverse (take (length ys - k) ys)
    by true e =
        let lt : length ys < k = grind (arith, nat_tests, e) in
        let none : length ys - k ≡ 0 = omega (arith, lt) in
        let long : length (reverse ys) ≤ k = omega (arith, lt, length-reverse ys) in
        drop_of_length-le (reverse ys) long ∙ sym (ap (λ n. reverse (take n ys)) none)
    by false e =
        let le : k ≤ length ys = grind (arith, nat_tests, e) in
        let rest = length ys - k in
        let long : length (reverse (drop rest ys)) ≡ k = omega (arith, le, length-reverse (drop rest ys), length-drop rest ys) in
        ap (λ l. drop k (reverse l)) (sym (take-append-drop rest ys)) ∙ ap (drop k) (reverse-append (take rest ys) (drop rest ys))
        ∙ ap (λ n. drop n (reverse (drop rest ys) ++ reverse (take rest ys))) (sym long) ∙ drop-append_seam (reverse (drop rest ys)) (reverse (take rest ys))

take_none : {A : Type 0} (n : ℕ) → take {A = A} n [] ≡ []
take_none zero = refl
take_none (suc n) = refl

take_dropped : {A : Type 0} (n a : ℕ) (ys : List A) → take (n - a) (drop a ys) ≡ drop a (take n ys)
take_dropped n zero ys = let same : n - 0 ≡ n = omega arith in ap (λ m. take m ys) same
take_dropped n (suc a) [] = take_none (n - suc a) ∙ sym (ap (drop (suc a)) (take_none n))
take_dropped zero (suc a) (y ∷ ys) = let same : 0 - suc a ≡ 0 = omega arith in ap (λ m. take m (drop a ys)) same
take_dropped (suc n) (suc a) (y ∷ ys) = let same : suc n - suc a ≡ n - a = omega arith in ap (λ m. take m (drop a ys)) same ∙ take_dropped n a ys

-- downwards, those at the end
pub skip_down : {A : Type 0} (xs : List A) (low high before skip : ℕ) → before ≤ high → high ≤ before + skip → high ≤ length xs
    → drop skip (reverse (drop low (take high xs))) ≡ drop (before + skip - high) (reverse (drop low (take before xs)))
skip_down xs low high before skip le most within =
    let ys = drop low (take high xs) in
    let sum : high - before + (before + skip - high) ≡ skip = omega arith in
    let long : length ys ≡ high - low = omega (arith, length-drop low (take high xs), length-take-le high xs within) in
    let left : length ys - (high - before) ≡ before - low = omega (arith, long) in
    ap (λ n. drop n (reverse ys)) (sym sum) ∙ sym (drop-drop (before + skip - high) (high - before) (reverse ys))
    ∙ ap (drop (before + skip - high)) (drop_back (high - before) ys ∙ ap (λ n. reverse (take n ys)) left ∙ ap reverse (take_dropped before low (take high xs) ∙ ap (drop low) (take-take before high xs le)))
