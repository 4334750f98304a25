-- The entries of a map, after a value was put in: those of all other keys are the same.
use Rattle.std.proofs.Common.{◌≡◌, ℕ, suc, ◌+◌, List, [], ◌∷◌, Bool, true, false, cond, Option, None, Some, T, ◌&&◌, Less, Equal, Greater, length, refl, sym, subst, arith}
use Rattle.std.specs.Prelude.{is_some}
use Rattle.std.proofs.lemmas.Cmp.{nat_list_cmp_total}
use Rattle.std.proofs.lemmas.List.Sorted.{IsPermutation-cons, IsPermutation-middle, IsPermutation-refl, IsPermutation-trans}
use Rattle.std.specs.Cmp.Lexicographic.{slice_cmp}
use Rattle.std.specs.FinMap as finite
use Rattle.std.specs.FinMap.{FinMap, nat_cmp-IsAntisymmetric, slice_cmp-IsAntisymmetric}
use Rattle.std.specs.FinMap.Entries.{by_order, find, is_sorted, length-put, put}
use Rattle.std.specs.List.Sorted.{IsPermutation}
use Rattle.std.specs.Ordering.{is_eq, nat_cmp}

not_found : {X : Type 0} (o : Option X) (n : ℕ) → suc n ≡ cond (is_some o) n (n + 1) → o ≡ None
not_found None n e = refl
not_found (Some x) n e = absurd (omega (arith, e))

second : (a b : Bool) → T (a && b) → T b
second true b p = p
second false b p = absurd p

-- these entries, and that of a key which has a value
abbrev pub with_entry : {V : Type 0} → List ℕ → Option V → List (List ℕ × V) → List (List ℕ × V)
with_entry k None es = es
with_entry k (Some v) es = (k, v) ∷ es

-- a key with what is stored there, and with what is put in
abbrev IsPut : {V : Type 0} → List ℕ → V → Option V → List (List ℕ × V) → List (List ℕ × V) → Type 0
IsPut {V} k v there old new = (rest : List (List ℕ × V)) × IsPermutation old (with_entry k there rest) × IsPermutation new ((k, v) ∷ rest)

module _ {V : Type 0} where
  more_entries : (k : List ℕ) (o : Option V) (e : List ℕ × V) (es rest : List (List ℕ × V)) → IsPermutation es (with_entry k o rest) → IsPermutation (e ∷ es) (with_entry k o (e ∷ rest))
  more_entries k None e es rest p = IsPermutation-cons e es rest p
  more_entries k (Some v) e es rest p =
      IsPermutation-trans (e ∷ es) (e ∷ (k, v) ∷ rest) ((k, v) ∷ e ∷ rest) (IsPermutation-cons e es ((k, v) ∷ rest) p) (IsPermutation-middle (e ∷ []) (k, v) rest)

  put_at : (k : List ℕ) (v : V) (e : List ℕ × V) (es : List (List ℕ × V)) → k ≡ e.0 → IsPut k v (Some e.1) (e ∷ es) ((e.0, v) ∷ es)
  put_at k v e es same = subst (λ x. IsPut x v (Some e.1) (e ∷ es) ((e.0, v) ∷ es)) (sym same) (es, IsPermutation-refl (e ∷ es), IsPermutation-refl ((e.0, v) ∷ es))

  put_behind : (k : List ℕ) (v : V) (e : List ℕ × V) (es new : List (List ℕ × V)) (there : Option V) → IsPut k v there es new → IsPut k v there (e ∷ es) (e ∷ new)
  put_behind k v e es new there p = (e ∷ p.0, more_entries k there e es p.0 p.1, more_entries k (Some v) e new p.0 p.2)

  put_among : (k : List ℕ) (v : V) (es : List (List ℕ × V)) → T (is_sorted (slice_cmp nat_cmp) es) → IsPut k v (find (slice_cmp nat_cmp) k es) es (put (slice_cmp nat_cmp) k v es)
  put_among k v [] h = ([], IsPermutation-refl [], IsPermutation-refl ((k, v) ∷ []))
  put_among k v (e ∷ es) h =
      let R = slice_cmp nat_cmp in
      let long = length-put R nat_list_cmp_total k v (e ∷ es) h in
      elim (R k e.0) as (λ r. R k e.0 ≡ r → length (by_order r ((k, v) ∷ e ∷ es) ((e.0, v) ∷ es) (e ∷ put R k v es)) ≡ cond (is_some (cond (is_eq r) (Some e.1) (find R k es))) (suc (length es)) (suc (length es) + 1)
      → IsPut k v (cond (is_eq r) (Some e.1) (find R k es)) (e ∷ es) (by_order r ((k, v) ∷ e ∷ es) ((e.0, v) ∷ es) (e ∷ put R k v es))) [
        | Less ↦ λ p l. (
          e ∷ es,
          subst (λ (o : Option V). IsPermutation (e ∷ es) (with_entry k o (e ∷ es))) (sym (not_found (find R k es) (suc (length es)) l)) (IsPermutation-refl (e ∷ es)),
          IsPermutation-refl ((k, v) ∷ e ∷ es),
        )
        | Equal ↦ λ p l. put_at k v e es (slice_cmp-IsAntisymmetric nat_cmp-IsAntisymmetric k e.0 p)
        | Greater ↦ λ p l. put_behind k v e es (put R k v es) (find R k es) (put_among k v es (second _ _ h))
      ] refl long

  -- the entries of all other keys are the same, before a value is put in at a key and after it
  pub entries_inserted : (m : FinMap (slice_cmp nat_cmp) V) (k : List ℕ) (v : V)
      → (rest : List (List ℕ × V)) × IsPermutation (finite.entries m) (with_entry k (finite.get m k) rest) × IsPermutation (finite.entries (finite.insert m k v)) ((k, v) ∷ rest)
  entries_inserted m k v =
      let p = put_among k v (finite.entries m) (finite.entries_sorted m) in (
        p.0,
        subst (λ (o : Option V). IsPermutation (finite.entries m) (with_entry k o p.0)) (sym (finite.get-entries m k)) p.1,
        subst (λ (es : List (List ℕ × V)). IsPermutation es ((k, v) ∷ p.0)) (sym (finite.entries-insert nat_list_cmp_total m k v)) p.2,
      )
