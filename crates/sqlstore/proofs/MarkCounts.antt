-- How many documents are marked so, after one of them was put in.
use Rattle.std.proofs.Common.{◌≡◌, ℕ, suc, ◌+◌, List, [], ◌∷◌, Bool, true, false, cond, IfSome, Option, None, Some, T, ◌&&◌, Ordering, Less, Equal, Greater, drop, get_or, length, ◌<◌, refl, sym, ap, ap₂, subst, ◌∙◌, arith}
use Rattle.std.specs.Prelude.{is_some}
use Rattle.std.proofs.lemmas.Cmp.{nat_list_cmp_total}
use Rattle.std.proofs.lemmas.List.{drop_more}
use Rattle.std.proofs.lemmas.List.Sums.{sum_by-cons}
use Rattle.std.specs.Cmp.{IsTotalOrder}
use Rattle.std.specs.FinMap as finite
use Rattle.std.specs.FinMap.{FinMap}
use Rattle.std.specs.FinMap.Entries.{by_order, find, is_sorted, length-put, put}
use Rattle.std.specs.List.{sum_by}
use Rattle.std.specs.Ordering.{is_eq}
use Rattle.store.specs.Database.{Document, TextMap}
use Rattle.store.specs.Pages.{is_gone}
use Rattle.tables.specs.Listings.{has_mark}
use Rattle.sqlstore.specs.inner.Marks.{AreChanges, AreCounts, mark_of, marked_in, share}
use Rattle.sqlstore.specs.declared.document_count.DocumentCount.{DocumentCount}
use Rattle.sqlstore.specs.declared.known_counts.KnownCounts.{KnownCounts}
use Rattle.sqlstore.specs.declared.marked.Marked.{Marked}

not_found : {X : Type 0} (o : Option X) (n : ℕ) → suc n ≡ cond (is_some o) n (n + 1) → o ≡ None
not_found None n e = refl
not_found (Some x) n e = absurd (omega (arith, e))

second : (a b : Bool) → T (a && b) → T b
second true b p = p
second false b p = absurd p

-- ---- a sum over the values of a map

module _ {K X : Type 0} (R : K → K → Ordering) (total : IsTotalOrder R) (u : X → ℕ) where
  -- what a value adds to the sum, where there is one
  abbrev pub weight : Option X → ℕ
  weight None = 0
  weight (Some x) = u x

  abbrev pub sum : List (K × X) → ℕ
  sum es = sum_by (λ e. u e.1) es

  put_sum : (k : K) (v : X) (es : List (K × X)) → T (is_sorted R es) → sum (put R k v es) + weight (find R k es) ≡ sum es + u v
  put_sum k v [] h = omega arith
  put_sum k v (e ∷ es) h =
      let here = sum_by-cons (λ (e : K × X). u e.1) e es in
      let long = length-put R total k v (e ∷ es) h in
      elim (R k e.0) as (λ r. R k e.0 ≡ r → length (by_order r ((k, v) ∷ e ∷ es) ((e.0, v) ∷ es) (e ∷ put R k v es)) ≡ cond (is_some (cond (is_eq r) (Some e.1) (find R k es))) (suc (length es)) (suc (length es) + 1)
      → sum (by_order r ((k, v) ∷ e ∷ es) ((e.0, v) ∷ es) (e ∷ put R k v es)) + weight (cond (is_eq r) (Some e.1) (find R k es)) ≡ sum (e ∷ es) + u v) [
        | Less ↦ λ p l. ap (λ (o : Option X). sum ((k, v) ∷ e ∷ es) + weight o) (not_found (find R k es) (suc (length es)) l) ∙ omega (arith, sum_by-cons (λ (e : K × X). u e.1) (k, v) (e ∷ es))
        | Equal ↦ λ p l. omega (arith, here, sum_by-cons (λ (e : K × X). u e.1) (e.0, v) es)
        | Greater ↦ λ p l. omega (arith, here, sum_by-cons (λ (e : K × X). u e.1) e (put R k v es), put_sum k v es (second _ _ h))
      ] refl long

  pub sum_inserted : (m : FinMap R X) (k : K) (v : X) → sum (finite.entries (finite.insert m k v)) + weight (finite.get m k) ≡ sum (finite.entries m) + u v
  sum_inserted m k v =
      ap₂ (λ (es : List (K × X)) (o : Option X). sum es + weight o) (finite.entries-insert total m k v) (finite.get-entries m k)
      ∙ put_sum k v (finite.entries m) (finite.entries_sorted m)

-- ---- marks

module _ (deleted : Bool) where
  abbrev counted : Document → ℕ
  counted d = cond (has_mark deleted (is_gone d.history)) 1 0

  shared : (o : Option Document) → share deleted (mark_of o) ≡ weight _ nat_list_cmp_total counted o
  shared None = refl
  shared (Some d) = refl

  -- a document that is put in takes the place of the one of its id
  pub marked_inserted : (old : TextMap Document) (id : List ℕ) (d : Document) → marked_in deleted (finite.insert old id d) + share deleted (mark_of (finite.get old id)) ≡ marked_in deleted old + share deleted (Some (is_gone d.history))
  marked_inserted old id d = ap (λ n. marked_in deleted (finite.insert old id d) + n) (shared (finite.get old id)) ∙ sum_inserted _ nat_list_cmp_total counted old id d

  -- a count that moved by what one document adds is that of the documents with it
  pub count_moved : (old : TextMap Document) (id : List ℕ) (d : Document) (was : Option Bool) (is : Bool) (o p : Option DocumentCount) → was ≡ mark_of (finite.get old id) → is ≡ is_gone d.history
      → IfSome p (λ now. (before : DocumentCount) × (o ≡ Some before) × (now.value + share deleted was ≡ before.value + share deleted (Some is)))
      → IfSome o (λ c. c.value ≡ marked_in deleted old) → IfSome p (λ c. c.value ≡ marked_in deleted (finite.insert old id d))
  count_moved old id d was is o None a b moved counts = tt
  count_moved old id d was is o (Some now) a b moved counts =
      let before : moved.0.value ≡ marked_in deleted old = subst (λ (x : Option DocumentCount). IfSome x (λ c. c.value ≡ marked_in deleted old)) moved.1 counts in
      omega (arith, moved.2, before, marked_inserted old id d, ap (share deleted) a, ap (λ g. share deleted (Some g)) b)

-- ---- counts after one change of many

pub counts_step : (cs : List Marked) (i : ℕ) (one : Marked) (counts next : KnownCounts) (mid new : TextMap Document) → i < length cs → one ≡ get_or cs i one
    → ((old : TextMap Document) (d : Document) → one.was ≡ mark_of (finite.get old one.id) → one.is ≡ is_gone d.history → AreCounts counts old → AreCounts next (finite.insert old one.id d))
    → AreChanges (drop i cs) mid new → AreCounts counts mid → (then : TextMap Document) × AreChanges (drop (i + 1) cs) then new × AreCounts next then
counts_step cs i one counts next mid new more is after rest are =
    let left = subst (λ l. AreChanges l mid new) (drop_more cs i one more ∙ (λ j. sym is j ∷ drop (i + 1) cs)) rest in
    (finite.insert mid one.id left.0, left.3, after mid left.0 left.1 left.2 are)
