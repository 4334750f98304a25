-- The listing by sequence: it ascends, and where no two documents have the same sequence each has its row.
use Rattle.std.proofs.Common.{◌≡◌, ◌⊎◌, ℕ, List, [], ◌∷◌, Bool, true, false, cond, Option, Some, None, nat_cmp, refl, sym, ap, ◌∙◌, inl, inr, arith}
use Rattle.std.specs.Prelude.{IsTrue}
use Rattle.std.proofs.Math.Dec.{T}
use Rattle.std.proofs.lemmas.Bool.Decides.{nat_tests}
use Rattle.std.proofs.lemmas.Cmp.{nat_list_cmp_total}
use Rattle.std.proofs.lemmas.Map.Text.{is_eq-slice_cmp}
use Rattle.std.proofs.lemmas.Slice.Eq.{bytes_eq-Decides}
use Rattle.std.specs.declared.cmp.Ordering.TheVariants.{Less, Greater}
use Rattle.std.specs.Cmp.{nat_cmp_total, first_so, second_so}
use Rattle.std.specs.Cmp.Lexicographic.{slice_cmp}
use Rattle.std.specs.Ordering.{eq_by_cmp, is_eq, ordering_reverse}
use Rattle.std.specs.FinMap as finite
use Rattle.std.specs.FinMap.{find, is_sorted}
use Rattle.std.specs.FinMap.Entries.{below_all, find-put, is_sorted-put}
use Rattle.tree.proofs.Kept.{true_from_T}
use Rattle.tree.proofs.SortedEntries.{less}
use Rattle.store.specs.Database.{Database, Document, HasSequences}
use Rattle.store.specs.Pages.{SequenceRow, put_in_sequence, row_of, rows_of}

abbrev pub Entry : Type 0
Entry = List ℕ × Document

sorted : (rs : List SequenceRow) → T (is_sorted nat_cmp (put_in_sequence rs []))
sorted [] = tt
sorted (r ∷ rs) = is_sorted-put nat_cmp nat_cmp_total r.sequence r (put_in_sequence rs []) (sorted rs)

pub ascending : (rs : List SequenceRow) → IsTrue (is_sorted nat_cmp (put_in_sequence rs []))
ascending rs = true_from_T _ (sorted rs)

-- ---- entries among entries

abbrev pub In : {X : Type 0} → List X → X → Type 0
In [] x = ⊥
In (e ∷ es) x = (e ≡ x) ⊎ In es x

same : (a b : List ℕ) → eq_by_cmp (slice_cmp nat_cmp) a b ≡ true → a ≡ b
same a b h = (bytes_eq-Decides a b).0 (sym (is_eq-slice_cmp a b) ∙ h)

tied : (a b : List ℕ) → a ≡ b → eq_by_cmp (slice_cmp nat_cmp) a b ≡ true
tied a b h = is_eq-slice_cmp a b ∙ (bytes_eq-Decides a b).1 h

inside : Document → Option Document → Document
inside d None = d
inside d (Some e) = e

pub value : (d e : Document) → Some e ≡ Some d → e ≡ d
unfolding inside
value d e h = ap (inside d) h

pub found_in : (es : List Entry) (q : List ℕ) (v : Document) → find (slice_cmp nat_cmp) q es ≡ Some v → In es (q, v)
found_in [] q v h = absurd cc
found_in (e ∷ es) q v h =
    elim (eq_by_cmp (slice_cmp nat_cmp) q e.0) as (λ b. eq_by_cmp (slice_cmp nat_cmp) q e.0 ≡ b → cond b (Some e.1) (find (slice_cmp nat_cmp) q es) ≡ Some v → In (e ∷ es) (q, v)) [
      | true ↦ λ t k. let key = sym (same q e.0 t) in let held = value v e.1 k in inl (λ i. (key i, held i))
      | false ↦ λ t k. inr (found_in es q v k)
    ] refl h

pub below_in : (r : List ℕ) (es : List Entry) (x : Entry) → below_all (slice_cmp nat_cmp) r es ≡ true → In es x → slice_cmp nat_cmp r x.0 ≡ Less
below_in r [] x h i = elim i [ ]
below_in r (e ∷ es) x h (inl i) = ap (λ (y : Entry). slice_cmp nat_cmp r y.0) (sym i) ∙ less _ (first_so _ _ h)
below_in r (e ∷ es) x h (inr i) = below_in r es x (second_so _ _ h) i

above : (r s : List ℕ) → slice_cmp nat_cmp r s ≡ Less → slice_cmp nat_cmp s r ≡ Greater
above r s e = nat_list_cmp_total.antisymm s r ∙ ap ordering_reverse e

pub in_found : (es : List Entry) (x : Entry) → is_sorted (slice_cmp nat_cmp) es ≡ true → In es x → find (slice_cmp nat_cmp) x.0 es ≡ Some x.1
in_found [] x h i = elim i [ ]
in_found (e ∷ es) x h (inl i) =
    ap (λ b. cond b (Some e.1) (find (slice_cmp nat_cmp) x.0 es)) (tied x.0 e.0 (ap (λ (y : Entry). y.0) (sym i))) ∙ ap (λ (y : Entry). Some y.1) i
in_found (e ∷ es) x h (inr i) =
    ap (λ o. cond (is_eq o) (Some e.1) (find (slice_cmp nat_cmp) x.0 es)) (above e.0 x.0 (below_in e.0 es x (first_so _ _ h) i)) ∙ in_found es x (second_so _ _ h) i

-- ---- each document's row

numbers_same : (n m : ℕ) → eq_by_cmp nat_cmp n m ≡ true → m ≡ n
numbers_same n m h = grind (arith, nat_tests)

numbers_tied : (n m : ℕ) → m ≡ n → eq_by_cmp nat_cmp n m ≡ true
numbers_tied n m h = grind (arith, nat_tests)

row_found : (all : Bool) (n : ℕ) (x : Entry) (es : List Entry) → ((e : Entry) → In es e → e.1.sequence ≡ n → e ≡ x) → x.1.sequence ≡ n → In es x
    → find nat_cmp n (put_in_sequence (rows_of all es) []) ≡ Some (row_of all x)
row_found all n x [] only at i = elim i [ ]
row_found all n x (e ∷ es) only at i =
    find-put nat_cmp nat_cmp_total n e.1.sequence (row_of all e) (put_in_sequence (rows_of all es) [])
    ∙ elim (eq_by_cmp nat_cmp n e.1.sequence) as (λ b. eq_by_cmp nat_cmp n e.1.sequence ≡ b → cond b (Some (row_of all e)) (find nat_cmp n (put_in_sequence (rows_of all es) [])) ≡ Some (row_of all x)) [
      | true ↦ λ t. ap (λ (y : Entry). Some (row_of all y)) (only e (inl refl) (numbers_same n e.1.sequence t))
      | false ↦ λ t. elim i as (λ _. find nat_cmp n (put_in_sequence (rows_of all es) []) ≡ Some (row_of all x)) [
        | inl k ↦ absurd (let one = numbers_tied n e.1.sequence (ap (λ (y : Entry). y.1.sequence) k ∙ at) in cc)
        | inr k ↦ row_found all n x es (λ f j s. only f (inr j) s) at k
      ]
    ] refl

pub each_has_its_row : (all : Bool) (db : Database) (id : List ℕ) (d : Document) → HasSequences db → finite.get db.documents id ≡ Some d
    → find nat_cmp d.sequence (put_in_sequence (rows_of all (finite.entries db.documents)) []) ≡ Some (row_of all (id, d))
each_has_its_row all db id d h there =
    let es = finite.entries db.documents in
    let up = true_from_T _ (finite.entries_sorted db.documents) in
    let only = λ (e : Entry) (i : In (finite.entries db.documents) e) (s : e.1.sequence ≡ d.sequence).
    (let own = finite.get-entries db.documents e.0 ∙ in_found es e up i in
    let key = h.distinct e.0 id e.1 d own there s in
    let held = value d e.1 (sym own ∙ ap (finite.get db.documents) key ∙ there) in
    let both : e ≡ (id, d) = λ k. (key k, held k) in both) in
    row_found all d.sequence (id, d) es only refl (found_in es id d (sym (finite.get-entries db.documents id) ∙ there))
