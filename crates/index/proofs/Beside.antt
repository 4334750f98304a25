-- Entries that are among the rows or on a list, as they are gathered, sorted and put in.
use Rattle.index.proofs.Common.{AreEntriesOf, Bool, Changes, Database, Entries, List, None, Option, Row, Some, [], ap, arith, bytes_eq, bytes_eq-Decides, drop, entries_tree, entry_cells, false, get_or, has_entry, if◌then◌else◌, int_eq, is_key, key_if_seen, length, list_any, map, refl, same_int, subst, sym, true, with_cells, ℕ, ℤ, ◌&&◌, ◌++◌, ◌+◌, ◌<◌, ◌||◌, ◌∙◌, ◌∷◌, ◌≡◌}
use Rattle.couch_json.specs.Value.{Value}
use Rattle.index.proofs.EntryChanges.{bytes_eq-sym, entries-with, has-with, int_eq-sym, same_bytes, same_number}
use Rattle.index.proofs.Filled.{numbers_apart}
use Rattle.index.proofs.Going.{only_changed, only_then}
use Rattle.index.specs.Calls.{ChangesOnly}
use Rattle.index.specs.Filling.{HaveKeyOf, HaveOwnNumbers, numbers_of, without_ids}
use Rattle.index.specs.inner.Gathering.{AreEntriesBeside, Entry, HasEntriesBeside, entries_of, entry_if, entry_of, is_entry}
use Rattle.index.specs.Shown.{Declared}
use Rattle.index.specs.declared.gathered.NewEntry.{NewEntry}
use Rattle.std.proofs.lemmas.List.{drop_more}
use Rattle.std.proofs.lemmas.List.Sorted.{sum_by-IsPermutation}
use Rattle.std.proofs.lemmas.List.Sums.{sum_by-append, sum_by-cons}
use Rattle.std.specs.List.{count_by}
use Rattle.std.specs.Prelude.{IsPermutation}

-- how often: once or not at all
abbrev once : Bool → ℕ
once b = if b then 1 else 0

-- ---- a list that is empty

pub none_waits : (due : Entries) (rows : List Row) → AreEntriesOf due rows → AreEntriesBeside due [] rows
none_waits due rows h = record { laid = h.laid; exact = λ m k i. alone (has_entry rows m k i) (due m k i) (h.exact m k i) }
  where
    alone : (a b : Bool) → a ≡ b → once a + 0 ≡ once b
    alone true true is = refl
    alone true false is = absurd (cc)
    alone false true is = absurd (cc)
    alone false false is = refl

pub all_are_in : (due : Entries) (rows : List Row) → AreEntriesBeside due [] rows → AreEntriesOf due rows
all_are_in due rows h = record { laid = h.laid; exact = λ m k i. alike (has_entry rows m k i) (due m k i) (h.exact m k i) }
  where
    alike : (a b : Bool) → once a + 0 ≡ once b → a ≡ b
    alike true true is = refl
    alike true false is = absurd (omega (arith, is))
    alike false true is = absurd (omega (arith, is))
    alike false false is = refl

-- ---- the same entries, said in another way

pub beside_as : (due other : Entries) (waiting : List Entry) (rows : List Row) → ((m : ℤ) (k i : List ℕ) → due m k i ≡ other m k i) → AreEntriesBeside due waiting rows → AreEntriesBeside other waiting rows
beside_as due other waiting rows same h = record { laid = h.laid; exact = λ m k i. h.exact m k i ∙ ap once (same m k i) }

pub beside_after : (due : Entries) (waiting : List Entry) (a b c : Database) → ChangesOnly entries_tree a b → HasEntriesBeside due waiting b c → HasEntriesBeside due waiting a c
beside_after due waiting a b c before h = record { entries = h.entries; only = only_then entries_tree a b c before h.only }

-- ---- the list in another order

pub beside_sorted : (due : Entries) (waiting sorted : List Entry) (rows : List Row) → IsPermutation waiting sorted → AreEntriesBeside due waiting rows → AreEntriesBeside due sorted rows
beside_sorted due waiting sorted rows order h = record {
  laid = h.laid;
  exact = λ m k i. ap (λ n. once (has_entry rows m k i) + n) (sum_by-IsPermutation (λ e. once (is_entry m k i e)) waiting sorted order) ∙ h.exact m k i;
}

-- ---- an entry of the list that comes into the rows

too_many : (h d t : Bool) (c n : ℕ) → once h + n ≡ once d → n ≡ once t + c → t ≡ true → h ≡ false
too_many false d t c n is counts at = refl
too_many true true true c n is counts at = absurd (omega (arith, is, counts))
too_many true false true c n is counts at = absurd (omega (arith, is, counts))
too_many true d false c n is counts at = absurd (cc)

moved : (h d t : Bool) (c n : ℕ) → once h + n ≡ once d → n ≡ once t + c → once (h || t) + c ≡ once d
moved true true true c n is counts = absurd (omega (arith, is, counts))
moved true true false c n is counts = omega (arith, is, counts)
moved true false t c n is counts = absurd (omega (arith, is))
moved false true true c n is counts = omega (arith, is, counts)
moved false true false c n is counts = omega (arith, is, counts)
moved false false true c n is counts = absurd (omega (arith, is, counts))
moved false false false c n is counts = omega (arith, is, counts)

module _ (due : Entries) (e : Entry) (es : List Entry) (rows : List Row) (h : AreEntriesBeside due (e ∷ es) rows) where
  counted : (m : ℤ) (k i : List ℕ) → count_by (is_entry m k i) (e ∷ es) ≡ once (is_entry m k i e) + count_by (is_entry m k i) es
  counted m k i = sum_by-cons (λ x. once (is_entry m k i x)) e es

  itself : is_entry e.number e.key e.id e ≡ true
  itself = λ j. same_number e.number e.number refl j && (same_bytes e.key e.key refl j && same_bytes e.id e.id refl j)

  missing : has_entry rows e.number e.key e.id ≡ false
  missing = too_many _ _ (is_entry e.number e.key e.id e) _ _ (h.exact e.number e.key e.id) (counted e.number e.key e.id) itself

  pub put_one : AreEntriesBeside due es (with_cells rows (entry_cells e.number e.key e.id))
  put_one = record {
    laid = entries-with e.number e.id e.key rows h.laid missing;
    exact = λ m k i. ap (λ b. once b + count_by (is_entry m k i) es) (has-with e.number e.id e.key rows m k i)
        ∙ moved (has_entry rows m k i) (due m k i) (is_entry m k i e) (count_by (is_entry m k i) es) (count_by (is_entry m k i) (e ∷ es)) (h.exact m k i) (counted m k i);
  }

-- ---- the entries of a document that come onto the list

and_false : (b : Bool) → (b && false) ≡ false
and_false true = refl
and_false false = refl

module _ (due : Entries) (id : List ℕ) (seen : Option Value) where
  one_counted : (x : Declared) (key : Option (List ℕ)) (m : ℤ) (k i : List ℕ) → count_by (is_entry m k i) (entry_if x id key) ≡ (if (int_eq m x.number && bytes_eq i id) then once (is_key key k) else 0)
  one_counted x None m k i = none (int_eq m x.number && bytes_eq i id)
    where
      none : (b : Bool) → ◌≡◌ {A = ℕ} 0 (if b then 0 else 0)
      none true = refl
      none false = refl
  one_counted x (Some key) m k i = (λ j. 0 + once (int_eq-sym x.number m j && (bytes_eq key k && bytes_eq-sym id i j))) ∙ one (int_eq m x.number) (bytes_eq key k) (bytes_eq i id)
    where
      one : (a b c : Bool) → 0 + once (a && (b && c)) ≡ (if (a && c) then once b else 0)
      one true true true = refl
      one true true false = refl
      one true false true = refl
      one true false false = refl
      one false b c = refl

  pub all_counted : (xs : List Declared) → HaveOwnNumbers xs → HaveKeyOf xs id seen due → (m : ℤ) (k i : List ℕ)
      → count_by (is_entry m k i) (entries_of xs id seen) ≡ (if (list_any (int_eq m) (numbers_of xs) && bytes_eq i id) then once (due m k i) else 0)
  all_counted [] own says m k i = refl
  all_counted (x ∷ xs) own says m k i =
      let key = key_if_seen x.fields seen in
      sum_by-append (λ e. once (is_entry m k i e)) (entry_if x id key) (entries_of xs id seen)
      ∙ (λ j. one_counted x key m k i j + all_counted xs own.1 says.1 m k i j)
      ∙ go (int_eq m x.number) refl (bytes_eq i id) refl
    where
      rest : Bool
      rest = list_any (int_eq m) (numbers_of xs)

      go : (a : Bool) → int_eq m x.number ≡ a → (b : Bool) → bytes_eq i id ≡ b
          → (if (a && b) then once (is_key (key_if_seen x.fields seen) k) else 0) + (if (list_any (int_eq m) (numbers_of xs) && b) then once (due m k i) else 0) ≡ (if ((a || list_any (int_eq m) (numbers_of xs)) && b) then once (due m k i) else 0)
      go true number true name =
          let same : m ≡ x.number = same_int m x.number number in
          let away : list_any (int_eq m) (numbers_of xs) ≡ false = ap (λ n. list_any (int_eq n) (numbers_of xs)) same ∙ numbers_apart x.number xs own.0 in
          let is : is_key (key_if_seen x.fields seen) k ≡ due m k i = sym (says.0 k) ∙ sym (λ j. due (same j) k ((bytes_eq-Decides i id).0 name j)) in
          ap (λ l. once (is_key (key_if_seen x.fields seen) k) + (if (l && true) then once (due m k i) else 0)) away ∙ plus_none (once (is_key (key_if_seen x.fields seen) k)) ∙ ap once is
        where
          plus_none : (n : ℕ) → n + 0 ≡ n
          plus_none n = omega arith
      go true number false name = ap (λ b. 0 + (if b then once (due m k i) else 0)) (and_false (list_any (int_eq m) (numbers_of xs)))
      go false number b name = zero_plus (if (list_any (int_eq m) (numbers_of xs) && b) then once (due m k i) else 0)
        where
          zero_plus : (n : ℕ) → 0 + n ≡ n
          zero_plus n = omega arith

  joined : (h l b d : Bool) (c : ℕ) → once h + c ≡ once (if (l && (b || false)) then false else d) → once h + (c + (if (l && b) then once d else 0)) ≡ once d
  joined true true true true c is = absurd (omega (arith, is))
  joined false true true true c is = omega (arith, is)
  joined true true true false c is = absurd (omega (arith, is))
  joined false true true false c is = omega (arith, is)
  joined h true false d c is = plus h d c is
    where
      plus : (h d : Bool) (c : ℕ) → once h + c ≡ once d → once h + (c + 0) ≡ once d
      plus true true c is = omega (arith, is)
      plus true false c is = absurd (omega (arith, is))
      plus false true c is = omega (arith, is)
      plus false false c is = omega (arith, is)
  joined h false b d c is = plus h d c is
    where
      plus : (h d : Bool) (c : ℕ) → once h + c ≡ once d → once h + (c + 0) ≡ once d
      plus true true c is = omega (arith, is)
      plus true false c is = absurd (omega (arith, is))
      plus false true c is = omega (arith, is)
      plus false false c is = omega (arith, is)

  pub beside_gathered : (xs : List Declared) (waiting : List Entry) (rows : List Row) → HaveOwnNumbers xs → HaveKeyOf xs id seen due → AreEntriesBeside (without_ids due (numbers_of xs) (id ∷ [])) waiting rows
      → AreEntriesBeside due (waiting ++ entries_of xs id seen) rows
  beside_gathered xs waiting rows own says h = record {
    laid = h.laid;
    exact = λ m k i. ap (λ n. once (has_entry rows m k i) + n)
        (sum_by-append (λ e. once (is_entry m k i e)) waiting (entries_of xs id seen) ∙ ap (λ n. count_by (is_entry m k i) waiting + n) (all_counted xs own says m k i))
        ∙ joined (has_entry rows m k i) (list_any (int_eq m) (numbers_of xs)) (bytes_eq i id) (due m k i) (count_by (is_entry m k i) waiting) (h.exact m k i);
  }

-- ---- entries that are put in, one after another

module _ (due : Entries) (es : List NewEntry) (i : ℕ) (x : NewEntry) (below : i < length es) (is : x ≡ get_or es i x) (a b : Database) (made : HasEntriesBeside due (map entry_of (drop i es)) a b) where
  cut : map entry_of (drop i es) ≡ entry_of x ∷ map entry_of (drop (i + 1) es)
  cut = ap (map entry_of) (drop_more es i x below ∙ (λ j. sym is j ∷ drop (i + 1) es))

  pub put_next : (e : Database) → Changes entries_tree (with_cells (b.trees entries_tree) (entry_cells x.declaration x.key.items x.id.items)) b e → HasEntriesBeside due (map entry_of (drop (i + 1) es)) a e
  put_next e change = record {
    entries = subst (AreEntriesBeside due (map entry_of (drop (i + 1) es))) (sym change.rows)
        (put_one due (entry_of x) (map entry_of (drop (i + 1) es)) (b.trees entries_tree) (subst (λ l. AreEntriesBeside due l (b.trees entries_tree)) cut made.entries));
    only = only_then entries_tree a b e made.only (only_changed entries_tree _ b e change);
  }
