-- What the place of a name among entries in order says of a look-up, and of an entry that goes in or out.
use Rattle.std.proofs.Common.{◌≡◌, ℕ, zero, suc, ◌<◌, ◌≤◌, List, [], ◌∷◌, length, get_or, set, String, Global, Some, None, Result, Ok, Err, IfOk, IfErr, Ordering, Less, Equal, Greater, string_bytes, string_cmp, nat_cmp, refl, sym, ap, ◌∙◌, arith}
use Rattle.std.specs.Cmp.Lexicographic.{slice_cmp}
use Rattle.std.specs.List.{insert, remove, AllByRecursion, HoldsAt, AllWithin}
use Rattle.std.specs.List.Sorted.{IsStrictlySortedBy, IsBinarySearchResult, IsSearchInRange}
use Rattle.std.specs.Map.{keys_of, lookup, remove_entry}
use Rattle.std.specs.Ordering.{ordering_index}
use Rattle.std.specs.BTreeMap.{insert_entry, is_at}
use Rattle.std.proofs.lemmas.Cmp.{nat_list_cmp_total}
use Rattle.name_map.specs.Places.{FitsAt, StandsAt, entry_order, order}
use Rattle.name_map.proofs.Entries.{Entries, Ascends, turned}

-- ---- what a look-up finds

pub lookup_standing : {X : Type 0} (name : List ℕ) (es : Entries X) (i : ℕ) (d : String Global × X) → StandsAt name es i → lookup (is_at (order name)) es ≡ Some (get_or es i d).1
lookup_standing name [] i d h = absurd h
lookup_standing name (e ∷ es) zero d h = rw h refl
lookup_standing name (e ∷ es) (suc i) d h = rw h.0 (lookup_standing name es i d h.1)

pub lookup_missing : {X : Type 0} (name : List ℕ) (es : Entries X) (i : ℕ) → FitsAt name es i → lookup (is_at (order name)) es ≡ None
lookup_missing name [] i h = refl
lookup_missing name (e ∷ es) zero h = rw h.0 (lookup_missing name es zero h.1)
lookup_missing name (e ∷ es) (suc i) h = rw h.0 (lookup_missing name es i h.1)

-- ---- an entry that goes in

pub insert_fitting : {X : Type 0} (es : Entries X) (name : String Global) (v : X) (i : ℕ) → FitsAt (string_bytes name) es i → insert_entry string_cmp es name v ≡ insert es i (name, v)
insert_fitting [] name v zero h = refl
insert_fitting [] name v (suc i) h = absurd h
insert_fitting (e ∷ es) name v zero h = rw h.0 refl
insert_fitting (e ∷ es) name v (suc i) h = rw h.0 (ap (λ fs. e ∷ fs) (insert_fitting es name v i h.1))

pub insert_standing : {X : Type 0} (es : Entries X) (name : String Global) (v : X) (i : ℕ) (d : String Global × X) → StandsAt (string_bytes name) es i
    → insert_entry string_cmp es name v ≡ set es i ((get_or es i d).0, v)
insert_standing [] name v i d h = absurd h
insert_standing (e ∷ es) name v zero d h = rw h refl
insert_standing (e ∷ es) name v (suc i) d h = rw h.0 (ap (λ fs. e ∷ fs) (insert_standing es name v i d h.1))

pub keys_of-set : {X : Type 0} (es : Entries X) (v : X) (i : ℕ) (d : String Global × X) → i < length es → keys_of (set es i ((get_or es i d).0, v)) ≡ keys_of es
keys_of-set [] v i d lt = absurd (omega arith)
keys_of-set (e ∷ es) v zero d lt = refl
keys_of-set (e ∷ es) v (suc i) d lt = ap (λ ks. e.0 ∷ ks) (keys_of-set es v i d (omega arith))

-- ---- an entry that goes out

pub remove_standing : {X : Type 0} (name : List ℕ) (es : Entries X) (i : ℕ) → StandsAt name es i → remove_entry (is_at (order name)) es ≡ remove es i
remove_standing name [] i h = absurd h
remove_standing name (e ∷ es) zero h = rw h refl
remove_standing name (e ∷ es) (suc i) h = rw h.0 (ap (λ fs. e ∷ fs) (remove_standing name es i h.1))

pub remove_missing : {X : Type 0} (name : List ℕ) (es : Entries X) (i : ℕ) → FitsAt name es i → remove_entry (is_at (order name)) es ≡ es
remove_missing name [] i h = refl
remove_missing name (e ∷ es) zero h = rw h.0 (ap (λ fs. e ∷ fs) (remove_missing name es zero h.1))
remove_missing name (e ∷ es) (suc i) h = rw h.0 (ap (λ fs. e ∷ fs) (remove_missing name es i h.1))

pub standing_within : {X : Type 0} (name : List ℕ) (es : Entries X) (i : ℕ) → StandsAt name es i → i < length es
standing_within name [] i h = absurd h
standing_within name (e ∷ es) zero h = omega arith
standing_within name (e ∷ es) (suc i) h = let rest = standing_within name es i h.1 in omega arith

pub fitting_within : {X : Type 0} (name : List ℕ) (es : Entries X) (i : ℕ) → FitsAt name es i → i ≤ length es
fitting_within name [] zero h = omega arith
fitting_within name [] (suc i) h = absurd h
fitting_within name (e ∷ es) zero h = omega arith
fitting_within name (e ∷ es) (suc i) h = let rest = fitting_within name es i h.1 in omega arith

-- ---- what a search by halves finds

name_at : {X : Type 0} (P : String Global → Type 0) (es : Entries X) (i : ℕ) (d : String Global × X) → AllByRecursion P (keys_of es) → i < length es → P (get_or es i d).0
name_at P [] i d h lt = absurd (omega arith)
name_at P (e ∷ es) zero d h lt = h.0
name_at P (e ∷ es) (suc i) d h lt = name_at P es i d h.1 (omega arith)

-- a name below one that is the name looked for
below_same : (k l name : List ℕ) → slice_cmp nat_cmp k l ≡ Less → slice_cmp nat_cmp l name ≡ Equal → slice_cmp nat_cmp name k ≡ Greater
below_same k l name less same = sym (nat_list_cmp_total.congr l name k same) ∙ turned k l Less less

standing : {X : Type 0} (name : List ℕ) (es : Entries X) (i : ℕ) → Ascends es → i < length es → HoldsAt (λ e. entry_order name e ≡ Equal) es i → StandsAt name es i
unfolding IsStrictlySortedBy
standing name [] i s lt h = absurd (omega arith)
standing name (e ∷ es) zero s lt h = turned (string_bytes e.0) name Equal (h e)
standing name (e ∷ es) (suc i) s lt h =
    let k = (get_or es i e).0 in
    (below_same (string_bytes e.0) (string_bytes k) name (name_at (λ k. string_cmp e.0 k ≡ Less) es i e s.0 (omega arith)) (h e), standing name es i s.1 (omega arith) h)

fitting : {X : Type 0} (name : List ℕ) (es : Entries X) (i : ℕ) → i ≤ length es → AllWithin (λ e. entry_order name e ≡ Less) es 0 i → AllWithin (λ e. entry_order name e ≡ Greater) es i (length es) → FitsAt name es i
fitting name [] zero le low high = tt
fitting name [] (suc i) le low high = absurd (omega arith)
fitting name (e ∷ es) zero le low high =
    (turned (string_bytes e.0) name Greater (high 0 e (omega arith) (omega arith)), fitting name es zero (omega arith) (λ k d ge lt. absurd (omega arith)) (λ k d ge lt. high (suc k) d (omega arith) (omega arith)))
fitting name (e ∷ es) (suc i) le low high =
    (turned (string_bytes e.0) name Less (low 0 e (omega arith) (omega arith)), fitting name es i (omega arith) (λ k d ge lt. low (suc k) d (omega arith) (omega arith)) (λ k d ge lt. high (suc k) d (omega arith) (omega arith)))

-- a greater entry does not stand lower to the name
rises_by : (k l name : List ℕ) (r : Ordering) → slice_cmp nat_cmp k l ≡ Less → slice_cmp nat_cmp k name ≡ r → ordering_index r ≤ ordering_index (slice_cmp nat_cmp l name)
rises_by k l name Less less h = omega arith
rises_by k l name Equal less h =
    let above : slice_cmp nat_cmp l name ≡ Greater = turned name l Less (sym (nat_list_cmp_total.congr k name l h) ∙ less) in
    rw above (omega arith)
rises_by k l name Greater less h =
    let above : slice_cmp nat_cmp l name ≡ Greater = turned name l Less (nat_list_cmp_total.trans name k l (turned k name Greater h) less) in
    rw above (omega arith)

rises_from : {X : Type 0} (name : List ℕ) (es : Entries X) (i j : ℕ) (d : String Global × X) → Ascends es → i ≤ j → j < length es → ordering_index (entry_order name (get_or es i d)) ≤ ordering_index (entry_order name (get_or es j d))
unfolding IsStrictlySortedBy
rises_from name [] i j d s le lt = absurd (omega arith)
rises_from name (e ∷ es) zero zero d s le lt = omega arith
rises_from name (e ∷ es) zero (suc j) d s le lt =
    rises_by (string_bytes e.0) (string_bytes (get_or es j d).0) name (entry_order name e) (name_at (λ k. string_cmp e.0 k ≡ Less) es j d s.0 (omega arith)) refl
rises_from name (e ∷ es) (suc i) zero d s le lt = absurd (omega arith)
rises_from name (e ∷ es) (suc i) (suc j) d s le lt = rises_from name es i j d s.1 (omega arith) (omega arith)

pub searched : {X : Type 0} (name : List ℕ) (es : Entries X) → Ascends es → (r : Result ℕ ℕ) → IsSearchInRange r (length es) → IsBinarySearchResult (entry_order name) es r
    → IfOk r (StandsAt name es) × IfErr r (FitsAt name es)
searched name es s (Ok i) lt h = (standing name es i s lt h, tt)
searched name es s (Err i) le h = let parts = h (λ j k d ge lt. rises_from name es j k d s ge lt) in (tt, fitting name es i le parts.0 parts.1)
