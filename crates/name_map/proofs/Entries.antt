-- Lists of names with their values, in order of the names.
use Rattle.std.proofs.Common.{◌≡◌, ℕ, zero, suc, List, [], ◌∷◌, Bool, true, false, String, Global, Ordering, Less, Greater, string_bytes, string_cmp, nat_cmp, sym, ap, subst, ◌∙◌}
use Rattle.std.specs.Cmp.Lexicographic.{slice_cmp}
use Rattle.std.specs.List.{AllByRecursion, insert, items_where_true, remove}
use Rattle.std.specs.List.Sorted.{IsStrictlySortedBy}
use Rattle.std.specs.Map.{keys_of}
use Rattle.std.specs.Ordering.{ordering_reverse}
use Rattle.std.proofs.lemmas.Cmp.{nat_list_cmp_total}
use Rattle.name_map.specs.Places.{FitsAt}

abbrev pub Entries : Type 0 → Type 0
Entries X = List (String Global × X)

abbrev pub Ascends : {X : Type 0} → Entries X → Type 0
Ascends es = IsStrictlySortedBy string_cmp (keys_of es)

-- each name passes
abbrev AllNames : {X : Type 0} → (String Global → Type 0) → Entries X → Type 0
AllNames P es = AllByRecursion P (keys_of es)

-- the other way round
pub turned : (k l : List ℕ) (r : Ordering) → slice_cmp nat_cmp k l ≡ r → slice_cmp nat_cmp l k ≡ ordering_reverse r
turned k l r h = nat_list_cmp_total.antisymm l k ∙ ap ordering_reverse h

none : (X : Type 0) → Ascends {X = X} []
unfolding IsStrictlySortedBy
none X = tt

pub none_ascends : {X : Type 0} (es : Entries X) → es ≡ [] → Ascends es
none_ascends {X = X} es e = subst Ascends (sym e) (none X)

-- ---- one goes in

names_inserted : {X : Type 0} (P : String Global → Type 0) (es : Entries X) (name : String Global) (v : X) (i : ℕ) → AllNames P es → P name → AllNames P (insert es i (name, v))
names_inserted P [] name v zero h p = (p, tt)
names_inserted P [] name v (suc i) h p = (p, tt)
names_inserted P (e ∷ es) name v zero h p = (p, h)
names_inserted P (e ∷ es) name v (suc i) h p = (h.0, names_inserted P es name v i h.1 p)

above_all : {X : Type 0} (es : Entries X) (name : String Global) → FitsAt (string_bytes name) es zero → AllNames (λ k. string_cmp name k ≡ Less) es
above_all [] name h = tt
above_all (e ∷ es) name h = (h.0, above_all es name h.1)

pub insert_ascends : {X : Type 0} (es : Entries X) (name : String Global) (v : X) (i : ℕ) → Ascends es → FitsAt (string_bytes name) es i → Ascends (insert es i (name, v))
unfolding IsStrictlySortedBy
insert_ascends [] name v zero s h = (tt, tt)
insert_ascends [] name v (suc i) s h = absurd h
insert_ascends (e ∷ es) name v zero s h = (above_all (e ∷ es) name h, s)
insert_ascends (e ∷ es) name v (suc i) s h =
    (names_inserted (λ k. string_cmp e.0 k ≡ Less) es name v i s.0 (turned (string_bytes name) (string_bytes e.0) Greater h.0), insert_ascends es name v i s.1 h.1)

-- ---- one goes out

names_left : {X : Type 0} (P : String Global → Type 0) (es : Entries X) (i : ℕ) → AllNames P es → AllNames P (remove es i)
names_left P [] zero h = tt
names_left P [] (suc i) h = tt
names_left P (e ∷ es) zero h = h.1
names_left P (e ∷ es) (suc i) h = (h.0, names_left P es i h.1)

pub remove_ascends : {X : Type 0} (es : Entries X) (i : ℕ) → Ascends es → Ascends (remove es i)
unfolding IsStrictlySortedBy
remove_ascends [] zero s = tt
remove_ascends [] (suc i) s = tt
remove_ascends (e ∷ es) zero s = s.1
remove_ascends (e ∷ es) (suc i) s = (names_left (λ k. string_cmp e.0 k ≡ Less) es i s.0, remove_ascends es i s.1)

-- ---- some go out

names_kept : {X : Type 0} (P : String Global → Type 0) (bs : List Bool) (es : Entries X) → AllNames P es → AllNames P (items_where_true bs es)
names_kept P [] es h = tt
names_kept P (b ∷ bs) [] h = tt
names_kept P (true ∷ bs) (e ∷ es) h = (h.0, names_kept P bs es h.1)
names_kept P (false ∷ bs) (e ∷ es) h = names_kept P bs es h.1

pub kept_ascends : {X : Type 0} (bs : List Bool) (es : Entries X) → Ascends es → Ascends (items_where_true bs es)
unfolding IsStrictlySortedBy
kept_ascends [] es s = tt
kept_ascends (b ∷ bs) [] s = tt
kept_ascends (true ∷ bs) (e ∷ es) s = (names_kept (λ k. string_cmp e.0 k ≡ Less) bs es s.0, kept_ascends bs es s.1)
kept_ascends (false ∷ bs) (e ∷ es) s = kept_ascends bs es s.1
