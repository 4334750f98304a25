-- Where a name stands in a list of entries in byte order of the names, and where it would stand.
-- This crate's own: it says what the search of the list finds.
use Rattle.std.specs.Prelude.{◌≡◌, ℕ, zero, suc, List, [], ◌∷◌, String, string_bytes, ⊤}
use Rattle.std.specs.declared.alloc.Global.{Global}
use Rattle.std.specs.declared.cmp.Ordering.{Ordering}
use Rattle.std.specs.declared.cmp.Ordering.TheVariants.{Less, Equal, Greater}
use Rattle.std.specs.Ordering.{nat_cmp}
use Rattle.std.specs.Cmp.Lexicographic.{slice_cmp}

abbrev pub order : List ℕ → String Global → Ordering
order name other = slice_cmp nat_cmp name (string_bytes other)

-- how an entry's name stands to this one
abbrev pub entry_order : {X : Type 0} → List ℕ → String Global × X → Ordering
entry_order name e = slice_cmp nat_cmp (string_bytes e.0) name

-- the entry at this place has the name, and those before it have lesser ones
abbrev pub StandsAt : {X : Type 0} → List ℕ → List (String Global × X) → ℕ → Type 0
StandsAt name [] i = ⊥
StandsAt name (e ∷ es) zero = order name e.0 ≡ Equal
StandsAt name (e ∷ es) (suc i) = (order name e.0 ≡ Greater) × StandsAt name es i

-- the entries before this place have lesser names, and those from it on greater ones
abbrev pub FitsAt : {X : Type 0} → List ℕ → List (String Global × X) → ℕ → Type 0
FitsAt name [] zero = ⊤
FitsAt name [] (suc i) = ⊥
FitsAt name (e ∷ es) zero = (order name e.0 ≡ Less) × FitsAt name es zero
FitsAt name (e ∷ es) (suc i) = (order name e.0 ≡ Greater) × FitsAt name es i
