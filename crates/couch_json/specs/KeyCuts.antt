-- Where a range of keys is cut: one bound of bytes, and what lies above the cut is what is not less than the bound.
-- No outside source decides; CouchDB manual, "Views Collation", for arrays that begin with an array.
use Rattle.std.specs.Prelude.{ℕ, List, [], ◌∷◌, ◌++◌, Bool, true, false, ◌&&◌, Option, Some, None}
use Rattle.std.specs.Ordering.{is_eq, is_ge, nat_cmp}
use Rattle.std.specs.Cmp.Lexicographic.{slice_cmp}
use Rattle.couch_json.specs.Collation.{collation}
use Rattle.couch_json.specs.Key.{key}
use Rattle.couch_json.specs.Parts.{items_in}
use Rattle.couch_json.specs.Value.{Value, null, truth, whole, text, array, object, Items, no_items, item}

-- the bytes lie above the cut that this bound makes
abbrev pub lies_above_cut : List ℕ → List ℕ → Bool
lies_above_cut bound bytes = is_ge (slice_cmp nat_cmp bytes bound)

-- below every key
abbrev pub bound_below_all : List ℕ
bound_below_all = []

-- above every key
abbrev pub bound_above_all : List ℕ
bound_above_all = 8 ∷ []

-- just before the value
abbrev pub bound_before : Value → List ℕ
bound_before k = key k

-- just behind the value
abbrev pub bound_after : Value → List ℕ
bound_after k = key k ++ 0 ∷ []

-- the second elements begin with the first
abbrev pub begin_with : Items → Items → Bool
begin_with no_items vs = true
begin_with (item u us) no_items = false
begin_with (item u us) (item v vs) = is_eq (collation u v) && begin_with us vs

-- both are there, and the second begin with the first
abbrev pub is_front_of : Option Items → Option Items → Bool
is_front_of None vs = false
is_front_of (Some us) None = false
is_front_of (Some us) (Some vs) = begin_with us vs

-- both are arrays, and the second begins with the elements of the first
abbrev pub extends_key : Value → Value → Bool
extends_key k v = is_front_of (items_in k) (items_in v)

-- the keys of the elements, one behind another, without an end
abbrev pub items_front : Items → List ℕ
items_front no_items = []
items_front (item v vs) = key v ++ items_front vs

-- just behind the value and all arrays that begin with its elements
abbrev pub bound_after_prefix : Value → List ℕ
bound_after_prefix null = bound_after null
bound_after_prefix (truth b) = bound_after (truth b)
bound_after_prefix (whole n) = bound_after (whole n)
bound_after_prefix (text s) = bound_after (text s)
bound_after_prefix (array vs) = 6 ∷ (items_front vs ++ 8 ∷ [])
bound_after_prefix (object ms) = bound_after (object ms)
