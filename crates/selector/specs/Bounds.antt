-- Between which values a field lies.
-- No outside source decides: it is this server's own word for what an index may leave out.
use Rattle.std.specs.Prelude.{◌≡◌, ℕ, List, Bool, true, false, ◌&&◌, ◌||◌, not, if◌then◌else◌, Option, None, Some, option_and_then}
use Rattle.std.specs.Ordering.{is_ge, is_gt, is_le, is_lt, match_ordering}
use Rattle.couch_json.specs.Collation.{collation}
use Rattle.couch_json.specs.FieldPath.{value_at}
use Rattle.couch_json.specs.Value.{Value}
use Rattle.couch_json.specs.View.{view}
use Rattle.selector.specs.declared.bounds.Bounds.{Bounds}
use Rattle.selector.specs.declared.bounds.Bounds.TheVariants.{Any, Range}
use Rattle.selector.specs.declared.bounds.Edge.{Edge}

-- ---- what bounds contain

abbrev pub is_above : Option Edge → Value → Bool
is_above None v = true
is_above (Some low) v = if low.inclusive then is_ge (collation v (view low.value.now)) else is_gt (collation v (view low.value.now))

abbrev pub is_below : Option Edge → Value → Bool
is_below None v = true
is_below (Some high) v = if high.inclusive then is_le (collation v (view high.value.now)) else is_lt (collation v (view high.value.now))

-- a field that may be missing: any at all, or one that is there and between the edges
abbrev pub contain : Bounds → Option Value → Bool
contain Any field = true
contain (Range low high) None = false
contain (Range low high) (Some v) = is_above low v && is_below high v

-- ---- the bounds of one value

abbrev pub IsEdgeAt : Value → Option Edge → Type 0
IsEdgeAt v None = ⊥
IsEdgeAt v (Some edge) = (view edge.value.now ≡ v) × (edge.inclusive ≡ true)

-- from the value to itself, which is inside
abbrev pub AreJust : Value → Bounds → Type 0
AreJust v Any = ⊥
AreJust v (Range low high) = IsEdgeAt v low × IsEdgeAt v high

-- ---- for private clauses

-- the first of two low edges, each a value and whether it is inside, lies no higher
abbrev pub is_no_higher : Value → Bool → Value → Bool → Bool
is_no_higher v inside w other_inside = match_ordering (collation v w) true (inside || not other_inside) false

-- the first of two high edges lies no lower
abbrev pub is_no_lower : Value → Bool → Value → Bool → Bool
is_no_lower v inside w other_inside = match_ordering (collation v w) false (inside || not other_inside) true

-- what the path reaches from the current value, or that value itself where there is no path
abbrev pub path_value : Option (List ℕ) → Option Value → Option Value
path_value None current = current
path_value (Some path) current = option_and_then (value_at path) current

-- wherever this is true, under a root, of the current value, the bounds contain what the path reaches from it
abbrev pub IsInside : (Value → Option Value → Bool) → Option (List ℕ) → Bounds → Type 0
IsInside truth path bounds = (root : Value) (current : Option Value) → truth root current ≡ true → contain bounds (path_value path current) ≡ true
