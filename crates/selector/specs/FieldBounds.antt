-- Between which values all fields of a selector lie, in one table.
-- No outside source decides: it is this server's own word for what an index may leave out.
use Rattle.std.specs.Prelude.{◌≡◌, ◌&&◌, ℕ, List, Bool, true, if◌then◌else◌, Option, Some, bytes_eq}
use Rattle.std.specs.BTreeMap.{get_by_text}
use Rattle.std.specs.Option.{unwrap_or}
use Rattle.couch_json.specs.Parts.{is_there_and}
use Rattle.couch_json.specs.Value.{Value}
use Rattle.selector.specs.Bounds.{contain, path_value}
use Rattle.selector.specs.declared.bounds.Bounds.{Bounds}
use Rattle.selector.specs.declared.bounds.Bounds.TheVariants.{Any}
use Rattle.selector.specs.declared.field_bounds.FieldBounds.{FieldBounds}

-- the bounds of a field, by its path; a field that is not named may have any value
abbrev pub bounds_at : FieldBounds → List ℕ → Bounds
bounds_at fields path = unwrap_or (get_by_text fields.fields path) Any

-- the bounds contain no other value than this one
abbrev pub ContainOnly : Value → Bounds → Type 0
ContainOnly v bounds = (w : Value) → contain bounds (Some w) ≡ true → w ≡ v

-- ---- for private clauses

-- what each path reaches from the value, or from a missing one, lies within its bounds
abbrev pub LieWithin : FieldBounds → Option Value → Type 0
LieWithin fields current = (path : List ℕ) → contain (bounds_at fields path) (path_value (Some path) current) ≡ true

-- there are bounds, and the field of this path lies within them
abbrev pub has_within : Option FieldBounds → List ℕ → Option Value → Bool
has_within fields path field = is_there_and (λ f. contain (bounds_at f path) field) fields

-- the bounds of all fields with those of one field added
abbrev pub IsWith : FieldBounds → List ℕ → Bounds → FieldBounds → Type 0
IsWith fields path bounds more =
    (other : List ℕ) (field : Option Value) → contain (bounds_at more other) field ≡ contain (bounds_at fields other) field && (if bytes_eq path other then contain bounds field else true)

-- each field that lies within the first bounds lies within the second
abbrev pub AreWider : FieldBounds → FieldBounds → Type 0
AreWider fields wider = (path : List ℕ) (field : Option Value) → contain (bounds_at fields path) field ≡ true → contain (bounds_at wider path) field ≡ true
