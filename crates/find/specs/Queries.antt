-- What a find asks for: which documents, in which order, and which part of them.
-- CouchDB manual, api/database/find (`selector`, `sort`, `limit`, `skip`, "Sort Syntax"); that an object has no other members, that a sort has at most 8 fields, and the greatest number, are this server's own.
use Rattle.std.specs.Prelude.{ℕ, Bool, false, true, List, [], ◌∷◌, Option, Some, None, option_and_then, option_map, bytes_eq, codes, if◌then◌else◌, nat_le, pos}
use Rattle.couch_json.specs.FieldPath.{is_field_path}
use Rattle.couch_json.specs.Range.{greatest_count}
use Rattle.couch_json.specs.Parts.{has_only, is_there_and, items_in, text_in}
use Rattle.couch_json.specs.Value.{Value, whole, text, object, Items, no_items, item, Members, no_members, member, member_of}
use Rattle.selector.specs.Grammar.{selector_in}
use Rattle.selector.specs.Truth.{items_length}
use Rattle.find.specs.declared.query.Query.{Query}

-- ---- numbers

-- a count: a number from 0 to the greatest one
abbrev pub count_in : Value → Option ℕ
count_in (whole (pos n)) = if nat_le n greatest_count then Some n else None
count_in v = None

-- the same of a value that may be absent, and then stands for this number
abbrev pub count_or : ℕ → Option Value → Option ℕ
count_or n None = Some n
count_or n (Some v) = count_in v

-- ---- the order

-- how many fields a sort may have
abbrev pub max_sort_fields : ℕ
max_sort_fields = 8

-- the word for a direction
abbrev pub direction_text : Bool → List ℕ
direction_text descending = if descending then codes "desc" else codes "asc"

-- a text that is a field path
abbrev pub path_in : List ℕ → Option (List ℕ)
path_in path = if is_field_path path then Some path else None

-- the name and the value of an object's one member
abbrev pub sole_member : Members → Option (List ℕ × Value)
sole_member no_members = None
sole_member (member name v no_members) = Some (name, v)
sole_member (member name v (member other w ms)) = None

-- The path and the direction of an entry: a path alone, which is ascending, or `{"PATH":"asc"}` or `{"PATH":"desc"}`. They are texts here,
-- whatever they say.
abbrev pub entry_in : Value → Option (List ℕ × List ℕ)
entry_in (text path) = Some (path, direction_text false)
entry_in (object ms) = option_and_then (λ m. option_map (λ direction. (m.0, direction)) (text_in m.1)) (sole_member ms)
entry_in v = None

-- an entry of a sort says this direction
abbrev pub has_direction : Bool → List ℕ × List ℕ → Bool
has_direction descending entry = bytes_eq entry.1 (direction_text descending)

-- the field of an entry that sorts in this direction
abbrev pub sort_field : Bool → Value → Option (List ℕ)
sort_field descending v = option_and_then (λ entry. if has_direction descending entry then path_in entry.0 else None) (entry_in v)

-- an entry of a sort says `desc`
abbrev pub goes_down : Value → Bool
goes_down v = is_there_and (has_direction true) (entry_in v)

-- the direction of a sort is that of its first entry
abbrev pub is_descending : Items → Bool
is_descending no_items = false
is_descending (item v vs) = goes_down v

-- the fields of a sort, where each entry is of its form and says this direction
abbrev pub sort_fields_of : Bool → Items → Option (List (List ℕ))
sort_fields_of descending no_items = Some []
sort_fields_of descending (item v vs) =
    option_and_then (λ field. option_map (λ fields. field ∷ fields) (sort_fields_of descending vs)) (sort_field descending v)

-- the fields of a sort, where each entry has its direction; one field may stand there twice
abbrev pub sort_fields : Items → Option (List (List ℕ))
sort_fields vs = if nat_le (items_length vs) max_sort_fields then sort_fields_of (is_descending vs) vs else None

-- the entries of a sort; where there is none there are no entries
abbrev pub sort_entries : Option Value → Option Items
sort_entries None = Some no_items
sort_entries (Some v) = items_in v

-- ---- the query

-- the members that a find may have
abbrev pub query_names : List (List ℕ)
query_names = codes "selector" ∷ codes "sort" ∷ codes "limit" ∷ codes "skip" ∷ []

-- how many documents are shown where no limit is given
abbrev pub default_limit : ℕ
default_limit = 25

-- the query of a find with this selector and sort; none where a count or a field of the sort is not of its form
abbrev pub query_with : Value → Value → Items → Option Query
query_with v selector entries =
    option_and_then (λ sort. option_and_then (λ limit. option_map (λ skip.
    record { selector = selector; sort = sort; descending = is_descending entries; limit = limit; skip = skip })
    (count_or 0 (member_of v (codes "skip")))) (count_or default_limit (member_of v (codes "limit"))))
    (sort_fields entries)

-- the query that a value is: an object with a selector, and maybe with a sort, a limit and a number of documents to skip
abbrev pub query_in : Value → Option Query
query_in v =
    if has_only query_names v
    then option_and_then (λ selector. option_and_then (λ entries. query_with v selector entries) (sort_entries (member_of v (codes "sort"))))
    (option_and_then selector_in (member_of v (codes "selector")))
    else None
