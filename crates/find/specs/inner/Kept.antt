-- The places that a sort keeps while it goes over documents: no more than the part of the query reaches.
-- This crate's own: it ties the loops of the code to the definition of `Found`.
use Rattle.std.specs.Prelude.{ℕ, ◌+◌, ◌-◌, ◌++◌, Bool, true, false, List, [], ◌∷◌, Option, Some, None, bytes_eq, drop, if◌then◌else◌, length, take}
use Rattle.std.specs.List.{list_any}
use Rattle.std.specs.BTreeSet.{insert_key}
use Rattle.couch_json.specs.Value.{Items, Value, array}
use Rattle.store.specs.Database.{Database}
use Rattle.store.specs.Indexes.{IndexPlace, field_values, place_order}
use Rattle.find.specs.inner.Matching.{match_in}
use Rattle.find.specs.declared.query.Query.{Query}

-- of these the first ones in a direction, at most so many: going down they are the last of those that go up
abbrev pub first_ones : {X : Type 0} → Bool → ℕ → List X → List X
first_ones false n xs = take n xs
first_ones true n xs = drop (length xs - n) xs

-- of these places, which go up, those that the part of a query reaches: what it skips, and what it shows
abbrev pub kept_of : Query → List IndexPlace → List IndexPlace
kept_of query places = first_ones query.descending (query.skip + query.limit) places

-- a field is one of these
abbrev pub is_among : List ℕ → List (List ℕ) → Bool
is_among field fields = list_any (λ f. bytes_eq field f) fields

-- a field is compared with so many that came before at most
abbrev pub most_compared : ℕ
most_compared = 64

-- the field behind these, unless it is one of the first of them
abbrev pub put_distinct : List ℕ → List (List ℕ) → List (List ℕ)
put_distinct field fields = if is_among field (take most_compared fields) then fields else fields ++ field ∷ []

abbrev pub distinct_with : List (List ℕ) → List (List ℕ) → List (List ℕ)
distinct_with kept [] = kept
distinct_with kept (field ∷ fields) = distinct_with (put_distinct field kept) fields

-- these fields, the first 64 that differ once each, at their first places
abbrev pub distinct : List (List ℕ) → List (List ℕ)
distinct fields = distinct_with [] fields

abbrev pub keep_place_at : Query → List ℕ → Option Items → List IndexPlace → List IndexPlace
keep_place_at query id None kept = kept
keep_place_at query id (Some values) kept = kept_of query (insert_key place_order kept (record { key = array values; id = id }))

-- what is kept once this document has come, where it has these fields
abbrev pub keep_place : List (List ℕ) → Query → List ℕ → Option Value → List IndexPlace → List IndexPlace
keep_place fields query id None kept = kept
keep_place fields query id (Some document) kept = keep_place_at query id (field_values fields document) kept

-- what is kept once those of these ids that match have come
abbrev pub keep_places : List (List ℕ) → Query → Database → List (List ℕ) → List IndexPlace → List IndexPlace
keep_places fields query d [] kept = kept
keep_places fields query d (id ∷ ids) kept = keep_places fields query d ids (keep_place fields query id (match_in query.selector d id) kept)
