-- The documents of some ids at their places: what each id adds.
-- This crate's own: it ties the loops of the code to the definition of `Found`.
use Rattle.std.specs.Prelude.{ℕ, List, [], ◌∷◌, Option, Some, None}
use Rattle.std.specs.BTreeSet.{insert_key}
use Rattle.couch_json.specs.Value.{Items, Value, array}
use Rattle.store.specs.Database.{Database}
use Rattle.store.specs.Indexes.{IndexPlace, field_values, place_order, put_in_index}
use Rattle.find.specs.inner.Matching.{match_in}

-- those of these ids that match, put at their places in an index of these fields
abbrev pub put_candidates : List (List ℕ) → Value → Database → List (List ℕ) → List (IndexPlace × Value) → List (IndexPlace × Value)
put_candidates fields selector db [] among = among
put_candidates fields selector db (id ∷ ids) among = put_candidates fields selector db ids (put_in_index fields id (match_in selector db id) among)

-- ---- the places alone

abbrev pub put_place_at : List ℕ → Option Items → List IndexPlace → List IndexPlace
put_place_at id None among = among
put_place_at id (Some values) among = insert_key place_order among (record { key = array values; id = id })

abbrev pub put_place : List (List ℕ) → List ℕ → Option Value → List IndexPlace → List IndexPlace
put_place fields id None among = among
put_place fields id (Some document) among = put_place_at id (field_values fields document) among

-- the places of those of these ids that match
abbrev pub put_places : List (List ℕ) → Value → Database → List (List ℕ) → List IndexPlace → List IndexPlace
put_places fields selector db [] among = among
put_places fields selector db (id ∷ ids) among = put_places fields selector db ids (put_place fields id (match_in selector db id) among)
