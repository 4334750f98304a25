-- What the query of a view asks for: a range of the keys of an index.
-- CouchDB manual, api/ddoc/views (`startkey`, `endkey`, `inclusive_end`, `descending`, `skip`, `limit`) and ddocs/views/collation (a range of keys).
use Rattle.std.specs.Prelude.{Bool, false, ℕ, if◌then◌else◌, List, [], ◌∷◌, Option, Some, None, option_map, codes}
use Rattle.couch_json.specs.Reading.{reading, value_read}
use Rattle.couch_json.specs.Value.{Value}
use Rattle.store.specs.declared.index_page.CutSide.{CutSide}
use Rattle.store.specs.declared.index_page.CutSide.TheVariants.{Before, After}
use Rattle.store.specs.declared.index_page.KeyCut.{KeyCut}
use Rattle.store.specs.declared.index_page.KeyRange.{KeyRange}
use Rattle.store.specs.declared.listing.IdRange.{IdRange}
use Rattle.api.specs.Listings.{range_from}
use Rattle.api.specs.Queries.{parameters_are_named, given_at, parameters_in, read_then}

-- a key is any JSON value
abbrev pub json_in_text : List ℕ → Option Value
json_in_text value = value_read (reading value)

-- a cut at a key, where there is one
abbrev pub cut_at : CutSide → Option Value → Option KeyCut
cut_at side key = option_map (λ k. record { key = k; side = side }) key

-- Which side of a key that ends a range belongs to it: the key itself does where the end is inclusive.
abbrev pub end_side : Bool → Bool → CutSide
end_side descending inclusive =
    if descending then (if inclusive then Before else After) else (if inclusive then After else Before)

-- the range from one key to another, in a direction: a range that goes down starts at its high end
abbrev pub keys_between : Option Value → Option Value → IdRange → KeyRange
keys_between start end range = record {
  low = if range.descending then cut_at (end_side range.descending range.inclusive_end) end else cut_at Before start;
  high = if range.descending then cut_at After start else cut_at (end_side range.descending range.inclusive_end) end;
  descending = range.descending;
  skip = range.skip;
  limit = range.limit;
  counted = false;
}

-- the names of its parameters; those of a listing by id are a list of its own
abbrev pub view_names : List (List ℕ)
view_names = codes "startkey" ∷ codes "endkey" ∷ codes "inclusive_end" ∷ codes "descending" ∷ codes "skip" ∷ codes "limit" ∷ []

-- The range that they ask for: direction, `skip` and `limit` are read as those of a listing by id, and a key is any value.
-- `descending=true&startkey=3` requests the rows from the key 3 down.
abbrev pub keys_asked : List (List ℕ × List ℕ) → Option KeyRange
keys_asked ps =
    if parameters_are_named view_names ps
    then read_then (given_at json_in_text (codes "startkey") ps) (λ start.
    read_then (given_at json_in_text (codes "endkey") ps) (λ end.
    read_then (range_from ps None None) (λ range.
    Some (keys_between start end range))))
    else None

-- the rows that a view's reader asks for, or nothing where the query is a bad one
abbrev pub view_query : Option (List ℕ) → Option KeyRange
view_query query = keys_asked (parameters_in query)
