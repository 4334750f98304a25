-- A find id by id: what each document adds, and what is still to come.
-- This crate's own: it ties the loops of the code to the definition of `Found`.
use Rattle.std.specs.Prelude.{ℕ, List, ◌++◌, drop, flat_map, if◌then◌else◌, Option, Some, None, take}
use Rattle.std.specs.Option.{option_to_list}
use Rattle.couch_json.specs.Value.{Value}
use Rattle.selector.specs.Truth.{selector_matches}
use Rattle.store.specs.Database.{Database, history_at}
use Rattle.store.specs.Indexes.{queried_document}
use Rattle.find.specs.declared.part.Part.{Part}

-- the document, where it matches
abbrev pub if_matches : Value → Option Value → Option Value
if_matches selector None = None
if_matches selector (Some v) = if selector_matches selector v then Some v else None

-- the document of this id, where queries look at it and it matches
abbrev pub match_in : Value → Database → List ℕ → Option Value
match_in selector db id = if_matches selector (queried_document id (history_at db id))

-- those of the documents of these ids that match
abbrev pub matches_at : Value → Database → List (List ℕ) → List Value
matches_at selector d ids = flat_map (λ id. option_to_list (match_in selector d id)) ids

-- the part, once these documents have come too
abbrev pub completion : Part → List Value → List Value
completion part rest = part.documents ++ take part.limit (drop part.skip rest)
