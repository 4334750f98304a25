-- What a request to write several documents together asks for.
-- CouchDB manual, api/database/bulk-api (`docs` and `new_edits`); that no other member is taken is this server's own.
use Rattle.std.specs.Prelude.{Result, Bool, true, if◌then◌else◌, List, [], ◌∷◌, Option, Some, None, option_map, option_and_then, codes}
use Rattle.couch_json.specs.Parts.{has_only, items_in, truth_in}
use Rattle.couch_json.specs.Value.{Value, Items, no_items, item, member_of}
use Rattle.couch_http.specs.Message.{Message}
use Rattle.api.specs.Asking.{json_body}
use Rattle.api.specs.Queries.{read_then}
use Rattle.api.specs.Refusals.{and_then, there_or}
use Rattle.api.specs.declared.refusal.Refusal.{Refusal}
use Rattle.api.specs.declared.refusal.Refusal.TheVariants.{Body}

-- the documents that are to be written: as new edits, or as they stand, with the revisions that they come with
pub record Bulk : Type 0 where
  pub new_edits : Bool
  pub documents : List Value

-- items as a list
abbrev pub elements_of_items : Items → List Value
elements_of_items no_items = []
elements_of_items (item v vs) = v ∷ elements_of_items vs

-- `docs`, which has to be a list
abbrev pub bulk_documents_of : Value → Option (List Value)
bulk_documents_of v = option_map (λ vs. elements_of_items vs) (items_in v)

-- the documents of a bulk
abbrev pub bulk_documents_in : Option Value → Option (List Value)
bulk_documents_in v = option_and_then (λ docs. bulk_documents_of docs) v

-- `new_edits`, true or false, and true where it is not given
abbrev pub new_edits_in : Option Value → Option Bool
new_edits_in None = Some true
new_edits_in (Some v) = truth_in v

-- what a body asks for, where it is an object of this shape, with no other members
abbrev pub bulk_in : Value → Option Bulk
bulk_in v =
    if has_only (codes "docs" ∷ codes "new_edits" ∷ []) v
    then read_then (new_edits_in (member_of v (codes "new_edits"))) (λ new_edits.
    read_then (bulk_documents_in (member_of v (codes "docs"))) (λ documents.
    Some (record { new_edits = new_edits; documents = documents })))
    else None

-- what the body of a request asks for, or a refusal
abbrev pub bulk_of : Message → Result Bulk Refusal
bulk_of m = and_then (json_body m) (λ value. there_or Body (bulk_in value))
