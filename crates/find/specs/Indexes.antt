-- What the declaration of an index asks for: its design document, its name and its fields.
-- CouchDB manual, api/database/find (`POST /{db}/_index`: `ddoc`, `index`, `name`, `type`); that `ddoc` and `name` have to be there, that no other member may, that fields go up, and the limits, are this server's own.
use Rattle.std.specs.Prelude.{ℕ, Bool, true, ◌&&◌, ◌++◌, List, [], ◌∷◌, Option, Some, None, option_and_then, option_map, bytes_eq, codes, if◌then◌else◌, false}
use Rattle.couch_json.specs.Parts.{has_only, is_there_and, items_in, text_in}
use Rattle.couch_json.specs.Value.{Value, Items, member_of}
use Rattle.selector.specs.Truth.{items_length}
use Rattle.policy.specs.DesignDocuments.{is_field_count, is_index_name}
use Rattle.tree.specs.DocumentId.{is_design_id, is_document_id}
use Rattle.find.specs.Queries.{sort_fields_of}

-- an index that is to be declared: in the design document of this id, under this name, with these fields
pub record IndexAsked : Type 0 where
  pub design : List ℕ
  pub name : List ℕ
  pub fields : List (List ℕ)

-- the one type of index that there is, where one is named
abbrev pub is_json_type : Option Value → Bool
is_json_type None = true
is_json_type (Some v) = is_there_and (λ t. bytes_eq t (codes "json")) (text_in v)

-- the id, where it is one of a design document
abbrev pub design_id : List ℕ → Option (List ℕ)
design_id id = if is_document_id id && is_design_id id then Some id else None

-- the id of the design document that a text names
abbrev pub design_in : Value → Option (List ℕ)
design_in v = option_and_then (λ name. design_id (codes "_design/" ++ name)) (text_in v)

-- the name of an index in a value: a text that may name one
abbrev pub index_name_in : Value → Option (List ℕ)
index_name_in v = option_and_then (λ name. if is_index_name name then Some name else None) (text_in v)

-- 1 to 8 fields, each a path, which may say that it goes up
abbrev pub field_list : Items → Option (List (List ℕ))
field_list vs = if is_field_count (items_length vs) then sort_fields_of false vs else None

-- the fields of an index: an object with `fields` and nothing else
abbrev pub index_fields : Value → Option (List (List ℕ))
index_fields v =
    if has_only (codes "fields" ∷ []) v then option_and_then field_list (option_and_then items_in (member_of v (codes "fields"))) else None

-- the members that a request for an index may have
abbrev pub index_names : List (List ℕ)
index_names = codes "ddoc" ∷ codes "index" ∷ codes "name" ∷ codes "type" ∷ []

-- an index by its parts
abbrev pub index_by : List ℕ → List ℕ → List (List ℕ) → IndexAsked
index_by design name fields = record { design = design; name = name; fields = fields }

-- the index of a request, in this design document; none where its name or its fields are not of their form
abbrev pub index_with : Value → List ℕ → Option IndexAsked
index_with v design =
    option_and_then (λ name. option_map (λ fields. index_by design name fields) (option_and_then index_fields (member_of v (codes "index"))))
    (option_and_then index_name_in (member_of v (codes "name")))

-- the index that a value asks to declare
abbrev pub index_in : Value → Option IndexAsked
index_in v =
    if has_only index_names v && is_json_type (member_of v (codes "type"))
    then option_and_then (λ design. index_with v design) (option_and_then design_in (member_of v (codes "ddoc")))
    else None
