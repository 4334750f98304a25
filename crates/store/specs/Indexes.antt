-- The documents that queries look at, and the rows of an index over them, made from scratch: each document that has all the fields, at the values that it has for them.
-- CouchDB manual, api/database/find (which documents a query sees, and the fields of an index) and ddocs/views/collation (the order of keys); that a design document declares its indexes in the member `indexes` is this server's own.
use Rattle.std.specs.Prelude.{◌≡◌, refl, ℕ, List, [], ◌∷◌, map, codes, Option, Some, None, option_map, option_and_then, if◌then◌else◌}
use Rattle.std.specs.declared.cmp.Ordering.{Ordering}
use Rattle.std.specs.Ordering.{nat_cmp, ordering_then}
use Rattle.std.specs.Cmp.Lexicographic.{slice_cmp}
use Rattle.std.specs.Coded.{Coded, code_by, coded×, coded_list, coded_ℕ}
use Rattle.std.specs.FinMap.{entries, get, put}
use Rattle.couch_json.specs.Code.{value_code}
use Rattle.couch_json.specs.Collation.{collation}
use Rattle.couch_json.specs.FieldPath.{value_at}
use Rattle.couch_json.specs.Parts.{items_in, items_or_none, text_in}
use Rattle.couch_json.specs.Value.{Value, array, object, Items, no_items, item, Members, no_members, member_of}
use Rattle.policy.specs.DesignDocuments.{is_index_object}
use Rattle.tree.specs.DocumentId.{is_design_id}
use Rattle.tree.specs.History.{HistoryContent, held_of}
use Rattle.tree.specs.Revision.{Revision}
use Rattle.tree.specs.ShownDocument.{body_members, document_at_revision}
use Rattle.tree.specs.declared.entry.Held.{Held}
use Rattle.store.specs.Database.{Database, Document, history_at}
use Rattle.store.specs.Pages.{live_rev}

-- ---- what a query looks at

-- what is held of a revision
abbrev pub held_by : HistoryContent → Option Revision → Option Held
held_by h None = None
held_by h (Some r) = held_of h r

-- a document at a revision, as readers are shown it; none without a revision
abbrev pub shown_by : List ℕ → HistoryContent → Option Revision → Option Value
shown_by id h None = None
shown_by id h (Some r) = option_map (λ held. document_at_revision id r held) (held_of h r)

-- the document as its winner shows it, where the winner is not deleted; design documents are not looked at
abbrev pub queried_document : List ℕ → HistoryContent → Option Value
queried_document id h = if is_design_id id then None else shown_by id h (live_rev h)

-- ---- the rows of an index

-- a place in an index: a key, which is the array of the values of the fields, and the id of the document
pub record IndexPlace : Type 0 where
  pub key : Value
  pub id : List ℕ

-- places go by their keys, and by the bytes of the ids where the keys tie
abbrev pub place_order : IndexPlace → IndexPlace → Ordering
place_order a b = ordering_then (collation a.key b.key) (slice_cmp nat_cmp a.id b.id)

-- a place is stored as the pair of its parts
abbrev pub place_code : Coded IndexPlace
place_code = code_by (Value × List ℕ) (coded× value_code (coded_list coded_ℕ)) (λ p. (p.key, p.id)) (λ p. record { key = p.0; id = p.1 }) (λ _. refl)

-- one more value in front, where all are there
abbrev pub values_with : Option Value → Option Items → Option Items
values_with None vs = None
values_with (Some v) None = None
values_with (Some v) (Some vs) = Some (item v vs)

-- the values that a document has at these paths, in order; none where it lacks one of them
abbrev pub field_values : List (List ℕ) → Value → Option Items
field_values [] document = Some no_items
field_values (path ∷ paths) document = values_with (value_at path document) (field_values paths document)

-- a document put at its key among the others, where it has all values
abbrev pub put_at_values : List ℕ → Value → Option Items → List (IndexPlace × Value) → List (IndexPlace × Value)
put_at_values id document None among = among
put_at_values id document (Some values) among = put place_order (record { key = array values; id = id }) document among

-- a document put at its place in an index of these fields, where it has one
abbrev pub put_in_index : List (List ℕ) → List ℕ → Option Value → List (IndexPlace × Value) → List (IndexPlace × Value)
put_in_index fields id None among = among
put_in_index fields id (Some document) among = put_at_values id document (field_values fields document) among

-- The index of these documents: places with the documents that stand there, ascending. It is a finite map: no two documents have one
-- place, since no two have one id.
abbrev pub index_over : List (List ℕ) → List (List ℕ × Document) → List (IndexPlace × Value)
index_over fields [] = []
index_over fields (e ∷ es) = put_in_index fields e.0 (queried_document e.0 e.1.history) (index_over fields es)

-- the index of a database by these fields, with the documents; by no fields it has each document that queries look at, by id
abbrev pub index_entries : List (List ℕ) → Database → List (IndexPlace × Value)
index_entries fields db = index_over fields (entries db.documents)

-- the rows of the index
abbrev pub index_rows : List (List ℕ) → Database → List IndexPlace
index_rows fields db = map (λ e. e.0) (index_entries fields db)

-- ---- which indexes there are

-- a path in front of the others, where there is one
abbrev pub put_path : Option (List ℕ) → List (List ℕ) → List (List ℕ)
put_path None paths = paths
put_path (Some path) paths = path ∷ paths

-- the paths in a list
abbrev pub paths_in : Items → List (List ℕ)
paths_in no_items = []
paths_in (item v vs) = put_path (text_in v) (paths_in vs)

-- the fields that an index is declared with
abbrev pub fields_in : Value → List (List ℕ)
fields_in index = paths_in (items_or_none (option_and_then items_in (member_of index (codes "fields"))))

-- indexes by name; where one of them is not of its form there are none
abbrev pub indexes_if : Option Value → Members
indexes_if None = no_members
indexes_if (Some v) = if is_index_object v then body_members v else no_members

-- the index that a body declares under this name
abbrev pub declared_index : Value → List ℕ → Option Value
declared_index body name = member_of (object (indexes_if (member_of body (codes "indexes")))) name

-- the fields of that index
abbrev pub declared_fields : Value → List ℕ → Option (List (List ℕ))
declared_fields body name = option_map fields_in (declared_index body name)

-- the body of the winner, where that is not deleted
abbrev pub winning_body : HistoryContent → Option Value
winning_body h = option_map (λ held. held.body) (held_by h (live_rev h))

-- the fields of the index that a design document with this history declares under this name, where its winner is not deleted
abbrev pub index_fields_of : List ℕ → HistoryContent → List ℕ → Option (List (List ℕ))
index_fields_of design h name =
    if is_design_id design then option_and_then (λ body. declared_fields body name) (winning_body h) else None

-- the fields of the index that this design document of a database declares under this name
abbrev pub index_fields_at : Database → List ℕ → List ℕ → Option (List (List ℕ))
index_fields_at db design name = index_fields_of design (history_at db design) name

-- the place is that of a document that queries look at, at its values
pub record IsPlaceOf (fields : List (List ℕ)) (db : Database) (p : IndexPlace) : Type 0 where
  pub document : Document
  pub there : get db.documents p.id ≡ Some document
  pub shown : Value
  pub looked_at : queried_document p.id document.history ≡ Some shown
  pub values : option_map array (field_values fields shown) ≡ Some p.key
