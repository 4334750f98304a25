-- What a find finds: documents that match a selector, in an order, and of these a part.
-- CouchDB manual, api/database/find; that a document without one of the fields of the sort is not found, and that documents without a sort go by id, are this server's own.
use Rattle.std.specs.Prelude.{◌≡◌, ℕ, Bool, true, false, List, Option, Some, None, codes, drop, filter, if◌then◌else◌, map, option_and_then, take}
use Rattle.std.specs.FinMap.{get}
use Rattle.std.specs.Ordering.{is_gt, is_lt}
use Rattle.couch_json.specs.Parts.{text_in}
use Rattle.couch_json.specs.Value.{Items, Value, array, member_of}
use Rattle.selector.specs.Truth.{selector_matches}
use Rattle.store.specs.Database.{Database, Document}
use Rattle.store.specs.Pages.{in_direction}
use Rattle.store.specs.Indexes.{IndexPlace, field_values, index_entries, place_order, queried_document}
use Rattle.find.specs.declared.query.Query.{Query}

-- the documents that have all these fields, in the direction of a sort by them: by their values, and by id where these are the same
abbrev pub sorted_documents : List (List ℕ) → Bool → Database → List Value
sorted_documents fields descending db = in_direction descending (map (λ e. e.1) (index_entries fields db))

-- those of them that match
abbrev pub matching_documents : Query → Database → List Value
matching_documents query db = filter (λ v. selector_matches query.selector v) (sorted_documents query.sort query.descending db)

-- the part of them that is asked for
abbrev pub found_documents : Query → Database → List Value
found_documents query db = take query.limit (drop query.skip (matching_documents query db))

-- the id that a shown document says: its member `_id`
abbrev pub id_of : Value → Option (List ℕ)
id_of v = option_and_then text_in (member_of v (codes "_id"))

abbrev pub place_by : Option Items → Option (List ℕ) → Option IndexPlace
place_by None id = None
place_by (Some values) None = None
place_by (Some values) (Some id) = Some (record { key = array values; id = id })

-- where a document stands among those that have these fields: at its values there, and at its id; by no fields at its id alone
abbrev pub place_of : List (List ℕ) → Value → Option IndexPlace
place_of fields v = place_by (field_values fields v) (id_of v)

-- There are both places, and in this direction the first is strictly before the second: by the values, and by the bytes of the ids where these tie.
abbrev pub is_before : Bool → Option IndexPlace → Option IndexPlace → Bool
is_before descending None q = false
is_before descending (Some p) None = false
is_before descending (Some p) (Some q) = if descending then is_gt (place_order p q) else is_lt (place_order p q)

-- the document is one that queries look at, has all fields of the sort, and matches
pub record IsFindable (query : Query) (db : Database) (v : Value) : Type 0 where
  pub id : List ℕ
  pub document : Document
  pub there : get db.documents id ≡ Some document
  pub shown : queried_document id document.history ≡ Some v
  pub values : Items
  pub has : field_values query.sort v ≡ Some values
  pub matches : selector_matches query.selector v ≡ true
