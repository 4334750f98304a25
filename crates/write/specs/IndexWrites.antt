-- What becomes of an index that is declared: its design document is edited, unless it declares this index already.
-- CouchDB manual, api/database/find (`POST /{db}/_index`: `created` or `exists`); that the index stands in the member `indexes` of the design document, and that a denial comes before `exists`, are this server's own.
use Rattle.std.specs.Prelude.{ℕ, Bool, List, map, codes, Option, None, option_and_then, unwrap_or, Ok, if◌then◌else◌}
use Rattle.std.specs.Ordering.{is_eq}
use Rattle.couch_json.specs.Collation.{collation}
use Rattle.couch_json.specs.Parts.{is_there_and, members_in}
use Rattle.couch_json.specs.Value.{Value, text, array, object, Members, no_members, member_of, put}
use Rattle.couch_json.specs.View.{items_of}
use Rattle.tree.specs.History.{HistoryContent, winner}
use Rattle.store.specs.Database.{Database, history_at}
use Rattle.store.specs.Indexes.{declared_index, winning_body}
use Rattle.write.specs.Admission.{design_refusal, edit_outcome, unless_denied}
use Rattle.write.specs.Bulk.{DocumentOutcome, as_outcome}
use Rattle.write.specs.Terms.{Terms}

-- an index of these fields as it stands in a design document
abbrev pub index_value : List (List ℕ) → Value
index_value fields = object (put (codes "fields") (array (items_of (map text fields))) no_members)

-- the members of a value, where there is one that is an object
abbrev pub members_if : Option Value → Members
members_if v = unwrap_or (option_and_then members_in v) no_members

-- The body with this index beside its others, in the place of the one of its name; where there is no body, an empty one with it. An
-- `indexes` that is no object counts as an empty one.
abbrev pub with_index : List ℕ → Value → Option Value → Value
with_index name index body =
    object (put (codes "indexes") (object (put name index (members_if (option_and_then (λ b. member_of b (codes "indexes")) body)))) (members_if body))

-- the design document that declares the index: its winner, where that is not deleted, with it
abbrev pub index_document : HistoryContent → List ℕ → List (List ℕ) → Value
index_document h name fields = with_index name (index_value fields) (winning_body h)

-- the body, if there is one, declares this index under the name; values that tie are the same
abbrev pub declares : Option Value → List ℕ → Value → Bool
declares body name index = is_there_and (λ declared. is_eq (collation declared index)) (option_and_then (λ b. declared_index b name) body)

-- the winner is not deleted and declares this index under the name
abbrev pub has_index : HistoryContent → List ℕ → List (List ℕ) → Bool
has_index h name fields = declares (winning_body h) name (index_value fields)

-- the edit that declares the index goes on from the winner, deleted or not
abbrev pub index_edit : Terms → List ℕ → HistoryContent → List ℕ → List (List ℕ) → DocumentOutcome
index_edit terms id h name fields = as_outcome (edit_outcome terms id h (winner h) (index_document h name fields))

-- What becomes of an index of the design document with this history: a denial where the caller may not write it, nothing where it
-- declares this index already, else what becomes of the edit.
abbrev pub index_outcome : Terms → List ℕ → HistoryContent → List ℕ → List (List ℕ) → DocumentOutcome
index_outcome terms id h name fields =
    unless_denied (design_refusal terms id) (if has_index h name fields then Ok None else index_edit terms id h name fields)

-- what becomes of it in this database
abbrev pub index_admission : Terms → Database → List ℕ → List ℕ → List (List ℕ) → DocumentOutcome
index_admission terms db id name fields = index_outcome terms id (history_at db id) name fields
