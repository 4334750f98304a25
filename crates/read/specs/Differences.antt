-- Which revisions of documents a database does not know.
-- CouchDB manual, api/database/misc (`POST /{db}/_revs_diff`: `missing`); that any text may stand for a document, and that a revision asked for twice is told twice, is this server's own.
use Rattle.std.specs.Prelude.{ℕ, List, [], ◌∷◌, codes, filter, map, not, if◌then◌else◌}
use Rattle.std.specs.FinMap.{empty}
use Rattle.couch_json.specs.Value.{Value, text, array, object, Members, no_members, member, put}
use Rattle.couch_json.specs.View.{items_of}
use Rattle.tree.specs.DocumentId.{is_document_id}
use Rattle.tree.specs.History.{HistoryContent, is_known}
use Rattle.tree.specs.Revision.{Revision, text_of}
use Rattle.store.specs.Database.{Database, history_at}

-- revisions of one document, by the text that stands for its id
pub record RevisionsOf : Type 0 where
  pub id : List ℕ
  pub revs : List Revision

-- what the database knows of a document; of a text that is no id of a document nothing
abbrev pub history_by : Database → List ℕ → HistoryContent
history_by db id = if is_document_id id then history_at db id else empty

-- the texts of those that are not known, in the order asked, repeats too
abbrev pub missing_texts : HistoryContent → List Revision → List Value
missing_texts h revs = map (λ r. text (text_of r)) (filter (λ r. not (is_known h r)) revs)

-- an id of which all are known is left out
abbrev pub with_missing : List ℕ → List Value → Members → Members
with_missing id [] ms = ms
with_missing id (v ∷ vs) ms = put id (object (member (codes "missing") (array (items_of (v ∷ vs))) no_members)) ms

-- the same of one document
abbrev pub with_difference : Database → Members → RevisionsOf → Members
with_difference db ms asked = with_missing asked.id (missing_texts (history_by db asked.id) asked.revs) ms

-- the reply of `_revs_diff` with what each document lacks
abbrev pub with_differences : Database → Members → List RevisionsOf → Members
with_differences db ms [] = ms
with_differences db ms (asked ∷ rest) = with_differences db (with_difference db ms asked) rest

-- an object from ids to the revisions that are missing
abbrev pub revision_differences : List RevisionsOf → Database → Value
revision_differences asked db = object (with_differences db no_members asked)
