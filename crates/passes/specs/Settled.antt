-- What becomes of a leaf that a pass owes its target: it is known there, or it is reported.
-- CouchDB manual, replication/protocol; what is reported is this project's own.
use Rattle.std.specs.Prelude.{◌&&◌, ◌||◌, ℕ, Bool, false, List, Option, Some, None, bytes_eq, codes}
use Rattle.std.specs.List.{list_any}
use Rattle.couch_json.specs.Value.{Value}
use Rattle.tree.specs.History.{is_known}
use Rattle.tree.specs.Revision.{Revision, text_of}
use Rattle.store.specs.Database.{Database, history_at}
use Rattle.repl.specs.Calls.{Revisions}
use Rattle.repl.specs.Shapes.{text_at}

-- the revision of the document of this id stands among these
abbrev pub is_among : List ℕ → Revision → List Revisions → Bool
is_among id r rows = list_any (λ l. bytes_eq l.id id && list_any (λ t. bytes_eq t (text_of r)) l.revisions) rows

-- a text was found, and it is this one
abbrev pub is_this_text : List ℕ → Option (List ℕ) → Bool
is_this_text text None = false
is_this_text text (Some found) = bytes_eq found text

-- an entry of a report that is about the revision of the document of this id
abbrev pub is_report_entry_of : List ℕ → Revision → Value → Bool
is_report_entry_of id r v = is_this_text id (text_at (codes "id") v) && is_this_text (text_of r) (text_at (codes "rev") v)

-- the revision is reported
abbrev pub is_reported : List ℕ → Revision → List Value → Bool
is_reported id r entries = list_any (λ v. is_report_entry_of id r v) entries

abbrev pub is_document_of : List ℕ → Revision → Value → Bool
is_document_of id r v = is_this_text id (text_at (codes "_id") v) && is_this_text (text_of r) (text_at (codes "_rev") v)

-- the revision is one of these documents
abbrev pub is_sent : List ℕ → Revision → List Value → Bool
is_sent id r documents = list_any (λ v. is_document_of id r v) documents

-- the revision is known at the target, or reported
abbrev pub is_settled : Database → List Value → List ℕ → Revision → Bool
is_settled target refused id r = is_known (history_at target id) r || is_reported id r refused
