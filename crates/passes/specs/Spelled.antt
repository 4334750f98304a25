-- What the answer to a call of a pass is, where it has the status that the pass expects: that of just this work, in the database that the pass names.
-- CouchDB manual, api/database/changes, api/database/misc (`_revs_diff`), api/document/common (`open_revs`) and api/database/bulk-api.
use Rattle.std.specs.Prelude.{◌≡◌, ◌<◌, ◌≤◌, ℕ, false, true, List, All, Option, Some, IfSome, Ok}
use Rattle.std.specs.FinMap.{get}
use Rattle.auth.specs.Callers as auth
use Rattle.couch_http.specs.Message.{Message}
use Rattle.couch_json.specs.Canonical.{canonical}
use Rattle.couch_json.specs.Lawful.{IsLawful}
use Rattle.couch_json.specs.Range.{greatest_count}
use Rattle.couch_json.specs.Value.{Value}
use Rattle.tree.specs.Revision.{Revision}
use Rattle.store.specs.Contents.{Contents}
use Rattle.store.specs.Database.{Database, history_at}
use Rattle.store.specs.declared.listing.SeqRange.{SeqRange}
use Rattle.read.specs.Changes.{changes_in}
use Rattle.read.specs.Differences.{RevisionsOf, revision_differences}
use Rattle.read.specs.OpenRevisions.{open_revisions}
use Rattle.write.specs.Bulk.{outcomes}
use Rattle.write.specs.Terms.{terms_in}
use Rattle.api.specs.Asking.{asker}
use Rattle.api.specs.Bulk.{Bulk}
use Rattle.api.specs.Listings.{requested_differences}
use Rattle.api.specs.Queries.{revisions_listed}
use Rattle.node.specs.Answer.{Outcome, answer, outcome_in_database, reply}
use Rattle.node.specs.Works.{bulk_done}
use Rattle.repl.specs.Calls.{Revisions, compare_revisions, documents_value, list_changes, push_documents, request_of, revisions_value, texts_value}
use Rattle.repl.specs.Calls as call
use Rattle.repl.specs.Configuration.{PassConfiguration, database_of_side}
use Rattle.repl.specs.declared.side.Side.{Side}

-- a text is bytes, as each text of a program is
abbrev pub AreBytes : List ℕ → Type 0
AreBytes text = All (λ b. b < 256) text

-- ---- changes

-- the changes after a sequence, with all leaves: all of them, or the first ones, at most so many
abbrev pub changes_after : ℕ → Option ℕ → SeqRange
changes_after since most = record { since = since; limit = most; all_leaves = true; counted = false }

-- the changes of the database of this name, and nothing is changed
pub record IsListed (a : Contents) (name : List ℕ) (since : ℕ) (most : Option ℕ) (o : Outcome) : Type 0 where
  pub db : Database
  pub there : get a name ≡ Some db
  pub is : o ≡ reply (changes_in (changes_after since most) db)

-- where a call for changes is answered with 200, these are listed
abbrev pub ChangesAreListed : Type 0
ChangesAreListed =
    (c : auth.Configuration) (a : Contents) (k : PassConfiguration) (side : Side) (since : ℕ) (most : Option ℕ) → AreBytes (database_of_side k side) → since ≤ greatest_count
    → IfSome most (λ n. n ≤ greatest_count) → (answer c a (request_of k side (list_changes since most))).status ≡ 200
    → IsListed a (database_of_side k side) since most (answer c a (request_of k side (list_changes since most)))

-- ---- differences

-- which of the revisions asked about the database of this name doesn't know, and nothing is changed
pub record IsCompared (a : Contents) (name : List ℕ) (leaves : List Revisions) (o : Outcome) : Type 0 where
  pub db : Database
  pub asked : List RevisionsOf
  pub there : get a name ≡ Some db
  pub says : requested_differences (revisions_value leaves) ≡ Some asked
  pub is : o ≡ reply (revision_differences asked db)

-- where a call to compare revisions is answered with 200, they are compared
abbrev pub RevisionsAreCompared : Type 0
RevisionsAreCompared =
    (c : auth.Configuration) (a : Contents) (k : PassConfiguration) (side : Side) (leaves : List Revisions) → AreBytes (database_of_side k side) → IsLawful (revisions_value leaves)
    → (answer c a (request_of k side (compare_revisions leaves))).status ≡ 200
    → IsCompared a (database_of_side k side) leaves (answer c a (request_of k side (compare_revisions leaves)))

-- ---- opened revisions

-- these revisions of the document of this id in the database of this name, each with its history, and nothing is changed
pub record IsOpened (a : Contents) (name : List ℕ) (r : Revisions) (o : Outcome) : Type 0 where
  pub db : Database
  pub asked : List Revision
  pub there : get a name ≡ Some db
  pub says : revisions_listed (texts_value r.revisions) ≡ Some asked
  pub is : o ≡ reply (open_revisions r.id (history_at db r.id) (Some asked) true)

-- where a call to open revisions is answered with 200, they are opened
abbrev pub RevisionsAreOpened : Type 0
RevisionsAreOpened =
    (c : auth.Configuration) (a : Contents) (k : PassConfiguration) (side : Side) (r : Revisions) → AreBytes (database_of_side k side) → AreBytes r.id
    → AreBytes (canonical (texts_value r.revisions)) → IsLawful (texts_value r.revisions)
    → (answer c a (request_of k side (call.open_revisions r))).status ≡ 200
    → IsOpened a (database_of_side k side) r (answer c a (request_of k side (call.open_revisions r)))

-- ---- pushed documents

-- these documents, as they stand: each brings its revision along
abbrev pub replica_bulk : List Value → Bulk
replica_bulk documents = record { new_edits = false; documents = documents }

-- Each of these documents is judged in the database of this name as one that brings its revision, on the terms of the one who asks, and those
-- that are accepted are appended.
pub record IsPushed (c : auth.Configuration) (a : Contents) (m : Message) (name : List ℕ) (documents : List Value) (o : Outcome) : Type 0 where
  pub db : Database
  pub caller : auth.Identity
  pub asks : asker c m ≡ Ok caller
  pub there : get a name ≡ Some db
  pub is : o ≡ outcome_in_database name (bulk_done caller (replica_bulk documents) (outcomes (terms_in caller name db) false (history_at db) documents))

-- where a push is answered with 201, each document is judged
abbrev pub DocumentsArePushed : Type 0
DocumentsArePushed =
    (c : auth.Configuration) (a : Contents) (k : PassConfiguration) (side : Side) (documents : List Value) → AreBytes (database_of_side k side) → IsLawful (documents_value documents)
    → (answer c a (request_of k side (push_documents documents))).status ≡ 201
    → IsPushed c a (request_of k side (push_documents documents)) (database_of_side k side) documents (answer c a (request_of k side (push_documents documents)))
