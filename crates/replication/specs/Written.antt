-- What a node writes when it handles a call of a pass, whatever it replies and whether the reply comes back; and what it opens.
-- CouchDB manual, the pages of the calls: api/local, api/database/changes, api/database/misc (`_revs_diff`), api/document/common (`open_revs`) and api/database/bulk-api.
use Rattle.std.specs.Prelude.{◌≡◌, ◌≢◌, ℕ, Bool, true, false, List, Some, Ok, ⊤}
use Rattle.std.specs.List.{AllByRecursion}
use Rattle.std.specs.FinMap.{get}
use Rattle.auth.specs.Callers as auth
use Rattle.couch_http.specs.Reply.{Reply}
use Rattle.couch_json.specs.Canonical.{canonical}
use Rattle.couch_json.specs.Lawful.{IsLawful}
use Rattle.couch_json.specs.Value.{Value}
use Rattle.store.specs.Contents.{Contents}
use Rattle.store.specs.Database.{Database}
use Rattle.node.specs.Runs.{Steps}
use Rattle.repl.specs.Calls.{Call, Revisions, compare_revisions, documents_value, list_changes, open_revisions, push_documents, read_checkpoint, request_of, revisions_value, texts_value, write_checkpoint}
use Rattle.repl.specs.Configuration.{PassConfiguration, database_of_side}
use Rattle.repl.specs.Replies.{Opened, documents_of_opened, revisions_opened}
use Rattle.repl.specs.declared.side.Side.{Side}
use Rattle.repl.specs.declared.side.Side.TheVariants.{Source}
use Rattle.replication.specs.Finished.{found_or_new}
use Rattle.passes.specs.Spelled.{AreBytes}
use Rattle.passes.specs.Told.{ReadsDatabase}
use Rattle.replication.specs.Appended.{Appends, IsShownBy, KeepsDocuments}

-- The database of this name, or a new one where there is none, became this; and where there is one, it is there afterwards.
abbrev pub Becomes : Contents → List ℕ → Contents → (Database → Database → Type 0) → Type 0
Becomes before name after how =
    how (found_or_new (get before name)) (found_or_new (get after name)) × ((db : Database) → get before name ≡ Some db → (now : Database) × (get after name ≡ Some now))

-- no document is written in any database
abbrev pub WritesNowhere : Contents → Contents → Type 0
WritesNowhere before after = (name : List ℕ) → Becomes before name after KeepsDocuments

-- the call pushes documents
abbrev pub is_push : Call → Bool
is_push (read_checkpoint id) = false
is_push (write_checkpoint id body) = false
is_push (list_changes since most) = false
is_push (compare_revisions rs) = false
is_push (open_revisions r) = false
is_push (push_documents documents) = true

-- the revisions that a comparison asks about can be written as JSON
abbrev pub AsksLawfully : Call → Type 0
AsksLawfully (read_checkpoint id) = ⊤
AsksLawfully (write_checkpoint id body) = ⊤
AsksLawfully (list_changes since most) = ⊤
AsksLawfully (compare_revisions rs) = IsLawful (revisions_value rs)
AsksLawfully (open_revisions r) = ⊤
AsksLawfully (push_documents documents) = ⊤

-- a call that pushes nothing writes no document: a checkpoint is a local one
abbrev pub OtherCallsWriteNothing : Type 0
OtherCallsWriteNothing =
    (c : auth.Configuration) (before : Contents) (k : PassConfiguration) (side : Side) (call : Call) (r : Reply) (after : Contents) → is_push call ≡ false → AsksLawfully call
    → Steps c before (request_of k side call) r after → WritesNowhere before after

-- a push appends, in the database that it names, what its documents say, or some of it, or nothing; and it writes no document elsewhere
abbrev pub PushesAppendWhatIsSaid : Type 0
PushesAppendWhatIsSaid =
    (c : auth.Configuration) (before : Contents) (k : PassConfiguration) (side : Side) (documents : List Value) (r : Reply) (after : Contents) → AreBytes (database_of_side k side)
    → IsLawful (documents_value documents) → Steps c before (request_of k side (push_documents documents)) r after
    → Becomes before (database_of_side k side) after (Appends documents) × ((name : List ℕ) → name ≢ database_of_side k side → Becomes before name after KeepsDocuments)

-- the documents of opened revisions that are taken in are shown by the source
abbrev pub OpenedAreShown : Type 0
OpenedAreShown =
    (c : auth.Configuration) (before : Contents) (k : PassConfiguration) (row : Revisions) (opened : List Opened) (r : Reply) (after : Contents) → AreBytes k.source_db → AreBytes row.id
    → AreBytes (canonical (texts_value row.revisions)) → IsLawful (texts_value row.revisions) → Steps c before (request_of k Source (open_revisions row)) r after
    → revisions_opened r.status r.body ≡ Ok opened → ReadsDatabase before k.source_db after (λ db. AllByRecursion (IsShownBy db row.id) (documents_of_opened opened))
