-- The open revisions of a document: for each revision that is asked for, the document that it is shown as, or that it is missing.
-- CouchDB manual, api/document/common (`open_revs`: a list of revisions, or all leaves; the members `ok` and `missing`). That the leaves come best first is this server's own.
use Rattle.std.specs.Prelude.{Bool, List, ℕ, codes, map, Option, Some, None, option_map}
use Rattle.std.specs.FinMap.{get}
use Rattle.couch_json.specs.Value.{Value, text, array, object, no_members, member}
use Rattle.couch_json.specs.View.{items_of}
use Rattle.tree.specs.Revision.{Revision, text_of}
use Rattle.tree.specs.History.{HistoryContent, leaves}
use Rattle.store.specs.Contents.{Contents}
use Rattle.store.specs.Database.{history_at}
use Rattle.read.specs.Shown.{shown_document}

-- a requested revision: its document, or that it is missing
abbrev pub element : Revision → Option Value → Value
element r None = object (member (codes "missing") (text (text_of r)) no_members)
element r (Some document) = object (member (codes "ok") document no_members)

-- what is said of one revision
abbrev pub open_revision : List ℕ → HistoryContent → Bool → Revision → Value
open_revision id h revs r = element r (shown_document id h r revs)

-- the revisions that are asked for, and all leaves, best first, where none are named
abbrev pub asked_revisions : HistoryContent → Option (List Revision) → List Revision
asked_revisions h None = leaves h
asked_revisions h (Some asked) = asked

-- what is said of them, in the order in which they are asked for
abbrev pub open_revisions : List ℕ → HistoryContent → Option (List Revision) → Bool → Value
open_revisions id h asked revs = array (items_of (map (open_revision id h revs) (asked_revisions h asked)))

-- the same of a document of the database of this name, where there is one
abbrev pub open_revisions_in : Contents → List ℕ → List ℕ → Option (List Revision) → Bool → Option Value
open_revisions_in contents name id asked revs = option_map (λ db. open_revisions id (history_at db id) asked revs) (get contents name)
