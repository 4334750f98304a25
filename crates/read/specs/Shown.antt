-- The document that a reader is shown, and what reading a document gives.
-- CouchDB manual, api/document/common (`GET /{db}/{docid}`: 404 where the document is missing or deleted; `rev` and `revs`).
use Rattle.std.specs.Prelude.{Bool, if◌then◌else◌, List, ℕ, Option, Some, None, option_map, Result, Ok, Err}
use Rattle.std.specs.FinMap.{get}
use Rattle.couch_json.specs.Value.{Value, object}
use Rattle.tree.specs.Revision.{Revision}
use Rattle.tree.specs.History.{HistoryContent, held_of, is_deleted, winner}
use Rattle.tree.specs.ShownDocument.{shown_members}
use Rattle.store.specs.Contents.{Contents}
use Rattle.store.specs.Database.{Database, history_at}
use Rattle.read.specs.Path.{with_revisions}
use Rattle.read.specs.declared.fault.ReadFault.{ReadFault}
use Rattle.read.specs.declared.fault.ReadFault.TheVariants.{Missing, Deleted}

-- the document that a revision is shown as, deleted or not, with its path where that is asked for; nothing where no body is held of it
abbrev pub shown_document : List ℕ → HistoryContent → Revision → Bool → Option Value
shown_document id h r revs = option_map (λ held. object (with_revisions revs h r (shown_members id r held))) (held_of h r)

-- missing where there is nothing to be shown
abbrev pub found : Option Value → Result Value ReadFault
found None = Err Missing
found (Some document) = Ok document

-- a document at its winner; `Missing` without one, and `Deleted` where it is deleted
abbrev pub winning_document : List ℕ → HistoryContent → Option Revision → Bool → Result Value ReadFault
winning_document id h None revs = Err Missing
winning_document id h (Some r) revs = if is_deleted (held_of h r) then Err Deleted else found (shown_document id h r revs)

-- What reading a document of this history gives. Of the revision that is asked for: the document as shown, and missing where no body
-- is held of it. Where none is asked for, of the winner: deleted where it is, and missing where nothing was ever written.
abbrev pub document_by : List ℕ → HistoryContent → Option Revision → Bool → Result Value ReadFault
document_by id h None revs = winning_document id h (winner h) revs
document_by id h (Some r) revs = found (shown_document id h r revs)

-- what reading the document of this id gives
abbrev pub document_at : Database → List ℕ → Option Revision → Bool → Result Value ReadFault
document_at db id rev revs = document_by id (history_at db id) rev revs

-- the same in the database of this name, where there is one
abbrev pub document_in : Contents → List ℕ → List ℕ → Option Revision → Bool → Option (Result Value ReadFault)
document_in contents name id rev revs = option_map (λ db. document_at db id rev revs) (get contents name)
