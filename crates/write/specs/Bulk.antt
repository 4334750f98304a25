-- What becomes of several documents that are written together.
-- CouchDB manual, api/database/bulk-api (`POST /{db}/_bulk_docs`, `new_edits`): each has its own outcome; that they are judged one after another, all on the same terms and each by the histories that those before it left, is this server's own.
use Rattle.std.specs.Prelude.{ℕ, Bool, true, false, if◌then◌else◌, List, [], ◌∷◌, Option, Some, None, Result, Ok, Err, codes}
use Rattle.couch_json.specs.Value.{Value}
use Rattle.tree.specs.Revision.{Revision}
use Rattle.tree.specs.History.{HistoryContent, with_write}
use Rattle.store.specs.Database.{DocumentWrite, is_write_of}
use Rattle.write.specs.Admission.{edit_outcome, given, new_revision, replicated_outcome}
use Rattle.write.specs.Document.{id_in, member_text}
use Rattle.write.specs.Terms.{Terms}
use Rattle.write.specs.declared.fault.WriteFault.{WriteFault}
use Rattle.write.specs.declared.fault.WriteFault.TheVariants.{BadDocument, BadHistory}
use Rattle.write.specs.declared.planned.Outcome.{Outcome}
use Rattle.write.specs.declared.planned.Outcome.TheVariants.{Made, Known, Refused}

-- a write that is appended, nothing where there is nothing to do, or a fault
abbrev pub DocumentOutcome : Type 0
DocumentOutcome = Result (Option DocumentWrite) WriteFault

-- the outcome of one document that is edited
abbrev pub as_outcome : Result DocumentWrite WriteFault → DocumentOutcome
as_outcome (Ok w) = Ok (Some w)
as_outcome (Err fault) = Err fault

-- what becomes of a document with this history: as a new edit, or as a replicated write
abbrev pub document_outcome : Terms → Bool → List ℕ → HistoryContent → Value → DocumentOutcome
document_outcome terms true id h document = as_outcome (edit_outcome terms id h None document)
document_outcome terms false id h document = replicated_outcome terms id h document

-- the histories of documents, by id
abbrev pub Histories : Type 0
Histories = List ℕ → HistoryContent

-- the histories once a write is in
abbrev pub with_write_in : Histories → DocumentWrite → Histories
with_write_in histories w = λ id. if is_write_of id w then with_write (histories id) w.write else histories id

-- what becomes of a document among others, which has to have an id
abbrev pub outcome_in : Terms → Bool → Histories → Value → DocumentOutcome
outcome_in terms new_edits histories document =
    given BadDocument (id_in document) (λ id. document_outcome terms new_edits id (histories id) document)

-- the histories after an outcome
abbrev pub after : Histories → DocumentOutcome → Histories
after histories (Ok (Some w)) = with_write_in histories w
after histories outcome = histories

-- what becomes of each document, in order, by the histories that those before it left; the terms are the same for all of them
abbrev pub outcomes : Terms → Bool → Histories → List Value → List DocumentOutcome
outcomes terms new_edits histories [] = []
outcomes terms new_edits histories (v ∷ vs) =
    outcome_in terms new_edits histories v ∷ outcomes terms new_edits (after histories (outcome_in terms new_edits histories v)) vs

-- the write of an outcome in front of others, if it makes one
abbrev pub put_before : DocumentOutcome → List DocumentWrite → List DocumentWrite
put_before (Ok (Some w)) ws = w ∷ ws
put_before outcome ws = ws

-- the writes that are appended, in order
abbrev pub writes_in : List DocumentOutcome → List DocumentWrite
writes_in [] = []
writes_in (o ∷ os) = put_before o (writes_in os)

-- the writes that one document makes, where it is not refused
abbrev pub writes_alone : DocumentOutcome → Result (List DocumentWrite) WriteFault
writes_alone (Ok w) = Ok (put_before (Ok w) [])
writes_alone (Err fault) = Err fault

-- ---- what is told of them

-- what is told of a document: its `_id` and its `_rev`, where these are texts, and what became of it
pub record Told : Type 0 where
  pub id : Option (List ℕ)
  pub rev : Option (List ℕ)
  pub outcome : Outcome

-- what is told of a write by the revision that it makes: each write that is appended makes one
abbrev pub outcome_of_revision : Option Revision → Outcome
outcome_of_revision None = Refused BadHistory
outcome_of_revision (Some r) = Made r

-- a revision was made, was known already, or the document was refused
abbrev pub outcome_told : DocumentOutcome → Outcome
outcome_told (Ok None) = Known
outcome_told (Ok (Some w)) = outcome_of_revision (new_revision w)
outcome_told (Err fault) = Refused fault

-- one result: the id and the revision that the document names, and its outcome
abbrev pub result_told : Value → DocumentOutcome → Told
result_told document outcome =
    record { id = member_text (codes "_id") document; rev = member_text (codes "_rev") document; outcome = outcome_told outcome }

-- the results of documents, in their order
abbrev pub all_told : List Value → List DocumentOutcome → List Told
all_told [] os = []
all_told (v ∷ vs) [] = []
all_told (v ∷ vs) (o ∷ os) = result_told v o ∷ all_told vs os
