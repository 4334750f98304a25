-- What each request does in its database, by the database alone.
-- CouchDB manual, api/database/common, api/database/security, api/database/bulk-api, api/database/find, api/ddoc/views, api/document/common and api/local; the order of refusals is this server's own.
use Rattle.std.specs.Prelude.{ℕ, List, [], ◌∷◌, Bool, true, if◌then◌else◌, Option, Some, None, is_some, Result, Ok, Err, codes}
use Rattle.auth.specs.Callers.{Identity}
use Rattle.couch_http.specs.Message.{Message}
use Rattle.couch_json.specs.Value.{Value, truth, text, array, object, Members, no_members, put}
use Rattle.couch_json.specs.View.{items_of}
use Rattle.find.specs.Found.{found_documents}
use Rattle.find.specs.Indexes.{IndexAsked, index_in}
use Rattle.find.specs.Queries.{query_in}
use Rattle.read.specs.Changes.{changes_in}
use Rattle.read.specs.Differences.{revision_differences}
use Rattle.read.specs.Information.{information}
use Rattle.read.specs.Listing.{document_listing}
use Rattle.read.specs.Local.{local_document}
use Rattle.read.specs.OpenRevisions.{open_revisions}
use Rattle.read.specs.Shown.{document_at}
use Rattle.read.specs.Views.{view_listing}
use Rattle.read.specs.declared.fault.ReadFault.{ReadFault}
use Rattle.read.specs.declared.fault.ReadFault.TheVariants as read
use Rattle.store.specs.Contents.{local_at, local_revision}
use Rattle.store.specs.Database.{Database, DocumentWrite, history_at}
use Rattle.store.specs.declared.local_document.LocalDocument.{LocalDocument}
use Rattle.tree.specs.Revision.{Revision}
use Rattle.write.specs.Admission.{admission, unnamed_deletion}
use Rattle.write.specs.Bulk.{DocumentOutcome, all_told, outcome_told, outcomes, put_before, writes_in}
use Rattle.write.specs.IndexWrites.{index_admission}
use Rattle.write.specs.LocalWrites.{local_outcome}
use Rattle.write.specs.Planning.{security_outcome}
use Rattle.write.specs.Terms.{Terms, terms_in}
use Rattle.write.specs.declared.fault.WriteFault.{WriteFault}
use Rattle.api.specs.Asking.{json_body, plain}
use Rattle.api.specs.Bulk.{Bulk, bulk_in}
use Rattle.node.specs.Bulk.{bulk_reply, edit_members, known_members}
use Rattle.api.specs.Listings.{changes_query, requested_differences, listing_query}
use Rattle.api.specs.Paths.{document_id_in, index_name_in_path, local_id_in}
use Rattle.api.specs.Queries.{RequestedRevisions, winner, revision, leaves, revisions, document_query, revision_query}
use Rattle.api.specs.Views.{view_query}
use Rattle.node.specs.Edits.{refusal_of_edit}
use Rattle.node.specs.Work.{Done, Work, appended, local_put, secured}
use Rattle.api.specs.Refusals.{and_then, there_or}
use Rattle.api.specs.declared.refusal.Refusal.{Refusal}
use Rattle.api.specs.declared.refusal.Refusal.TheVariants.{Id, Query, Body, Missing, Deleted}

-- ---- the database itself

-- what the database of this name says of itself
abbrev pub database_read : Message → List ℕ → Database → Result Value Refusal
database_read m name db = and_then (plain m) (λ _. Ok (information name db))

-- its security object
abbrev pub security_read : Message → Database → Result Value Refusal
security_read m db = and_then (plain m) (λ _. Ok db.security)

-- what a change replies that has nothing more to say
abbrev pub done : Value
done = object (put (codes "ok") (truth true) no_members)

-- a value is refused as a security object because it is none, and for no other cause
abbrev pub security_set : Result Value WriteFault → Result Done Refusal
security_set (Ok security) = Ok (record { status = 200; value = done; effect = secured security })
security_set (Err fault) = Err Body

-- what a PUT of the security object does
abbrev pub security_written : Message → Work
security_written m db = and_then (plain m) (λ _. and_then (json_body m) (λ value. security_set (security_outcome value)))

-- ---- reading a document

-- what reading a document gives, by which revisions are asked for, and whether with the revisions before each
abbrev pub read_by : List ℕ → Bool → RequestedRevisions → Database → Result Value ReadFault
read_by id revs winner db = document_at db id None revs
read_by id revs (revision r) db = document_at db id (Some r) revs
read_by id revs leaves db = Ok (open_revisions id (history_at db id) None revs)
read_by id revs (revisions rs) db = Ok (open_revisions id (history_at db id) (Some rs) revs)

-- a reader is told of a document that it is deleted, or missing, and nothing else
abbrev pub refusal_of_read : Result Value ReadFault → Result Value Refusal
refusal_of_read (Ok document) = Ok document
refusal_of_read (Err read.Deleted) = Err Deleted
refusal_of_read (Err fault) = Err Missing

-- what a GET of a document shows
abbrev pub document_read : Message → Database → Result Value Refusal
document_read m db =
    and_then (there_or Id (document_id_in m.path)) (λ id.
    and_then (there_or Query (document_query m.query)) (λ query. refusal_of_read (read_by id query.revs query.asked db)))

-- ---- lists

-- the documents by id, in the range that the query asks for
abbrev pub document_list : Message → Database → Result Value Refusal
document_list m db = and_then (there_or Query (listing_query m.query)) (λ range. Ok (document_listing range db))

-- the documents that changed, by sequence
abbrev pub change_list : Message → Database → Result Value Refusal
change_list m db = and_then (there_or Query (changes_query m.query)) (λ range. Ok (changes_in range db))

-- of the revisions that the body asks about, those that are not known
abbrev pub difference_list : Message → Database → Result Value Refusal
difference_list m db =
    and_then (plain m) (λ _. and_then (json_body m) (λ value. and_then (there_or Body (requested_differences value)) (λ asked. Ok (revision_differences asked db))))

-- ---- finds and views

-- documents that were found, in order, and a bookmark that says nothing
abbrev pub documents_reply : List Value → Value
documents_reply documents = object (put (codes "docs") (array (items_of documents)) (put (codes "bookmark") (text (codes "nil")) no_members))

-- the documents that the body asks for
abbrev pub document_finds : Message → Database → Result Value Refusal
document_finds m db =
    and_then (plain m) (λ _.
    and_then (json_body m) (λ value. and_then (there_or Body (query_in value)) (λ query. Ok (documents_reply (found_documents query db)))))

-- the rows of the index that the path leads to, in the range that the query asks for
abbrev pub view_read : Message → Database → Result Value Refusal
view_read m db =
    and_then (there_or Id (document_id_in m.path)) (λ design.
    and_then (there_or Id (index_name_in_path m.path)) (λ index.
    and_then (there_or Query (view_query m.query)) (λ range. refusal_of_read (view_listing range design index db))))

-- ---- indexes

-- the id of the design document, the name of the index, and whether it was created or is there already
abbrev pub index_reply : List ℕ → List ℕ → Bool → Value
index_reply id name created =
    object (put (codes "result") (text (if created then codes "created" else codes "exists")) (put (codes "name") (text name) (put (codes "id") (text id) no_members)))

-- what the declaration of an index comes to
abbrev pub index_done : Identity → List ℕ → List ℕ → DocumentOutcome → Result Done Refusal
index_done caller id name (Ok w) =
    Ok (record { status = 200; value = index_reply id name (is_some w); effect = appended (put_before (Ok w) []) })
index_done caller id name (Err fault) = Err (refusal_of_edit caller fault)

-- what a request for an index does
abbrev pub index_asked_in : Identity → List ℕ → Database → IndexAsked → Result Done Refusal
index_asked_in caller name db asked =
    index_done caller asked.design asked.name (index_admission (terms_in caller name db) db asked.design asked.name asked.fields)

-- the index that the body asks to declare
abbrev pub index_written : Identity → Message → List ℕ → Work
index_written caller m name db =
    and_then (plain m) (λ _.
    and_then (json_body m) (λ value. and_then (there_or Body (index_in value)) (λ asked. index_asked_in caller name db asked)))

-- ---- local documents

-- what a GET of a local document shows
abbrev pub local_read : Message → Database → Result Value Refusal
local_read m db =
    and_then (there_or Id (local_id_in m.path)) (λ id. and_then (plain m) (λ _. refusal_of_read (local_document id db)))

-- of a local document that was written: its id and its new revision
abbrev pub local_members : List ℕ → LocalDocument → Members
local_members id document = put (codes "rev") (text (local_revision document.number)) (known_members (Some id))

-- what the write of the local document of this id comes to
abbrev pub local_set : Identity → List ℕ → Result LocalDocument WriteFault → Result Done Refusal
local_set caller id (Ok document) = Ok (record { status = 201; value = object (local_members id document); effect = local_put id document })
local_set caller id (Err fault) = Err (refusal_of_edit caller fault)

-- what a PUT of a local document does
abbrev pub local_written : Identity → Message → Work
local_written caller m db =
    and_then (there_or Id (local_id_in m.path)) (λ id.
    and_then (plain m) (λ _. and_then (json_body m) (λ document. local_set caller id (local_outcome (local_at db id) id document))))

-- ---- writing a document

-- what an edit comes to, whose reply has this status where it is accepted: the reply says of the document of this id what became of it
abbrev pub edit_done : Identity → ℕ → List ℕ → Result DocumentWrite WriteFault → Result Done Refusal
edit_done caller status id (Ok w) =
    Ok (record { status = status; value = object (edit_members caller (Some id) (outcome_told (Ok (Some w)))); effect = appended (w ∷ []) })
edit_done caller status id (Err fault) = Err (refusal_of_edit caller fault)

-- the id of the document that is edited, and the revision that the query names, if any
abbrev pub edit_asked : Message → Result (List ℕ × Option Revision) Refusal
edit_asked m = and_then (there_or Id (document_id_in m.path)) (λ id. and_then (there_or Query (revision_query m.query)) (λ rev. Ok (id, rev)))

-- what the edit of a document comes to in the database of this name, on the terms for this caller
abbrev pub edit_in : Identity → ℕ → List ℕ → Database → List ℕ → Option Revision → Value → Result Done Refusal
edit_in caller status name db id rev document = edit_done caller status id (admission (terms_in caller name db) db id rev document)

-- what a PUT of a document does
abbrev pub document_written : Identity → Message → List ℕ → Work
document_written caller m name db =
    and_then (edit_asked m) (λ asked. and_then (json_body m) (λ document. edit_in caller 201 name db asked.0 asked.1 document))

-- the document that an edit which deletes has
abbrev pub deletion : Value
deletion = object (put (codes "_deleted") (truth true) no_members)

-- what becomes of a deletion: it is the edit that deletes the revision which the query names
abbrev pub deletion_outcome : Terms → Database → List ℕ → Option Revision → Result DocumentWrite WriteFault
deletion_outcome terms db id None = unnamed_deletion terms id
deletion_outcome terms db id (Some rev) = admission terms db id (Some rev) deletion

-- what a DELETE of a document does
abbrev pub document_deleted : Identity → Message → List ℕ → Work
document_deleted caller m name db =
    and_then (edit_asked m) (λ asked. edit_done caller 200 asked.0 (deletion_outcome (terms_in caller name db) db asked.0 asked.1))

-- ---- writing several documents

-- each document has its own outcome; what one is refused for refuses no other
abbrev pub bulk_done : Identity → Bulk → List DocumentOutcome → Done
bulk_done caller bulk os =
    record { status = 201; value = bulk_reply caller bulk.new_edits (all_told bulk.documents os); effect = appended (writes_in os) }

-- what a bulk does
abbrev pub bulk_written : Identity → Bulk → List ℕ → Work
bulk_written caller bulk name db = Ok (bulk_done caller bulk (outcomes (terms_in caller name db) bulk.new_edits (history_at db) bulk.documents))

-- what a POST of `_bulk_docs` does
abbrev pub documents_written : Identity → Message → List ℕ → Work
documents_written caller m name db =
    and_then (plain m) (λ _. and_then (json_body m) (λ value. and_then (there_or Body (bulk_in value)) (λ bulk. bulk_written caller bulk name db)))
