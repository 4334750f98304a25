-- Who may write what is asked, and the answer where a write that has leave is accepted.
-- CouchDB manual, api/document/common (201 and 200) and api/database/bulk-api; that each document of several is judged by what those in front of it left is this server's own.
use Rattle.std.specs.Prelude.{◌≡◌, ℕ, Bool, List, [], ◌∷◌, ◌++◌, Option, Some, None, Ok}
use Rattle.std.specs.FinMap.{get}
use Rattle.auth.specs.Callers.{Configuration, Identity}
use Rattle.couch_http.specs.Message.{Message}
use Rattle.couch_json.specs.Value.{Value, array, object}
use Rattle.couch_json.specs.View.{items_of}
use Rattle.policy.specs.Verdict.{verdict}
use Rattle.policy.specs.declared.action.Action.TheVariants.{WriteDocument}
use Rattle.store.specs.Contents.{Contents}
use Rattle.store.specs.Database.{Database, DocumentWrite, history_at}
use Rattle.tree.specs.History.{ancestors_of_parent}
use Rattle.tree.specs.Revision.{Revision}
use Rattle.write.specs.Admission.{revision_after, write_at}
use Rattle.write.specs.Bulk.{DocumentOutcome, Histories, after, all_told, outcomes, put_before, writes_in}
use Rattle.write.specs.Denials.{EditHasLeave}
use Rattle.write.specs.Document.{id_in}
use Rattle.write.specs.Settling.{after_all}
use Rattle.write.specs.Terms.{Terms, terms_in}
use Rattle.api.specs.Asking.{asker, json_body, method_named, plain}
use Rattle.api.specs.Bulk.{bulk_in}
use Rattle.api.specs.Paths.{database_name_in, document_id_in}
use Rattle.api.specs.Queries.{revision_query}
use Rattle.api.specs.Routing.{page_of}
use Rattle.api.specs.declared.method.RequestMethod.{RequestMethod}
use Rattle.api.specs.declared.method.RequestMethod.TheVariants.{Post}
use Rattle.api.specs.declared.page.Page.{Page}
use Rattle.api.specs.declared.page.Page.TheVariants.{BulkDocuments, Document}
use Rattle.node.specs.Answer.{Outcome, inside}
use Rattle.node.specs.Bulk.{element_list, made_members}
use Rattle.node.specs.Denials.{WritesBy}
use Rattle.node.specs.Work.{appended}

-- the request asks for this page by this method, of a known caller, and the path leads into a database that is there and in which this
-- caller may write documents
pub record MayWrite (c : Configuration) (databases : Contents) (m : Message) (page : Page) (method : RequestMethod) : Type 0 where
  pub caller : Identity
  pub name : List ℕ
  pub db : Database
  pub known : asker c m ≡ Ok caller
  pub leads : page_of m.path ≡ Some page
  pub by : method_named m.method ≡ Some method
  pub own : database_name_in m.path ≡ Some name
  pub there : get databases name ≡ Some db
  pub member : verdict WriteDocument caller db.security ≡ None

-- the answer of a request in that database which appends these writes
abbrev pub appending : ℕ → Value → List ℕ → List DocumentWrite → Outcome
appending status value name ws = record { status = status; value = value; change = inside name (appended ws) }

-- ---- one document

-- the edit of the document that the path leads to has leave, and there is a further revision for it to make
pub record EditMayBeMade (c : Configuration) (databases : Contents) (m : Message) (method : RequestMethod) : Type 0 where
  pub place : MayWrite c databases m Document method
  pub id : List ℕ
  pub query : Option Revision
  pub document : Value
  pub rev : Revision
  pub path : document_id_in m.path ≡ Some id
  pub named : revision_query m.query ≡ Some query
  pub writes : WritesBy (Some method) m query document
  pub leave : EditHasLeave (terms_in place.caller place.name place.db) id (history_at place.db id) query document
  pub makes : revision_after leave.sent leave.parent ≡ Some rev

-- its write, which makes that revision
abbrev pub edit_made : {c : Configuration} {databases : Contents} {m : Message} {method : RequestMethod} → EditMayBeMade c databases m method → DocumentWrite
edit_made edit = write_at edit.id (edit.rev ∷ ancestors_of_parent (history_at edit.place.db edit.id) edit.leave.parent) edit.leave.sent

-- the answer that it is accepted, of this status: that write is appended, and the reply has the id and the revision
abbrev pub edit_answer : {c : Configuration} {databases : Contents} {m : Message} {method : RequestMethod} → ℕ → EditMayBeMade c databases m method → Outcome
edit_answer status edit = appending status (object (made_members (Some edit.id) edit.rev)) edit.place.name (edit_made edit ∷ [])

-- ---- several documents

-- the body asks to write several documents together, as new edits or not: this one, which has an id, between those in front of it and those
-- behind it
pub record IsAmong (c : Configuration) (databases : Contents) (m : Message) (new_edits : Bool) : Type 0 where
  pub place : MayWrite c databases m BulkDocuments Post
  pub value : Value
  pub front : List Value
  pub document : Value
  pub back : List Value
  pub id : List ℕ
  pub query : plain m ≡ Ok tt
  pub body : json_body m ≡ Ok value
  pub asks : bulk_in value ≡ Some (record { new_edits = new_edits; documents = front ++ document ∷ back })
  pub named : id_in document ≡ Some id

module _ {c : Configuration} {databases : Contents} {m : Message} {new_edits : Bool} (among : IsAmong c databases m new_edits) where
  -- the terms on which all of them are written
  abbrev pub shared_terms : Terms
  shared_terms = terms_in among.place.caller among.place.name among.place.db

  -- what becomes of those in front of it
  abbrev pub front_outcomes : List DocumentOutcome
  front_outcomes = outcomes shared_terms new_edits (history_at among.place.db) among.front

  -- the histories that these left, by which it is judged
  abbrev pub histories_left : Histories
  histories_left = after_all (history_at among.place.db) front_outcomes

  -- what becomes of those behind it, once this has become of it
  abbrev pub back_outcomes : DocumentOutcome → List DocumentOutcome
  back_outcomes outcome = outcomes shared_terms new_edits (after histories_left outcome) among.back

  -- The answer where this becomes of it and the reply lists these elements for it: its write is appended between those of the others, and its
  -- elements have their place between theirs.
  abbrev pub answer_with : DocumentOutcome → List Value → Outcome
  answer_with outcome elements =
      appending 201
      (array (items_of (
      element_list among.place.caller new_edits (all_told among.front front_outcomes)
      ++ elements
      ++ element_list among.place.caller new_edits (all_told among.back (back_outcomes outcome)))))
      among.place.name
      (writes_in front_outcomes ++ put_before outcome [] ++ writes_in (back_outcomes outcome))
