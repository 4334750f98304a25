-- Each denial names the first rule that refuses, and is told to the caller as it should be.
use Rattle.std.proofs.Common.{◌≡◌, ◌≢◌, cond, arith, ℕ, List, Bool, true, false, is_none, option_map, Option, Some, None, Result, Ok, Err, inl, inr, refl, ap, sym, ◌∙◌, subst}
use Rattle.std.specs.Prelude.{IsSome, is_some, ⊤, map}
use Rattle.std.specs.FinMap.{get}
use Rattle.auth.specs.Callers.{Configuration, Identity, caller_of}
use Rattle.auth.specs.declared.auth_fault.AuthFault.{AuthFault}
use Rattle.couch_http.specs.Message.{Message}
use Rattle.couch_json.specs.Value.{Value}
use Rattle.couch_json.specs.Reading.{reading}
use Rattle.couch_json.specs.declared.fault.JsonFault.{JsonFault}
use Rattle.policy.specs.Security.{closed_security}
use Rattle.policy.specs.Verdict.{verdict}
use Rattle.policy.specs.declared.action.Action.{Action}
use Rattle.policy.specs.declared.action.Action.TheVariants.{Administer, Read, WriteSecurity, WriteDocument}
use Rattle.policy.specs.declared.rule.Rule.{Rule}
use Rattle.policy.specs.declared.rule.Rule.TheVariants.{ProxyToken}
use Rattle.read.specs.declared.fault.ReadFault.{ReadFault}
use Rattle.read.specs.declared.fault.ReadFault.TheVariants as read
use Rattle.read.specs.Local.{local_document}
use Rattle.store.specs.Contents.{Contents, local_at}
use Rattle.store.specs.Database.{Database, DocumentWrite, history_at}
use Rattle.store.specs.declared.local_document.LocalDocument.{LocalDocument}
use Rattle.tree.specs.Revision.{Revision}
use Rattle.write.specs.Admission.{admission, given, unnamed_deletion}
use Rattle.write.specs.Bulk.{DocumentOutcome}
use Rattle.write.specs.IndexWrites.{index_admission}
use Rattle.write.specs.LocalWrites.{local_body, local_outcome, local_rev, names_stored, next_number}
use Rattle.write.specs.Planning.{security_outcome}
use Rattle.write.specs.Terms.{Terms, terms_in}
use Rattle.write.specs.declared.fault.WriteFault.{WriteFault}
use Rattle.write.specs.declared.fault.WriteFault.TheVariants as write
use Rattle.write.proofs.Outcomes.{edit_denied, index_denied, unnamed_denied}
use Rattle.api.specs.Asking.{asker, json_body, denial, identity_or_refusal, method_named, pair_of, plain, value_or_refusal}
use Rattle.api.specs.Bulk.{bulk_in}
use Rattle.api.specs.Listings.{changes_query, requested_differences, listing_query}
use Rattle.api.specs.Paths.{database_name_in, document_id_in, index_name_in_path, local_id_in}
use Rattle.api.specs.Queries.{document_query, revision_query}
use Rattle.api.specs.Refusals.{name_of_rule, and_then, rule_of, status_of, there_or, true_or}
use Rattle.api.specs.Routing.{page_of}
use Rattle.api.specs.Views.{view_query}
use Rattle.find.specs.Indexes.{IndexAsked, index_in}
use Rattle.find.specs.Queries.{query_in}
use Rattle.find.proofs.Indexing.{index_in-design}
use Rattle.read.specs.Views.{view_listing}
use Rattle.api.specs.declared.method.RequestMethod.{RequestMethod}
use Rattle.api.specs.declared.method.RequestMethod.TheVariants.{Get, Put, Post, Delete}
use Rattle.api.specs.declared.page.Page.{Page}
use Rattle.api.specs.declared.page.Page.TheVariants.{Welcome, AllDatabases, Database as DatabasePage, Security, BulkDocuments, AllDocuments, Changes, Differences, Find, Index, View, Document, LocalDocument as LocalDocumentPage}
use Rattle.api.specs.declared.refusal.Refusal.{Refusal}
use Rattle.api.specs.declared.refusal.Refusal.TheVariants.{Unauthorized, Forbidden, Path, Method, DatabaseName, NoDatabase, Exists, Id, Query, Syntax, Body, BadDocument, BadHistory, Conflict, Generation, Missing, Deleted}
use Rattle.node.specs.Answer.{Task, administration, permission, created, entry, admin_task, judgement, listed, database_name_of, task_outcome, removed, page_outcome, task_of, told, worked, work_task}
use Rattle.node.proofs.Tasks.{named, same, there, went}
use Rattle.node.specs.Denials.{IsAskedAt, IsDenied, IsDue, IsSecurityOf, IsOwn, IsReached, IsToldRule, IsUnvouched, MayDeny, WritesBy, rule_denied_by}
use Rattle.node.specs.Work.{Work, read_work}
use Rattle.node.specs.Works.{change_list, database_read, difference_list, document_deleted, document_finds, document_list, document_read, document_written, documents_written, deletion, deletion_outcome, edit_asked, edit_done, refusal_of_read, index_asked_in, index_done, index_written, local_read, local_set, local_written, read_by, security_read, security_set, security_written, view_read}

-- ---- refusals of steps

-- the refusal denies by no rule, or by the rule that is due to this caller
data IsFair (a : Contents) (m : Message) (caller : Identity) (e : Refusal) : Type 0 where
  other : rule_denied_by e ≡ None → IsFair a m caller e
  rightly : (rule : Rule) → e ≡ denial caller rule → IsDue a m caller rule → IsFair a m caller e

abbrev AreFair : {A : Type 0} → Contents → Message → Identity → Result A Refusal → Type 0
AreFair a m caller r = (e : Refusal) → r ≡ Err e → IsFair a m caller e

abbrev ill : {A : Type 0} → Refusal → Result A Refusal
ill e = Err e

same_refusal : {A : Type 0} (d e : Refusal) → ill {A = A} d ≡ ill e → d ≡ e
same_refusal d e h = cc

fair_ok : {A : Type 0} (a : Contents) (m : Message) (caller : Identity) (x : A) → AreFair a m caller (Ok x)
fair_ok a m caller x e h = absurd cc

fair_other : {A : Type 0} (a : Contents) (m : Message) (caller : Identity) (d : Refusal) → rule_denied_by d ≡ None → AreFair {A = A} a m caller (Err d)
fair_other a m caller d none e h = other (ap rule_denied_by (sym (same_refusal d e h)) ∙ none)

fair_there : {A : Type 0} (a : Contents) (m : Message) (caller : Identity) (d : Refusal) (o : Option A) → rule_denied_by d ≡ None → AreFair a m caller (there_or d o)
fair_there a m caller d None none = fair_other a m caller d none
fair_there a m caller d (Some x) none = fair_ok a m caller x

fair_true : (a : Contents) (m : Message) (caller : Identity) (d : Refusal) (b : _) → rule_denied_by d ≡ None → AreFair a m caller (true_or d b)
fair_true a m caller d true none = fair_ok a m caller tt
fair_true a m caller d false none = fair_other a m caller d none

fair_next : {A B : Type 0} (a : Contents) (m : Message) (caller : Identity) (r : Result A Refusal) (go : A → Result B Refusal)
    → AreFair a m caller r → ((x : A) → r ≡ Ok x → AreFair a m caller (go x)) → AreFair a m caller (and_then r go)
fair_next a m caller (Ok x) go first then = then x refl
fair_next a m caller (Err d) go first then = λ e h. first e (ap ill (same_refusal d e h))

fair_value : (a : Contents) (m : Message) (caller : Identity) (r : Result Value JsonFault) → AreFair a m caller (value_or_refusal r)
fair_value a m caller (Ok v) = fair_ok a m caller v
fair_value a m caller (Err fault) = fair_other a m caller Syntax refl

fair_body : (a : Contents) (m : Message) (caller : Identity) → AreFair a m caller (json_body m)
fair_body a m caller = fair_value a m caller (reading m.body)

fair_plain : (a : Contents) (m : Message) (caller : Identity) → AreFair a m caller (plain m)
fair_plain a m caller = fair_true a m caller Query _ refl

fair_permission : (a : Contents) (m : Message) (caller : Identity) (o : Option Rule) → ((rule : Rule) → o ≡ Some rule → IsDue a m caller rule) → AreFair a m caller (permission caller o)
fair_permission a m caller None due = fair_ok a m caller tt
fair_permission a m caller (Some rule) due = λ e h. rightly rule (sym (same_refusal (denial caller rule) e h)) (due rule refl)

fair_administration : (a : Contents) (m : Message) (caller : Identity) → MayDeny m Administer → AreFair a m caller (administration caller)
fair_administration a m caller may =
    fair_permission a m caller (verdict Administer caller closed_security)
    (λ rule first. inl (record { action = Administer; security = closed_security; asked = may; of = refl; first = first }))

-- ---- work in a database

abbrev AreFairWorks : Contents → Message → Identity → Work → Database → Type 0
AreFairWorks a m caller work db = AreFair a m caller (work db)

fair_read : (a : Contents) (m : Message) (caller : Identity) (read : Database → Result Value Refusal) (db : Database) → AreFair a m caller (read db) → AreFair a m caller (read_work read db)
fair_read a m caller read db first = fair_next a m caller (read db) _ first (λ v is. fair_ok a m caller _)

fair_database : (a : Contents) (m : Message) (caller : Identity) (name : List ℕ) (db : Database) → AreFair a m caller (database_read m name db)
fair_database a m caller name db = fair_next a m caller (plain m) _ (fair_plain a m caller) (λ u is. fair_ok a m caller _)

fair_security : (a : Contents) (m : Message) (caller : Identity) (db : Database) → AreFair a m caller (security_read m db)
fair_security a m caller db = fair_next a m caller (plain m) _ (fair_plain a m caller) (λ u is. fair_ok a m caller _)

fair_found : (a : Contents) (m : Message) (caller : Identity) (r : Result Value ReadFault) → AreFair a m caller (refusal_of_read r)
fair_found a m caller (Ok v) = fair_ok a m caller v
fair_found a m caller (Err read.Missing) = fair_other a m caller Missing refl
fair_found a m caller (Err read.Deleted) = fair_other a m caller Deleted refl
fair_found a m caller (Err read.BadQuery) = fair_other a m caller Missing refl
fair_found a m caller (Err (read.Store fault)) = fair_other a m caller Missing refl
fair_found a m caller (Err read.Memory) = fair_other a m caller Missing refl

fair_document : (a : Contents) (m : Message) (caller : Identity) (db : Database) → AreFair a m caller (document_read m db)
fair_document a m caller db =
    fair_next a m caller (there_or Id (document_id_in m.path)) _ (fair_there a m caller Id (document_id_in m.path) refl)
    (λ id is. fair_next a m caller (there_or Query (document_query m.query)) _ (fair_there a m caller Query (document_query m.query) refl)
    (λ query asked. fair_found a m caller (read_by id query.revs query.asked db)))

fair_listing : (a : Contents) (m : Message) (caller : Identity) (db : Database) → AreFair a m caller (document_list m db)
fair_listing a m caller db = fair_next a m caller (there_or Query (listing_query m.query)) _ (fair_there a m caller Query (listing_query m.query) refl) (λ range asked. fair_ok a m caller _)

fair_changes : (a : Contents) (m : Message) (caller : Identity) (db : Database) → AreFair a m caller (change_list m db)
fair_changes a m caller db = fair_next a m caller (there_or Query (changes_query m.query)) _ (fair_there a m caller Query (changes_query m.query) refl) (λ range asked. fair_ok a m caller _)

fair_differences : (a : Contents) (m : Message) (caller : Identity) (db : Database) → AreFair a m caller (difference_list m db)
fair_differences a m caller db =
    fair_next a m caller (plain m) _ (fair_plain a m caller)
    (λ u is. fair_next a m caller (json_body m) _ (fair_body a m caller)
    (λ v said. fair_next a m caller (there_or Body (requested_differences v)) _ (fair_there a m caller Body (requested_differences v) refl) (λ asked were. fair_ok a m caller _)))

fair_set : (a : Contents) (m : Message) (caller : Identity) (r : Result Value WriteFault) → AreFair a m caller (security_set r)
fair_set a m caller (Ok v) = fair_ok a m caller _
fair_set a m caller (Err fault) = fair_other a m caller Body refl

fair_securing : (a : Contents) (m : Message) (caller : Identity) (db : Database) → AreFair a m caller (security_written m db)
fair_securing a m caller db =
    fair_next a m caller (plain m) _ (fair_plain a m caller)
    (λ u is. fair_next a m caller (json_body m) _ (fair_body a m caller) (λ v said. fair_set a m caller (security_outcome v)))

fair_edit : (a : Contents) (m : Message) (caller : Identity) (status : ℕ) (id : List ℕ) (r : Result DocumentWrite WriteFault)
    → ((rule : Rule) → r ≡ Err (write.Denied rule) → IsDue a m caller rule) → AreFair a m caller (edit_done caller status id r)
fair_edit a m caller status id (Ok w) due = fair_ok a m caller _
fair_edit a m caller status id (Err write.BadDocument) due = fair_other a m caller BadDocument refl
fair_edit a m caller status id (Err (write.Denied rule)) due = λ e h. rightly rule (sym (same_refusal (denial caller rule) e h)) (due rule refl)
fair_edit a m caller status id (Err write.BadHistory) due = fair_other a m caller BadHistory refl
fair_edit a m caller status id (Err write.Conflict) due = fair_other a m caller Conflict refl
fair_edit a m caller status id (Err write.Generation) due = fair_other a m caller Generation refl
fair_edit a m caller status id (Err (write.Store fault)) due = fair_other a m caller Conflict refl
fair_edit a m caller status id (Err write.Memory) due = fair_other a m caller Conflict refl

fair_asked : (a : Contents) (m : Message) (caller : Identity) → AreFair a m caller (edit_asked m)
fair_asked a m caller =
    fair_next a m caller (there_or Id (document_id_in m.path)) _ (fair_there a m caller Id (document_id_in m.path) refl)
    (λ id is. fair_next a m caller (there_or Query (revision_query m.query)) _ (fair_there a m caller Query (revision_query m.query) refl) (λ rev said. fair_ok a m caller (id, rev)))

-- the id and the revision that were read are those of the path and of the query
record IsAsked (m : Message) (asked : List ℕ × Option Revision) : Type 0 where
  leads : document_id_in m.path ≡ Some asked.0
  named : revision_query m.query ≡ Some asked.1

is_asked : (m : Message) (asked : List ℕ × Option Revision) → edit_asked m ≡ Ok asked → IsAsked m asked
is_asked m asked e =
    let k = went (there_or Id (document_id_in m.path)) (λ id. and_then (there_or Query (revision_query m.query)) (λ rev. Ok (id, rev))) asked e in
    let l = went (there_or Query (revision_query m.query)) (λ rev. Ok (k.first, rev)) asked k.then in
    let is = same {A = List ℕ × Option Revision} (k.first, l.first) asked l.then in
    record {
      leads = named Id (document_id_in m.path) k.first k.was ∙ ap (λ (x : List ℕ × Option Revision). Some x.0) is;
      named = named Query (revision_query m.query) l.first l.was ∙ ap (λ (x : List ℕ × Option Revision). Some x.1) is;
    }

-- the database that the path leads into, where it is there
record IsIn (a : Contents) (m : Message) (name : List ℕ) (db : Database) : Type 0 where
  own : database_name_in m.path ≡ Some name
  there : get a name ≡ Some db

-- a document is asked for by this method, in such a database, by a caller who may write documents there
record IsEdited (a : Contents) (m : Message) (caller : Identity) (name : List ℕ) (db : Database) (method : RequestMethod) : Type 0 where
  place : IsIn a m name db
  member : verdict WriteDocument caller db.security ≡ None
  page : page_of m.path ≡ Some Document
  by : method_named m.method ≡ Some method

module _ (a : Contents) (m : Message) (caller : Identity) (name : List ℕ) (db : Database) where
  edit_due : (method : RequestMethod) → IsEdited a m caller name db method → (asked : List ℕ × Option Revision) (document : Value) (rule : Rule) → edit_asked m ≡ Ok asked
      → WritesBy (Some method) m asked.1 document → admission (terms_in caller name db) db asked.0 asked.1 document ≡ Err (write.Denied rule) → IsDue a m caller rule
  edit_due method at asked document rule is writes denied = inr (inl (record {
    name = name;
    db = db;
    id = asked.0;
    query = asked.1;
    document = document;
    page = at.page;
    own = at.place.own;
    there = at.place.there;
    member = at.member;
    leads = (is_asked m asked is).leads;
    named = (is_asked m asked is).named;
    writes = subst (λ (x : Option RequestMethod). WritesBy x m asked.1 document) (sym at.by) writes;
    due = edit_denied (terms_in caller name db) asked.0 (history_at db asked.0) asked.1 document rule denied;
  }))

  fair_writing : IsEdited a m caller name db Put → AreFair a m caller (document_written caller m name db)
  fair_writing at =
      fair_next a m caller (edit_asked m) _ (fair_asked a m caller)
      (λ asked is. fair_next a m caller (json_body m) _ (fair_body a m caller)
      (λ document says. fair_edit a m caller 201 asked.0 (admission (terms_in caller name db) db asked.0 asked.1 document)
      (λ rule denied. edit_due Put at asked document rule is says denied)))

  -- a deletion that names no revision is denied by the condition on writing design documents alone
  unnamed_due : IsEdited a m caller name db Delete → (id : List ℕ) (rule : Rule) → edit_asked m ≡ Ok (id, None)
      → unnamed_deletion (terms_in caller name db) id ≡ Err (write.Denied rule) → IsDue a m caller rule
  unnamed_due at id rule is denied = inr (inr (inl (record {
    name = name;
    db = db;
    id = id;
    page = at.page;
    method = at.by;
    own = at.place.own;
    there = at.place.there;
    member = at.member;
    leads = (is_asked m (id, None) is).leads;
    named = (is_asked m (id, None) is).named;
    due = unnamed_denied (terms_in caller name db) id rule denied;
  })))

  fair_deletion : IsEdited a m caller name db Delete → (id : List ℕ) (query : Option Revision) → edit_asked m ≡ Ok (id, query)
      → AreFair a m caller (edit_done caller 200 id (deletion_outcome (terms_in caller name db) db id query))
  fair_deletion at id None is = fair_edit a m caller 200 id (unnamed_deletion (terms_in caller name db) id) (λ rule denied. unnamed_due at id rule is denied)
  fair_deletion at id (Some rev) is =
      fair_edit a m caller 200 id (admission (terms_in caller name db) db id (Some rev) deletion)
      (λ rule denied. edit_due Delete at (id, Some rev) deletion rule is (refl, refl) denied)

  fair_deleting : IsEdited a m caller name db Delete → AreFair a m caller (document_deleted caller m name db)
  fair_deleting at = fair_next a m caller (edit_asked m) _ (fair_asked a m caller) (λ asked is. fair_deletion at asked.0 asked.1 is)

fair_documents : (a : Contents) (m : Message) (caller : Identity) (name : List ℕ) (db : Database) → AreFair a m caller (documents_written caller m name db)
fair_documents a m caller name db =
    fair_next a m caller (plain m) _ (fair_plain a m caller)
    (λ u is. fair_next a m caller (json_body m) _ (fair_body a m caller)
    (λ v said. fair_next a m caller (there_or Body (bulk_in v)) _ (fair_there a m caller Body (bulk_in v) refl) (λ bulk asked. fair_ok a m caller _)))

fair_finds : (a : Contents) (m : Message) (caller : Identity) (db : Database) → AreFair a m caller (document_finds m db)
fair_finds a m caller db =
    fair_next a m caller (plain m) _ (fair_plain a m caller)
    (λ u is. fair_next a m caller (json_body m) _ (fair_body a m caller)
    (λ v said. fair_next a m caller (there_or Body (query_in v)) _ (fair_there a m caller Body (query_in v) refl) (λ query asked. fair_ok a m caller _)))

-- the request declares an index
record IsDeclared (m : Message) (asked : IndexAsked) : Type 0 where
  value : Value
  page : page_of m.path ≡ Some Index
  method : method_named m.method ≡ Some Post
  query : plain m ≡ Ok tt
  body : json_body m ≡ Ok value
  asks : index_in value ≡ Some asked

-- an index is denied as a design document alone, by the security object of its database
fair_index : (a : Contents) (m : Message) (caller : Identity) (name : List ℕ) (db : Database) (asked : IndexAsked) → IsDeclared m asked → IsIn a m name db
    → verdict WriteDocument caller db.security ≡ None → AreFair a m caller (index_asked_in caller name db asked)
fair_index a m caller name db asked declared place member = by (index_admission terms db asked.design asked.name asked.fields) refl
  where
    terms : Terms
    terms = terms_in caller name db

    due : (rule : Rule) → index_admission terms db asked.design asked.name asked.fields ≡ Err (write.Denied rule) → IsDue a m caller rule
    due rule e = inr (inr (inr (record {
      name = name;
      db = db;
      value = declared.value;
      index = asked;
      page = declared.page;
      method = declared.method;
      own = place.own;
      there = place.there;
      member = member;
      query = declared.query;
      body = declared.body;
      asks = declared.asks;
      due = index_denied terms asked.design (history_at db asked.design) asked.name asked.fields rule (index_in-design declared.value asked declared.asks) e;
    })))

    by : (r : DocumentOutcome) → index_admission terms db asked.design asked.name asked.fields ≡ r → AreFair a m caller (index_done caller asked.design asked.name r)
    by (Ok w) is = fair_ok a m caller _
    by (Err write.BadDocument) is = fair_other a m caller BadDocument refl
    by (Err (write.Denied rule)) is = λ e h. rightly rule (sym (same_refusal (denial caller rule) e h)) (due rule is)
    by (Err write.BadHistory) is = fair_other a m caller BadHistory refl
    by (Err write.Conflict) is = fair_other a m caller Conflict refl
    by (Err write.Generation) is = fair_other a m caller Generation refl
    by (Err (write.Store fault)) is = fair_other a m caller Conflict refl
    by (Err write.Memory) is = fair_other a m caller Conflict refl

fair_indexing : (a : Contents) (m : Message) (caller : Identity) (name : List ℕ) (db : Database) → (page_of m.path ≡ Some Index) × (method_named m.method ≡ Some Post) → IsIn a m name db
    → verdict WriteDocument caller db.security ≡ None → AreFair a m caller (index_written caller m name db)
fair_indexing a m caller name db for place member =
    fair_next a m caller (plain m) _ (fair_plain a m caller)
    (λ u plainly. fair_next a m caller (json_body m) _ (fair_body a m caller)
    (λ v said. fair_next a m caller (there_or Body (index_in v)) _ (fair_there a m caller Body (index_in v) refl)
    (λ asked is. fair_index a m caller name db asked
    (record { value = v; page = for.0; method = for.1; query = plainly; body = said; asks = named Body (index_in v) asked is })
    place member)))

fair_view : (a : Contents) (m : Message) (caller : Identity) (db : Database) → AreFair a m caller (view_read m db)
fair_view a m caller db =
    fair_next a m caller (there_or Id (document_id_in m.path)) _ (fair_there a m caller Id (document_id_in m.path) refl)
    (λ design is. fair_next a m caller (there_or Id (index_name_in_path m.path)) _ (fair_there a m caller Id (index_name_in_path m.path) refl)
    (λ index named. fair_next a m caller (there_or Query (view_query m.query)) _ (fair_there a m caller Query (view_query m.query) refl)
    (λ range asked. fair_found a m caller (view_listing range design index db))))

fair_local : (a : Contents) (m : Message) (caller : Identity) (db : Database) → AreFair a m caller (local_read m db)
fair_local a m caller db =
    fair_next a m caller (there_or Id (local_id_in m.path)) _ (fair_there a m caller Id (local_id_in m.path) refl)
    (λ id is. fair_next a m caller (plain m) _ (fair_plain a m caller) (λ u plain. fair_found a m caller (local_document id db)))

abbrev local_well : LocalDocument → Result LocalDocument WriteFault
local_well d = Ok d

-- no rule refuses a local document
undenied_by : (number : Option ℕ) (names : Option Bool) (body : Option Value) (rule : Rule)
    → given write.BadDocument names (λ n. given write.BadDocument body (λ b.
    cond n (given write.Generation number (λ k. local_well (record { number = k; body = b }))) (Err write.Conflict))) ≢ Err (write.Denied rule)
undenied_by number None body rule e = cc
undenied_by number (Some names) None rule e = cc
undenied_by number (Some false) (Some body) rule e = cc
undenied_by None (Some true) (Some body) rule e = cc
undenied_by (Some n) (Some true) (Some body) rule e = cc

fair_stored : (a : Contents) (m : Message) (caller : Identity) (id : List ℕ) (r : Result LocalDocument WriteFault) → ((rule : Rule) → r ≢ Err (write.Denied rule)) → AreFair a m caller (local_set caller id r)
fair_stored a m caller id (Ok d) due = fair_ok a m caller _
fair_stored a m caller id (Err write.BadDocument) due = fair_other a m caller BadDocument refl
fair_stored a m caller id (Err (write.Denied rule)) due = absurd (due rule refl)
fair_stored a m caller id (Err write.BadHistory) due = fair_other a m caller BadHistory refl
fair_stored a m caller id (Err write.Conflict) due = fair_other a m caller Conflict refl
fair_stored a m caller id (Err write.Generation) due = fair_other a m caller Generation refl
fair_stored a m caller id (Err (write.Store fault)) due = fair_other a m caller Conflict refl
fair_stored a m caller id (Err write.Memory) due = fair_other a m caller Conflict refl

fair_storing : (a : Contents) (m : Message) (caller : Identity) (db : Database) → AreFair a m caller (local_written caller m db)
fair_storing a m caller db =
    fair_next a m caller (there_or Id (local_id_in m.path)) _ (fair_there a m caller Id (local_id_in m.path) refl)
    (λ id is. fair_next a m caller (plain m) _ (fair_plain a m caller)
    (λ u plain. fair_next a m caller (json_body m) _ (fair_body a m caller)
    (λ v said. fair_stored a m caller id (local_outcome (local_at db id) id v)
    (λ rule. undenied_by (next_number (local_at db id)) (option_map (λ rev. names_stored (local_at db id) rev) (local_rev id v)) (local_body v) rule))))

-- ---- what is asked

-- the request asks for this action, under the security object of the database that its path leads into
record IsInside (a : Contents) (m : Message) (action : Action) : Type 0 where
  asked : MayDeny m action
  of : (security : Value) → IsOwn a m security → IsSecurityOf action a m security

abbrev IsFairTask : Contents → Message → Identity → Task → Type 0
IsFairTask a m caller (told value) = ⊤
IsFairTask a m caller listed = ⊤
IsFairTask a m caller (created name asked) = AreFair a m caller asked
IsFairTask a m caller (removed name asked) = AreFair a m caller asked
IsFairTask a m caller (worked action name work) =
    (database_name_in m.path ≡ Some name) × ((db : Database) → IsIn a m name db → verdict action caller db.security ≡ None → AreFair a m caller (work db)) × IsInside a m action

fair_work : (a : Contents) (m : Message) (caller : Identity) (action : Action) (w : List ℕ → Work) (task : Task) → IsInside a m action
    → ((name : List ℕ) (db : Database) → IsIn a m name db → verdict action caller db.security ≡ None → AreFair a m caller (w name db)) → work_task action m w ≡ Ok task → IsFairTask a m caller task
fair_work a m caller action w task inside all e =
    let k = went (database_name_of m) (λ name. Ok (worked action name (w name))) task e in
    subst (λ (x : Task). IsFairTask a m caller x) (same {A = Task} _ task k.then) (named DatabaseName (database_name_in m.path) k.first k.was, all k.first, inside)

fair_admin : (a : Contents) (m : Message) (caller : Identity) (t : List ℕ → Task) (task : Task) → ((name : List ℕ) → IsFairTask a m caller (t name)) → admin_task caller m t ≡ Ok task → IsFairTask a m caller task
fair_admin a m caller t task all e =
    let k = went (database_name_of m) (λ name. and_then (administration caller) (λ _. Ok (t name))) task e in
    let l = went (administration caller) (λ _. Ok (t k.first)) task k.then in
    subst (λ (x : Task). IsFairTask a m caller x) (same {A = Task} _ task l.then) (all k.first)

-- the request is for this page by this method
abbrev IsFor : Page → Option RequestMethod → Message → Type 0
IsFor page method m = (page_of m.path ≡ Some page) × (method_named m.method ≡ method)

-- so each action may deny it that these ask for
may : (page : Page) (method : Option RequestMethod) (m : Message) → IsFor page method m → (action : Action) → IsAskedAt page method action → IsReached page action m → MayDeny m action
may page method m is action asked reached =
    record { page = page; leads = is.0; asked = subst (λ (x : Option RequestMethod). IsAskedAt page x action) (sym is.1) asked; reached = reached }

fair_task : (a : Contents) (page : Page) (method : Option RequestMethod) (caller : Identity) (m : Message) (task : Task) → IsFor page method m → task_of page method caller m ≡ Ok task → IsFairTask a m caller task
fair_task a Welcome (Some Get) caller m task is e =
    let k = went (plain m) (λ _. Ok _) task e in subst (λ (x : Task). IsFairTask a m caller x) (same {A = Task} _ task k.then) tt
fair_task a AllDatabases (Some Get) caller m task is e =
    let k = went (administration caller) (λ _. and_then (plain m) (λ _. Ok listed)) task e in
    let l = went (plain m) (λ _. Ok listed) task k.then in
    subst (λ (x : Task). IsFairTask a m caller x) (same {A = Task} _ task l.then) tt
fair_task a DatabasePage (Some Get) caller m task is e = fair_work a m caller Read (λ name. read_work (database_read m name)) task (record { asked = may DatabasePage (Some Get) m is Read refl tt; of = λ security own. own }) (λ name db place member. fair_read a m caller (database_read m name) db (fair_database a m caller name db)) e
fair_task a DatabasePage (Some Put) caller m task is e = fair_admin a m caller (λ name. created name (plain m)) task (λ name. fair_plain a m caller) e
fair_task a DatabasePage (Some Delete) caller m task is e = fair_admin a m caller (λ name. removed name (plain m)) task (λ name. fair_plain a m caller) e
fair_task a Security (Some Get) caller m task is e = fair_work a m caller Read (λ name. read_work (security_read m)) task (record { asked = may Security (Some Get) m is Read refl tt; of = λ security own. own }) (λ name db place member. fair_read a m caller (security_read m) db (fair_security a m caller db)) e
fair_task a Security (Some Put) caller m task is e = fair_work a m caller WriteSecurity (λ name. security_written m) task (record { asked = may Security (Some Put) m is WriteSecurity refl tt; of = λ security own. own }) (λ name db place member. fair_securing a m caller db) e
fair_task a BulkDocuments (Some Post) caller m task is e = fair_work a m caller WriteDocument (λ name. documents_written caller m name) task (record { asked = may BulkDocuments (Some Post) m is WriteDocument refl tt; of = λ security own. own }) (λ name db place member. fair_documents a m caller name db) e
fair_task a AllDocuments (Some Get) caller m task is e = fair_work a m caller Read (λ name. read_work (document_list m)) task (record { asked = may AllDocuments (Some Get) m is Read refl tt; of = λ security own. own }) (λ name db place member. fair_read a m caller (document_list m) db (fair_listing a m caller db)) e
fair_task a Changes (Some Get) caller m task is e = fair_work a m caller Read (λ name. read_work (change_list m)) task (record { asked = may Changes (Some Get) m is Read refl tt; of = λ security own. own }) (λ name db place member. fair_read a m caller (change_list m) db (fair_changes a m caller db)) e
fair_task a Differences (Some Post) caller m task is e = fair_work a m caller Read (λ name. read_work (difference_list m)) task (record { asked = may Differences (Some Post) m is Read refl tt; of = λ security own. own }) (λ name db place member. fair_read a m caller (difference_list m) db (fair_differences a m caller db)) e
fair_task a Document (Some Get) caller m task is e = fair_work a m caller Read (λ name. read_work (document_read m)) task (record { asked = may Document (Some Get) m is Read refl tt; of = λ security own. own }) (λ name db place member. fair_read a m caller (document_read m) db (fair_document a m caller db)) e
fair_task a Document (Some Put) caller m task is e = fair_work a m caller WriteDocument (λ name. document_written caller m name) task (record { asked = may Document (Some Put) m is WriteDocument refl tt; of = λ security own. own }) (λ name db place member. fair_writing a m caller name db (record { place = place; member = member; page = is.0; by = is.1 })) e
fair_task a Document (Some Delete) caller m task is e = fair_work a m caller WriteDocument (λ name. document_deleted caller m name) task (record { asked = may Document (Some Delete) m is WriteDocument refl tt; of = λ security own. own }) (λ name db place member. fair_deleting a m caller name db (record { place = place; member = member; page = is.0; by = is.1 })) e
fair_task a Find (Some Post) caller m task is e = fair_work a m caller Read (λ name. read_work (document_finds m)) task (record { asked = may Find (Some Post) m is Read refl tt; of = λ security own. own }) (λ name db place member. fair_read a m caller (document_finds m) db (fair_finds a m caller db)) e
fair_task a Index (Some Post) caller m task is e = fair_work a m caller WriteDocument (λ name. index_written caller m name) task (record { asked = may Index (Some Post) m is WriteDocument refl tt; of = λ security own. own }) (λ name db place member. fair_indexing a m caller name db is place member) e
fair_task a View (Some Get) caller m task is e = fair_work a m caller Read (λ name. read_work (view_read m)) task (record { asked = may View (Some Get) m is Read refl tt; of = λ security own. own }) (λ name db place member. fair_read a m caller (view_read m) db (fair_view a m caller db)) e
fair_task a LocalDocumentPage (Some Get) caller m task is e = fair_work a m caller Read (λ name. read_work (local_read m)) task (record { asked = may LocalDocumentPage (Some Get) m is Read refl tt; of = λ security own. own }) (λ name db place member. fair_read a m caller (local_read m) db (fair_local a m caller db)) e
fair_task a LocalDocumentPage (Some Put) caller m task is e = fair_work a m caller Read (λ name. local_written caller m) task (record { asked = may LocalDocumentPage (Some Put) m is Read refl tt; of = λ security own. own }) (λ name db place member. fair_storing a m caller db) e
fair_task a page method caller m task is e = absurd cc

fair_named : (a : Contents) (m : Message) (caller : Identity) → AreFair a m caller (database_name_of m)
fair_named a m caller = fair_there a m caller DatabaseName (database_name_in m.path) refl

fair_work_asked : (a : Contents) (m : Message) (caller : Identity) (action : Action) (w : List ℕ → Work) → AreFair a m caller (work_task action m w)
fair_work_asked a m caller action w = fair_next a m caller (database_name_of m) _ (fair_named a m caller) (λ name is. fair_ok a m caller _)

fair_admin_asked : (a : Contents) (m : Message) (caller : Identity) (t : List ℕ → Task) → (IsSome (database_name_in m.path) → MayDeny m Administer) → AreFair a m caller (admin_task caller m t)
fair_admin_asked a m caller t may =
    fair_next a m caller (database_name_of m) _ (fair_named a m caller)
    (λ name is. fair_next a m caller (administration caller) _ (fair_administration a m caller (may (ap is_some (named DatabaseName (database_name_in m.path) name is))))
    (λ u allowed. fair_ok a m caller _))

fair_page : (a : Contents) (page : Page) (method : Option RequestMethod) (caller : Identity) (m : Message) → IsFor page method m → AreFair a m caller (task_of page method caller m)
fair_page a Welcome (Some Get) caller m for = fair_next a m caller (plain m) _ (fair_plain a m caller) (λ u is. fair_ok a m caller _)
fair_page a AllDatabases (Some Get) caller m for =
    fair_next a m caller (administration caller) _ (fair_administration a m caller (may _ _ m for Administer refl tt)) (λ u is. fair_next a m caller (plain m) _ (fair_plain a m caller) (λ v plainly. fair_ok a m caller _))
fair_page a DatabasePage (Some Get) caller m for = fair_work_asked a m caller Read _
fair_page a DatabasePage (Some Put) caller m for = fair_admin_asked a m caller _ (may _ _ m for Administer refl)
fair_page a DatabasePage (Some Delete) caller m for = fair_admin_asked a m caller _ (may _ _ m for Administer refl)
fair_page a Security (Some Get) caller m for = fair_work_asked a m caller Read _
fair_page a Security (Some Put) caller m for = fair_work_asked a m caller WriteSecurity _
fair_page a BulkDocuments (Some Post) caller m for = fair_work_asked a m caller WriteDocument _
fair_page a AllDocuments (Some Get) caller m for = fair_work_asked a m caller Read _
fair_page a Changes (Some Get) caller m for = fair_work_asked a m caller Read _
fair_page a Differences (Some Post) caller m for = fair_work_asked a m caller Read _
fair_page a Document (Some Get) caller m for = fair_work_asked a m caller Read _
fair_page a Document (Some Put) caller m for = fair_work_asked a m caller WriteDocument _
fair_page a Document (Some Delete) caller m for = fair_work_asked a m caller WriteDocument _
fair_page a Find (Some Post) caller m for = fair_work_asked a m caller Read _
fair_page a Index (Some Post) caller m for = fair_work_asked a m caller WriteDocument _
fair_page a View (Some Get) caller m for = fair_work_asked a m caller Read _
fair_page a LocalDocumentPage (Some Get) caller m for = fair_work_asked a m caller Read _
fair_page a LocalDocumentPage (Some Put) caller m for = fair_work_asked a m caller Read _
fair_page a page method caller m for = fair_other a m caller Method refl

-- ---- what comes of it

fair_entry : (a : Contents) (m : Message) (caller : Identity) (action : Action) (name : List ℕ) (o : Option Database) → IsInside a m action → database_name_in m.path ≡ Some name
    → get a name ≡ o → AreFair a m caller (entry caller action o)
fair_entry a m caller action name None inside own is = fair_other a m caller NoDatabase refl
fair_entry a m caller action name (Some db) inside own is =
    fair_next a m caller (permission caller (verdict action caller db.security)) _
    (fair_permission a m caller (verdict action caller db.security)
    (λ rule first. inl (record {
      action = action;
      security = db.security;
      asked = inside.asked;
      of = inside.of db.security (record { name = name; db = db; own = own; there = is; is = refl });
      first = first;
    })))
    (λ u allowed. fair_ok a m caller db)

-- whom the policy lets in is refused by none of its conditions
admitted : (caller : Identity) (action : Action) (o : Option Database) (db : Database) → entry caller action o ≡ Ok db → verdict action caller db.security ≡ None
admitted caller action None db e = absurd cc
admitted caller action (Some d) db e = by (verdict action caller d.security) refl e
  where
    by : (v : Option Rule) → verdict action caller d.security ≡ v → and_then (permission caller v) (λ _. Ok d) ≡ Ok db → verdict action caller db.security ≡ None
    by None is k = subst (λ (x : Database). verdict action caller x.security ≡ None) (same {A = Database} d db k) is
    by (Some rule) is k = absurd cc

fair_outcome : (a : Contents) (m : Message) (caller : Identity) (task : Task) → IsFairTask a m caller task → AreFair a m caller (task_outcome caller a task)
fair_outcome a m caller (told value) fair = fair_ok a m caller _
fair_outcome a m caller listed fair = fair_ok a m caller _
fair_outcome a m caller (created name asked) fair =
    fair_next a m caller (true_or Exists (is_none (get a name))) _ (fair_true a m caller Exists (is_none (get a name)) refl)
    (λ u is. fair_next a m caller asked _ fair (λ v may. fair_ok a m caller _))
fair_outcome a m caller (removed name asked) fair =
    fair_next a m caller (there_or NoDatabase (get a name)) _ (fair_there a m caller NoDatabase (get a name) refl)
    (λ u is. fair_next a m caller asked _ fair (λ v may. fair_ok a m caller _))
fair_outcome a m caller (worked action name work) fair =
    fair_next a m caller (entry caller action (get a name)) _ (fair_entry a m caller action name (get a name) fair.2 fair.0 refl)
    (λ db is. fair_next a m caller (work db) _ (fair.1 db (record { own = fair.0; there = there caller action (get a name) db is }) (admitted caller action (get a name) db is))
    (λ d done. fair_ok a m caller _))

fair_answer : (a : Contents) (m : Message) (caller : Identity) → AreFair a m caller (and_then (there_or Path (page_of m.path)) (λ page. page_outcome page (method_named m.method) caller a m))
fair_answer a m caller =
    fair_next a m caller (there_or Path (page_of m.path)) _ (fair_there a m caller Path (page_of m.path) refl)
    (λ page is. fair_next a m caller (task_of page (method_named m.method) caller m) _ (fair_page a page (method_named m.method) caller m (for page is))
    (λ task asked. fair_outcome a m caller task (fair_task a page (method_named m.method) caller m task (for page is) asked)))
  where
    for : (page : Page) → there_or Path (page_of m.path) ≡ Ok page → IsFor page (method_named m.method) m
    for page is = (named Path (page_of m.path) page is, refl)

-- ---- all requests

rule_of_denial : (caller : Identity) (rule : Rule) → rule_denied_by (denial caller rule) ≡ Some rule
rule_of_denial caller rule = by caller.name refl
  where
    by : (n : Option (List ℕ)) → caller.name ≡ n → rule_denied_by (denial caller rule) ≡ Some rule
    by None is = rw is refl
    by (Some name) is = rw is refl

told_rule : (c : Configuration) (a : Contents) (m : Message) (caller : Identity) (e : Refusal) (rule : Rule) → asker c m ≡ Ok caller → rule_denied_by e ≡ Some rule → IsFair a m caller e → IsDenied c a m e rule
told_rule c a m caller e rule is denies (other none) = absurd (let k : None ≡ Some rule = sym none ∙ denies in cc)
told_rule c a m caller e rule is denies (rightly first said due) =
    let k : Some first ≡ Some rule = sym (rule_of_denial caller first) ∙ ap rule_denied_by (sym said) ∙ denies in
    let same_rule : first ≡ rule = cc in
    inr (subst (λ (x : Rule). IsToldRule c a m e x) same_rule (record { caller = caller; known = is; due = due; told = said }))

unvouched : (c : Configuration) (m : Message) (r : Result Identity AuthFault) (e : Refusal) → caller_of (map pair_of m.headers) c.secret c.admins ≡ r → identity_or_refusal r ≡ Err e → IsUnvouched c m e
unvouched c m (Ok caller) e is h = absurd cc
unvouched c m (Err fault) e is h = record { fault = fault; refused = is; told = sym (same_refusal {A = Identity} (Unauthorized ProxyToken) e h) }

pub judged_denied : (c : Configuration) (a : Contents) (m : Message) (e : Refusal) (rule : Rule) → judgement c a m ≡ Err e → rule_denied_by e ≡ Some rule → IsDenied c a m e rule
judged_denied c a m e rule h denies = by (asker c m) refl h
  where
    by : (r : Result Identity Refusal) → asker c m ≡ r
        → and_then r (λ caller. and_then (there_or Path (page_of m.path)) (λ page. page_outcome page (method_named m.method) caller a m)) ≡ Err e → IsDenied c a m e rule
    by (Ok caller) is k = told_rule c a m caller e rule is denies (fair_answer a m caller e k)
    by (Err d) is k = inl (unvouched c m (caller_of (map pair_of m.headers) c.secret c.admins) e refl (is ∙ ap (λ (x : Refusal). ill x) (same_refusal d e k)))

pub denial_status : (caller : Identity) (rule : Rule) → status_of (denial caller rule) ≡ cond (is_none caller.name) 401 403
denial_status caller rule = by caller.name refl
  where
    by : (n : Option (List ℕ)) → caller.name ≡ n → status_of (denial caller rule) ≡ cond (is_none caller.name) 401 403
    by None is = rw is refl
    by (Some name) is = rw is refl

pub other_status : (e : Refusal) → rule_denied_by e ≡ None → (status_of e ≢ 401) × (status_of e ≢ 403)
other_status (Unauthorized rule) none = absurd (let k : Some rule ≡ None = none in cc)
other_status (Forbidden rule) none = absurd (let k : Some rule ≡ None = none in cc)
other_status Path none = ((λ h. omega (arith, h)), (λ h. omega (arith, h)))
other_status Method none = ((λ h. omega (arith, h)), (λ h. omega (arith, h)))
other_status DatabaseName none = ((λ h. omega (arith, h)), (λ h. omega (arith, h)))
other_status NoDatabase none = ((λ h. omega (arith, h)), (λ h. omega (arith, h)))
other_status Exists none = ((λ h. omega (arith, h)), (λ h. omega (arith, h)))
other_status Id none = ((λ h. omega (arith, h)), (λ h. omega (arith, h)))
other_status Query none = ((λ h. omega (arith, h)), (λ h. omega (arith, h)))
other_status Syntax none = ((λ h. omega (arith, h)), (λ h. omega (arith, h)))
other_status Body none = ((λ h. omega (arith, h)), (λ h. omega (arith, h)))
other_status BadDocument none = ((λ h. omega (arith, h)), (λ h. omega (arith, h)))
other_status BadHistory none = ((λ h. omega (arith, h)), (λ h. omega (arith, h)))
other_status Conflict none = ((λ h. omega (arith, h)), (λ h. omega (arith, h)))
other_status Generation none = ((λ h. omega (arith, h)), (λ h. omega (arith, h)))
other_status Missing none = ((λ h. omega (arith, h)), (λ h. omega (arith, h)))
other_status Deleted none = ((λ h. omega (arith, h)), (λ h. omega (arith, h)))

same_rule : (r s : Rule) → (Some r ≡ Some s) → r ≡ s
same_rule r s e = cc

pub rule_told : (e : Refusal) (rule : Rule) → rule_denied_by e ≡ Some rule → rule_of e ≡ Some (name_of_rule rule)
rule_told (Unauthorized r) rule denies = ap (λ (x : Rule). Some (name_of_rule x)) (same_rule r rule denies)
rule_told (Forbidden r) rule denies = ap (λ (x : Rule). Some (name_of_rule x)) (same_rule r rule denies)
rule_told Path rule denies = absurd (let k : None ≡ Some rule = denies in cc)
rule_told Method rule denies = absurd (let k : None ≡ Some rule = denies in cc)
rule_told DatabaseName rule denies = absurd (let k : None ≡ Some rule = denies in cc)
rule_told NoDatabase rule denies = absurd (let k : None ≡ Some rule = denies in cc)
rule_told Exists rule denies = absurd (let k : None ≡ Some rule = denies in cc)
rule_told Id rule denies = absurd (let k : None ≡ Some rule = denies in cc)
rule_told Query rule denies = absurd (let k : None ≡ Some rule = denies in cc)
rule_told Syntax rule denies = absurd (let k : None ≡ Some rule = denies in cc)
rule_told Body rule denies = absurd (let k : None ≡ Some rule = denies in cc)
rule_told BadDocument rule denies = absurd (let k : None ≡ Some rule = denies in cc)
rule_told BadHistory rule denies = absurd (let k : None ≡ Some rule = denies in cc)
rule_told Conflict rule denies = absurd (let k : None ≡ Some rule = denies in cc)
rule_told Generation rule denies = absurd (let k : None ≡ Some rule = denies in cc)
rule_told Missing rule denies = absurd (let k : None ≡ Some rule = denies in cc)
rule_told Deleted rule denies = absurd (let k : None ≡ Some rule = denies in cc)

-- what says of a refusal by a rule which status and which rule it has
pub ruleset denial_forms = (judged_denied, denial_status, other_status, rule_told)
