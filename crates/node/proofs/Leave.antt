-- What has leave is accepted, and what is denied by right is denied.
use Rattle.std.proofs.Common.{◌≡◌, ◌==◌, cond, length, ℕ, List, [], ◌∷◌, ◌++◌, Bool, true, false, Option, Some, None, Result, Ok, Err, inl, inr, refl, ap, sym, ◌∙◌, subst, append_assoc}
use Rattle.std.specs.Prelude.{IsSome, codes, option_and_then}
use Rattle.std.specs.FinMap.{get}
use Rattle.std.proofs.lemmas.List.{map-append}
use Rattle.auth.specs.Callers.{Configuration, Identity}
use Rattle.couch_http.specs.Message.{Message}
use Rattle.couch_json.specs.Value.{Value, array, object}
use Rattle.couch_json.specs.View.{items_of}
use Rattle.find.specs.Indexes.{IndexAsked, index_in}
use Rattle.policy.specs.Security.{closed_security}
use Rattle.policy.specs.Verdict.{verdict}
use Rattle.policy.specs.declared.action.Action.{Action}
use Rattle.policy.specs.declared.action.Action.TheVariants.{Administer, Read, WriteDesign, WriteSecurity, WriteDocument}
use Rattle.policy.specs.declared.rule.Rule.{Rule}
use Rattle.store.specs.Contents.{Contents}
use Rattle.store.specs.Database.{Database, DocumentWrite, history_at}
use Rattle.tree.specs.Revision.{Revision}
use Rattle.tree.specs.History.{HistoryContent, ancestors_of_parent, placement}
use Rattle.tree.specs.Write.{head}
use Rattle.tree.specs.declared.placement.Placed.TheVariants.{Added}
use Rattle.tree.specs.declared.placement.TreeFault.TheVariants.{BadPath}
use Rattle.write.specs.Admission.{admission, design_refusal, new_revision, revision_after, unless_denied, write_at}
use Rattle.write.specs.Bulk.{DocumentOutcome, Histories, Told, after, all_told, outcome_in, outcome_of_revision, outcomes, put_before, result_told, writes_in}
use Rattle.write.specs.Denials.{EditHasLeave, EditIsDueTo, IsDesignDenial, ReplicationHasLeave, ReplicationIsDueTo}
use Rattle.write.specs.Document.{id_in_bulk, id_in, is_bulk_id, member_text}
use Rattle.write.specs.IndexWrites.{has_index, index_edit}
use Rattle.write.specs.Settling.{after_all}
use Rattle.write.specs.Terms.{Terms, terms_in}
use Rattle.write.specs.declared.fault.WriteFault.{WriteFault}
use Rattle.write.specs.declared.fault.WriteFault.TheVariants as write
use Rattle.write.specs.declared.planned.Outcome.TheVariants.{Made, Refused}
use Rattle.write.proofs.Leave.{edit_appended, edit_appended_together, edit_due, edit_due_together, in_order, replication_appended_together, replication_due_together, unnamed_due}
use Rattle.api.specs.Asking.{asker, json_body, denial, identity_or_refusal, method_named, plain}
use Rattle.api.specs.Bulk.{Bulk, bulk_in}
use Rattle.api.specs.Paths.{database_name_in, document_id_in}
use Rattle.api.specs.Queries.{revision_query}
use Rattle.api.specs.Refusals.{and_then, there_or}
use Rattle.api.specs.Routing.{page_of}
use Rattle.api.specs.declared.method.RequestMethod.{RequestMethod}
use Rattle.api.specs.declared.method.RequestMethod.TheVariants.{Get, Put, Post, Delete}
use Rattle.api.specs.declared.page.Page.{Page}
use Rattle.api.specs.declared.page.Page.TheVariants.{AllDatabases, Database as DatabasePage, Security, BulkDocuments, AllDocuments, Changes, Differences, Find, Index, View, Document, LocalDocument as LocalDocumentPage}
use Rattle.api.specs.declared.refusal.Refusal.{Refusal}
use Rattle.api.specs.declared.refusal.Refusal.TheVariants.{Path, DatabaseName, Id, Query, Body}
use Rattle.node.specs.Answer.{Task, listed, admin_task, administration, answer, entry, judgement, outcome_in_database as outcome_of_work, page_outcome, permission, settlement, task_outcome, work_task, worked}
use Rattle.node.specs.Bulk.{bulk_reply, edit_listed, edit_members, element_list, failed_members, failure_listed, failures_listed, if_failed, made_members}
use Rattle.node.specs.Denials.{IsAskedAt, IsDenied, IsDue, IsSecurityOf, IsOwn, IsReached, WritesBy}
use Rattle.node.specs.Leave.{EditMayBeMade, IsAmong, answer_with, appending, back_outcomes, edit_answer, edit_made, front_outcomes, histories_left, shared_terms}
use Rattle.node.specs.Work.{Work, read_work}
use Rattle.node.specs.Works.{bulk_written, change_list, database_read, deletion, deletion_outcome, difference_list, document_deleted, document_finds, document_list, document_read, document_written, documents_written, edit_asked, edit_done, index_asked_in, index_done, index_written, local_read, local_written, security_read, security_written, view_read}

abbrev ill : {A : Type 0} → Refusal → Result A Refusal
ill e = Err e

-- ---- into a database

module _ (a : Contents) (m : Message) (caller : Identity) where
  -- the conditions of an action deny work in a database before it begins
  work_denied : (action : Action) (w : List ℕ → Work) (security : Value) (rule : Rule) → IsOwn a m security → verdict action caller security ≡ Some rule
      → and_then (work_task action m w) (task_outcome caller a) ≡ Err (denial caller rule)
  work_denied action w security rule own first =
      ap (λ (o : Option (List ℕ)). and_then (and_then (there_or DatabaseName o) (λ name. Ok (worked action name (w name)))) (task_outcome caller a)) own.own
      ∙ ap (λ (o : Option Database). and_then (entry caller action o) (λ db. and_then (w own.name db) (λ d. Ok (outcome_of_work own.name d)))) own.there
      ∙ ap (λ (o : Option Rule). and_then (and_then (permission caller o) (λ _. Ok own.db)) (λ db. and_then (w own.name db) (λ d. Ok (outcome_of_work own.name d))))
      (sym (ap (verdict action caller) own.is) ∙ first)

  -- what they don't deny comes to the work
  work_begun : (action : Action) (w : List ℕ → Work) (name : List ℕ) (db : Database) → database_name_in m.path ≡ Some name → get a name ≡ Some db
      → verdict action caller db.security ≡ None → and_then (work_task action m w) (task_outcome caller a) ≡ and_then (w name db) (λ d. Ok (outcome_of_work name d))
  work_begun action w name db own there allowed =
      ap (λ (o : Option (List ℕ)). and_then (and_then (there_or DatabaseName o) (λ n. Ok (worked action n (w n)))) (task_outcome caller a)) own
      ∙ ap (λ (o : Option Database). and_then (entry caller action o) (λ d. and_then (w name d) (λ e. Ok (outcome_of_work name e)))) there
      ∙ ap (λ (o : Option Rule). and_then (and_then (permission caller o) (λ _. Ok db)) (λ d. and_then (w name d) (λ e. Ok (outcome_of_work name e)))) allowed

  -- who may not administer is denied so, once a database is named
  admin_denied : (t : List ℕ → Task) (rule : Rule) → IsSome (database_name_in m.path) → verdict Administer caller closed_security ≡ Some rule
      → and_then (admin_task caller m t) (task_outcome caller a) ≡ Err (denial caller rule)
  admin_denied t rule there first = by (database_name_in m.path) there
    where
      by : (o : Option (List ℕ)) → IsSome o
          → and_then (and_then (there_or DatabaseName o) (λ name. and_then (administration caller) (λ _. Ok (t name)))) (task_outcome caller a) ≡ Err (denial caller rule)
      by None none = absurd cc
      by (Some name) is = ap (λ (v : Option Rule). and_then (and_then (permission caller v) (λ _. Ok (t name))) (task_outcome caller a)) first

-- ---- by the conditions of an action

module _ (a : Contents) (m : Message) (caller : Identity) (action : Action) (security : Value) (rule : Rule) (of : IsSecurityOf action a m security) (first : verdict action caller security ≡ Some rule) where
  by_work : (asked : Action) (w : List ℕ → Work) → action ≡ asked → (IsSecurityOf asked a m security → IsOwn a m security) → and_then (work_task asked m w) (task_outcome caller a) ≡ Err (denial caller rule)
  by_work asked w is own =
      work_denied a m caller asked w security rule (own (subst (λ (x : Action). IsSecurityOf x a m security) is of)) (subst (λ (x : Action). verdict x caller security ≡ Some rule) is first)

  administers : action ≡ Administer → verdict Administer caller closed_security ≡ Some rule
  administers is =
      let closed : security ≡ closed_security = subst (λ (x : Action). IsSecurityOf x a m security) is of in
      sym (ap (verdict Administer caller) closed) ∙ subst (λ (x : Action). verdict x caller security ≡ Some rule) is first

  by_admin : (t : List ℕ → Task) → action ≡ Administer → IsReached DatabasePage action m → and_then (admin_task caller m t) (task_outcome caller a) ≡ Err (denial caller rule)
  by_admin t is reached = admin_denied a m caller t rule (subst (λ (x : Action). IsReached DatabasePage x m) is reached) (administers is)

  page_denied : (page : Page) (method : Option RequestMethod) → IsAskedAt page method action → IsReached page action m → page_outcome page method caller a m ≡ Err (denial caller rule)
  page_denied AllDatabases (Some Get) is reached = ap (λ (v : Option Rule). and_then (and_then (permission caller v) (λ _. and_then (plain m) (λ _. Ok listed))) (task_outcome caller a)) (administers is)
  page_denied DatabasePage (Some Get) is reached = by_work Read (λ name. read_work (database_read m name)) is (λ own. own)
  page_denied DatabasePage (Some Put) is reached = by_admin _ is reached
  page_denied DatabasePage (Some Delete) is reached = by_admin _ is reached
  page_denied Security (Some Get) is reached = by_work Read (λ name. read_work (security_read m)) is (λ own. own)
  page_denied Security (Some Put) is reached = by_work WriteSecurity (λ name. security_written m) is (λ own. own)
  page_denied BulkDocuments (Some Post) is reached = by_work WriteDocument (λ name. documents_written caller m name) is (λ own. own)
  page_denied AllDocuments (Some Get) is reached = by_work Read (λ name. read_work (document_list m)) is (λ own. own)
  page_denied Changes (Some Get) is reached = by_work Read (λ name. read_work (change_list m)) is (λ own. own)
  page_denied Differences (Some Post) is reached = by_work Read (λ name. read_work (difference_list m)) is (λ own. own)
  page_denied Document (Some Get) is reached = by_work Read (λ name. read_work (document_read m)) is (λ own. own)
  page_denied Document (Some Put) is reached = by_work WriteDocument (λ name. document_written caller m name) is (λ own. own)
  page_denied Document (Some Delete) is reached = by_work WriteDocument (λ name. document_deleted caller m name) is (λ own. own)
  page_denied Find (Some Post) is reached = by_work Read (λ name. read_work (document_finds m)) is (λ own. own)
  page_denied Index (Some Post) is reached = by_work WriteDocument (λ name. index_written caller m name) is (λ own. own)
  page_denied View (Some Get) is reached = by_work Read (λ name. read_work (view_read m)) is (λ own. own)
  page_denied LocalDocumentPage (Some Get) is reached = by_work Read (λ name. read_work (local_read m)) is (λ own. own)
  page_denied LocalDocumentPage (Some Put) is reached = by_work Read (λ name. local_written caller m) is (λ own. own)
  page_denied page method is reached = absurd is

-- ---- by an edit

refused_by : (terms : Terms) (id : List ℕ) (rule : Rule) → IsDesignDenial terms id rule → design_refusal terms id ≡ Some rule
refused_by terms id rule due = ap (λ b. cond b (verdict WriteDesign terms.caller terms.security) None) due.design ∙ due.first

module _ (a : Contents) (m : Message) (caller : Identity) (name : List ℕ) (db : Database) (own : database_name_in m.path ≡ Some name) (there : get a name ≡ Some db) (member : verdict WriteDocument caller db.security ≡ None) where
  asked_is : (id : List ℕ) (query : Option Revision) → document_id_in m.path ≡ Some id → revision_query m.query ≡ Some query → edit_asked m ≡ Ok (id, query)
  asked_is id query leads named =
      ap (λ (o : Option (List ℕ)). and_then (there_or Id o) (λ i. and_then (there_or Query (revision_query m.query)) (λ rev. Ok (i, rev)))) leads
      ∙ ap (λ (o : Option (Option Revision)). and_then (there_or Query o) (λ rev. Ok (id, rev))) named

  -- a PUT comes to the edit that its body says
  put_is : (id : List ℕ) (query : Option Revision) (document : Value) → document_id_in m.path ≡ Some id → revision_query m.query ≡ Some query → json_body m ≡ Ok document
      → page_outcome Document (Some Put) caller a m ≡ and_then (edit_done caller 201 id (admission (terms_in caller name db) db id query document)) (λ d. Ok (outcome_of_work name d))
  put_is id query document leads named body =
      work_begun a m caller WriteDocument (λ n. document_written caller m n) name db own there member
      ∙ ap (λ (r : Result (List ℕ × Option Revision) Refusal). and_then (and_then r (λ asked. and_then (json_body m) (λ v. edit_done caller 201 asked.0 (admission (terms_in caller name db) db asked.0 asked.1 v)))) (λ d. Ok (outcome_of_work name d)))
      (asked_is id query leads named)
      ∙ ap (λ (r : Result Value Refusal). and_then (and_then r (λ v. edit_done caller 201 id (admission (terms_in caller name db) db id query v))) (λ d. Ok (outcome_of_work name d))) body

  -- a DELETE comes to the deletion of what its query names
  deletion_is : (id : List ℕ) (query : Option Revision) → document_id_in m.path ≡ Some id → revision_query m.query ≡ Some query
      → page_outcome Document (Some Delete) caller a m ≡ and_then (edit_done caller 200 id (deletion_outcome (terms_in caller name db) db id query)) (λ d. Ok (outcome_of_work name d))
  deletion_is id query leads named =
      work_begun a m caller WriteDocument (λ n. document_deleted caller m n) name db own there member
      ∙ ap (λ (r : Result (List ℕ × Option Revision) Refusal). and_then (and_then r (λ asked. edit_done caller 200 asked.0 (deletion_outcome (terms_in caller name db) db asked.0 asked.1))) (λ d. Ok (outcome_of_work name d)))
      (asked_is id query leads named)

  -- the deletion of a revision is the edit that has no members but the mark
  deletion_names : (id : List ℕ) (query : Option Revision) (document : Value) → IsSome query → document ≡ deletion
      → deletion_outcome (terms_in caller name db) db id query ≡ admission (terms_in caller name db) db id query document
  deletion_names id None document none is = absurd cc
  deletion_names id (Some rev) document some is = ap (admission (terms_in caller name db) db id (Some rev)) (sym is)

  done_denied : (status : ℕ) (id : List ℕ) (r : Result DocumentWrite WriteFault) (rule : Rule) → r ≡ Err (write.Denied rule)
      → and_then (edit_done caller status id r) (λ d. Ok (outcome_of_work name d)) ≡ Err (denial caller rule)
  done_denied status id r rule is = ap (λ (x : Result DocumentWrite WriteFault). and_then (edit_done caller status id x) (λ d. Ok (outcome_of_work name d))) is

  edit_denied_so : (mm : Option RequestMethod) (id : List ℕ) (query : Option Revision) (document : Value) (rule : Rule) → document_id_in m.path ≡ Some id → revision_query m.query ≡ Some query
      → WritesBy mm m query document → EditIsDueTo (terms_in caller name db) id (history_at db id) query document rule → page_outcome Document mm caller a m ≡ Err (denial caller rule)
  edit_denied_so (Some Put) id query document rule leads named writes due =
      put_is id query document leads named writes ∙ done_denied 201 id _ rule (edit_due (terms_in caller name db) id (history_at db id) query document rule due)
  edit_denied_so (Some Delete) id query document rule leads named writes due =
      deletion_is id query leads named
      ∙ done_denied 200 id _ rule (deletion_names id query document writes.0 writes.1 ∙ edit_due (terms_in caller name db) id (history_at db id) query document rule due)
  edit_denied_so mm id query document rule leads named writes due = absurd writes

  deletion_denied_so : (id : List ℕ) (rule : Rule) → document_id_in m.path ≡ Some id → revision_query m.query ≡ Some None → IsDesignDenial (terms_in caller name db) id rule
      → page_outcome Document (Some Delete) caller a m ≡ Err (denial caller rule)
  deletion_denied_so id rule leads named due = deletion_is id None leads named ∙ done_denied 200 id _ rule (unnamed_due (terms_in caller name db) id rule due)

  index_denied_so : (value : Value) (index : IndexAsked) (rule : Rule) → plain m ≡ Ok tt → json_body m ≡ Ok value → index_in value ≡ Some index
      → IsDesignDenial (terms_in caller name db) index.design rule → page_outcome Index (Some Post) caller a m ≡ Err (denial caller rule)
  index_denied_so value index rule plainly body asks due =
      work_begun a m caller WriteDocument (λ n. index_written caller m n) name db own there member
      ∙ ap (λ (r : Result (Unit {0}) Refusal). and_then (and_then r (λ _. and_then (json_body m) (λ v. and_then (there_or Body (index_in v)) (λ asked. index_asked_in caller name db asked)))) (λ d. Ok (outcome_of_work name d))) plainly
      ∙ ap (λ (r : Result Value Refusal). and_then (and_then r (λ v. and_then (there_or Body (index_in v)) (λ asked. index_asked_in caller name db asked))) (λ d. Ok (outcome_of_work name d))) body
      ∙ ap (λ (o : Option IndexAsked). and_then (and_then (there_or Body o) (λ asked. index_asked_in caller name db asked)) (λ d. Ok (outcome_of_work name d))) asks
      ∙ ap (λ (r : DocumentOutcome). and_then (index_done caller index.design index.name r) (λ d. Ok (outcome_of_work name d)))
      (ap (λ (o : Option Rule). unless_denied o (cond (has_index (history_at db index.design) index.name index.fields) (Ok None) (index_edit (terms_in caller name db) index.design (history_at db index.design) index.name index.fields)))
      (refused_by (terms_in caller name db) index.design rule due))

-- ---- all denials

-- the page that was asked for decides, of a known caller
on_page : (c : Configuration) (a : Contents) (m : Message) (caller : Identity) (page : Page) → asker c m ≡ Ok caller → page_of m.path ≡ Some page
    → judgement c a m ≡ page_outcome page (method_named m.method) caller a m
on_page c a m caller page known leads =
    ap (λ (r : Result Identity Refusal). and_then r (λ who. and_then (there_or Path (page_of m.path)) (λ p. page_outcome p (method_named m.method) who a m))) known
    ∙ ap (λ (o : Option Page). and_then (there_or Path o) (λ p. page_outcome p (method_named m.method) caller a m)) leads

due_denied : (c : Configuration) (a : Contents) (m : Message) (caller : Identity) (rule : Rule) → asker c m ≡ Ok caller → IsDue a m caller rule → judgement c a m ≡ Err (denial caller rule)
due_denied c a m caller rule known (inl by) =
    on_page c a m caller by.asked.page known by.asked.leads
    ∙ page_denied a m caller by.action by.security rule by.of by.first by.asked.page (method_named m.method) by.asked.asked by.asked.reached
due_denied c a m caller rule known (inr (inl by)) =
    on_page c a m caller Document known by.page
    ∙ edit_denied_so a m caller by.name by.db by.own by.there by.member (method_named m.method) by.id by.query by.document rule by.leads by.named by.writes by.due
due_denied c a m caller rule known (inr (inr (inl by))) =
    on_page c a m caller Document known by.page ∙ ap (λ (mm : Option RequestMethod). page_outcome Document mm caller a m) by.method
    ∙ deletion_denied_so a m caller by.name by.db by.own by.there by.member by.id rule by.leads by.named by.due
due_denied c a m caller rule known (inr (inr (inr by))) =
    on_page c a m caller Index known by.page ∙ ap (λ (mm : Option RequestMethod). page_outcome Index mm caller a m) by.method
    ∙ index_denied_so a m caller by.name by.db by.own by.there by.member by.value by.index rule by.query by.body by.asks by.due

pub denied_answered : (c : Configuration) (a : Contents) (m : Message) (refusal : Refusal) (rule : Rule) → IsDenied c a m refusal rule → judgement c a m ≡ Err refusal
denied_answered c a m refusal rule (inl un) =
    ap (λ (r : Result Identity Refusal). and_then r (λ who. and_then (there_or Path (page_of m.path)) (λ p. page_outcome p (method_named m.method) who a m))) (ap identity_or_refusal un.refused)
    ∙ ap (λ (x : Refusal). ill x) (sym un.told)
denied_answered c a m refusal rule (inr told) = due_denied c a m told.caller rule told.known told.due ∙ ap (λ (x : Refusal). ill x) (sym told.told)

-- ---- accepted edits

module _ (c : Configuration) (a : Contents) (m : Message) where
  made_done : (caller : Identity) (status : ℕ) (name id : List ℕ) (path : List Revision) (rev : Revision) (r : Result DocumentWrite WriteFault) (w : DocumentWrite) → r ≡ Ok w → new_revision w ≡ Some rev
      → settlement (and_then (edit_done caller status id r) (λ d. Ok (outcome_of_work name d))) ≡ appending status (object (made_members (Some id) rev)) name (w ∷ [])
  made_done caller status name id path rev r w is makes =
      ap (λ (x : Result DocumentWrite WriteFault). settlement (and_then (edit_done caller status id x) (λ d. Ok (outcome_of_work name d)))) is
      ∙ ap (λ (n : Option Revision). appending status (object (edit_members caller (Some id) (outcome_of_revision n))) name (w ∷ [])) makes

  pub put_accepted : (edit : EditMayBeMade c a m Put) → answer c a m ≡ edit_answer 201 edit
  put_accepted edit =
      ap settlement (on_page c a m edit.place.caller Document edit.place.known edit.place.leads
      ∙ ap (λ (mm : Option RequestMethod). page_outcome Document mm edit.place.caller a m) edit.place.by
      ∙ put_is a m edit.place.caller edit.place.name edit.place.db edit.place.own edit.place.there edit.place.member edit.id edit.query edit.document edit.path edit.named edit.writes)
      ∙ made_done edit.place.caller 201 edit.place.name edit.id [] edit.rev _ (edit_made edit)
      (edit_appended (terms_in edit.place.caller edit.place.name edit.place.db) edit.id (history_at edit.place.db edit.id) edit.query edit.document edit.rev edit.leave edit.makes) refl

  pub deletion_accepted : (edit : EditMayBeMade c a m Delete) → answer c a m ≡ edit_answer 200 edit
  deletion_accepted edit =
      ap settlement (on_page c a m edit.place.caller Document edit.place.known edit.place.leads
      ∙ ap (λ (mm : Option RequestMethod). page_outcome Document mm edit.place.caller a m) edit.place.by
      ∙ deletion_is a m edit.place.caller edit.place.name edit.place.db edit.place.own edit.place.there edit.place.member edit.id edit.query edit.path edit.named)
      ∙ made_done edit.place.caller 200 edit.place.name edit.id [] edit.rev _ (edit_made edit)
      (deletion_names a m edit.place.caller edit.place.name edit.place.db edit.place.own edit.place.there edit.place.member edit.id edit.query edit.document edit.writes.0 edit.writes.1
      ∙ edit_appended (terms_in edit.place.caller edit.place.name edit.place.db) edit.id (history_at edit.place.db edit.id) edit.query edit.document edit.rev edit.leave edit.makes) refl

-- ---- several documents

put_before-append : (o : DocumentOutcome) (ws : List DocumentWrite) → put_before o ws ≡ put_before o [] ++ ws
put_before-append (Ok (Some w)) ws = refl
put_before-append (Ok None) ws = refl
put_before-append (Err fault) ws = refl

writes_in-append : (os ps : List DocumentOutcome) → writes_in (os ++ ps) ≡ writes_in os ++ writes_in ps
writes_in-append [] ps = refl
writes_in-append (o ∷ os) ps =
    ap (put_before o) (writes_in-append os ps) ∙ put_before-append o (writes_in os ++ writes_in ps)
    ∙ sym (append_assoc (put_before o []) (writes_in os) (writes_in ps)) ∙ ap (λ ws. ws ++ writes_in ps) (sym (put_before-append o (writes_in os)))

told_in_order : (terms : Terms) (new_edits : Bool) (histories : Histories) (front back : List Value) → all_told (front ++ back) (outcomes terms new_edits histories (front ++ back))
    ≡ all_told front (outcomes terms new_edits histories front)
    ++ all_told back (outcomes terms new_edits (after_all histories (outcomes terms new_edits histories front)) back)
told_in_order terms new_edits histories [] back = refl
told_in_order terms new_edits histories (v ∷ front) back =
    ap (λ ts. result_told v (outcome_in terms new_edits histories v) ∷ ts) (told_in_order terms new_edits (after histories (outcome_in terms new_edits histories v)) front back)

if_failed-append : (caller : Identity) (t : Told) (vs ws : List Value) → if_failed caller t t.outcome (vs ++ ws) ≡ if_failed caller t t.outcome vs ++ ws
if_failed-append caller t vs ws = by t.outcome
  where
    by : (o : _) → if_failed caller t o (vs ++ ws) ≡ if_failed caller t o vs ++ ws
    by (Made rev) = refl
    by (Refused fault) = refl
    by o = refl

failures-append : (caller : Identity) (ts us : List Told) → failures_listed caller (ts ++ us) ≡ failures_listed caller ts ++ failures_listed caller us
failures-append caller [] us = refl
failures-append caller (t ∷ ts) us =
    ap (if_failed caller t t.outcome) (failures-append caller ts us) ∙ if_failed-append caller t (failures_listed caller ts) (failures_listed caller us)

elements-append : (caller : Identity) (new_edits : Bool) (ts us : List Told) → element_list caller new_edits (ts ++ us) ≡ element_list caller new_edits ts ++ element_list caller new_edits us
elements-append caller true ts us = map-append (edit_listed caller) ts us
elements-append caller false ts us = failures-append caller ts us

-- what gives itself an id has it as the text of its `_id`
own_text : (document : Value) (id : List ℕ) → id_in document ≡ Some id → member_text (codes "_id") document ≡ Some id
own_text document id is = by (member_text (codes "_id") document) is
  where
    if : (good : Bool) (t : List ℕ) → cond good (Some t) None ≡ Some id → Some t ≡ Some id
    if true t e = e
    if false t e = absurd cc

    by : (o : Option (List ℕ)) → option_and_then (λ t. id_in_bulk t) o ≡ Some id → o ≡ Some id
    by None e = absurd cc
    by (Some t) e = if (is_bulk_id t) t e

-- a path that has a place makes a revision
placed_head : (h : HistoryContent) (start : ℕ) (path : List Revision) → cond (start == length path) (placement h path) (Err BadPath) ≡ Ok Added → (r : Revision) × (head path ≡ Some r)
placed_head h start [] e = absurd (by (start == 0) e)
  where
    by : (b : Bool) → cond b (Err BadPath) (Err BadPath) ≡ Ok Added → ⊥
    by true k = cc
    by false k = cc
placed_head h start (r ∷ rest) e = (r, refl)

module _ {c : Configuration} {a : Contents} {m : Message} {new_edits : Bool} (among : IsAmong c a m new_edits) where
  abbrev caller : Identity
  caller = among.place.caller

  abbrev terms : Terms
  terms = shared_terms among

  abbrev own : Histories
  own = history_at among.place.db

  abbrev left : Histories
  left = histories_left among

  -- what becomes of it by the histories that those in front of it left
  abbrev outcome : DocumentOutcome
  outcome = outcome_in terms new_edits left among.document

  -- the answer as it is defined
  bulk_is : answer c a m ≡ appending 201 (bulk_reply caller new_edits (all_told (among.front ++ among.document ∷ among.back) (outcomes terms new_edits own (among.front ++ among.document ∷ among.back)))) among.place.name (writes_in (outcomes terms new_edits own (among.front ++ among.document ∷ among.back)))
  bulk_is =
      ap settlement (on_page c a m caller BulkDocuments among.place.known among.place.leads
      ∙ ap (λ (mm : Option RequestMethod). page_outcome BulkDocuments mm caller a m) among.place.by
      ∙ work_begun a m caller WriteDocument (λ n. documents_written caller m n) among.place.name among.place.db among.place.own among.place.there among.place.member
      ∙ ap (λ (r : Result (Unit {0}) Refusal). and_then (and_then r (λ _. and_then (json_body m) (λ v. and_then (there_or Body (bulk_in v)) (λ b. bulk_written caller b among.place.name among.place.db)))) (λ d. Ok (outcome_of_work among.place.name d))) among.query
      ∙ ap (λ (r : Result Value Refusal). and_then (and_then r (λ v. and_then (there_or Body (bulk_in v)) (λ b. bulk_written caller b among.place.name among.place.db))) (λ d. Ok (outcome_of_work among.place.name d))) among.body
      ∙ ap (λ (o : Option Bulk). and_then (and_then (there_or Body o) (λ b. bulk_written caller b among.place.name among.place.db)) (λ d. Ok (outcome_of_work among.place.name d))) among.asks)

  writes_are : writes_in (outcomes terms new_edits own (among.front ++ among.document ∷ among.back)) ≡ writes_in (front_outcomes among) ++ put_before outcome [] ++ writes_in (back_outcomes among outcome)
  writes_are =
      ap writes_in (in_order terms new_edits own among.front (among.document ∷ among.back))
      ∙ writes_in-append (front_outcomes among) (outcome ∷ back_outcomes among outcome)
      ∙ ap (λ ws. writes_in (front_outcomes among) ++ ws) (put_before-append outcome (writes_in (back_outcomes among outcome)))
      ∙ sym (append_assoc (writes_in (front_outcomes among)) (put_before outcome []) (writes_in (back_outcomes among outcome)))

  elements_are : element_list caller new_edits (all_told (among.front ++ among.document ∷ among.back) (outcomes terms new_edits own (among.front ++ among.document ∷ among.back)))
      ≡ element_list caller new_edits (all_told among.front (front_outcomes among))
      ++ element_list caller new_edits (result_told among.document outcome ∷ []) ++ element_list caller new_edits (all_told among.back (back_outcomes among outcome))
  elements_are =
      ap (element_list caller new_edits) (told_in_order terms new_edits own among.front (among.document ∷ among.back))
      ∙ elements-append caller new_edits (all_told among.front (front_outcomes among)) (result_told among.document outcome ∷ all_told among.back (back_outcomes among outcome))
      ∙ ap (λ vs. element_list caller new_edits (all_told among.front (front_outcomes among)) ++ vs)
      (elements-append caller new_edits (result_told among.document outcome ∷ []) (all_told among.back (back_outcomes among outcome)))
      ∙ sym (append_assoc (element_list caller new_edits (all_told among.front (front_outcomes among))) (element_list caller new_edits (result_told among.document outcome ∷ []))
      (element_list caller new_edits (all_told among.back (back_outcomes among outcome))))

  -- by what becomes of it, and what the reply lists for it
  answer_by : (o : DocumentOutcome) (elements : List Value) → outcome ≡ o → element_list caller new_edits (result_told among.document o ∷ []) ≡ elements → answer c a m ≡ answer_with among o elements
  answer_by o elements is lists =
      bulk_is
      ∙ ap (λ (vs : List Value). appending 201 (array (items_of vs)) among.place.name (writes_in (outcomes terms new_edits own (among.front ++ among.document ∷ among.back)))) elements_are
      ∙ ap (λ (ws : List DocumentWrite). appending 201
      (array (items_of (element_list caller new_edits (all_told among.front (front_outcomes among)) ++ element_list caller new_edits (result_told among.document outcome ∷ [])
      ++ element_list caller new_edits (all_told among.back (back_outcomes among outcome))))) among.place.name ws) writes_are
      ∙ ap (λ (x : DocumentOutcome). answer_with among x (element_list caller new_edits (result_told among.document x ∷ []))) is
      ∙ ap (λ (vs : List Value). answer_with among o vs) lists

module _ (c : Configuration) (a : Contents) (m : Message) where
  pub bulk_edit_accepted : (rev : Revision) (among : IsAmong c a m true) (leave : EditHasLeave (shared_terms among) among.id (histories_left among among.id) None among.document)
      → revision_after leave.sent leave.parent ≡ Some rev
      → answer c a m ≡ answer_with among (Ok (Some (write_at among.id (rev ∷ ancestors_of_parent (histories_left among among.id) leave.parent) leave.sent))) (object (made_members (Some among.id) rev) ∷ [])
  bulk_edit_accepted rev among leave further =
      answer_by among (Ok (Some (write_at among.id (rev ∷ ancestors_of_parent (histories_left among among.id) leave.parent) leave.sent))) (object (made_members (Some among.id) rev) ∷ [])
      (edit_appended_together (shared_terms among) (histories_left among) among.id among.document among.named rev leave further)
      (ap (λ (i : Option (List ℕ)). object (made_members i rev) ∷ []) (own_text among.document among.id among.named))

  pub bulk_edit_denied : (rule : Rule) (among : IsAmong c a m true) → EditIsDueTo (shared_terms among) among.id (histories_left among among.id) None among.document rule
      → answer c a m ≡ answer_with among (Err (write.Denied rule)) (object (failed_members among.place.caller (Some among.id) (write.Denied rule)) ∷ [])
  bulk_edit_denied rule among due =
      answer_by among (Err (write.Denied rule)) (object (failed_members among.place.caller (Some among.id) (write.Denied rule)) ∷ [])
      (edit_due_together (shared_terms among) (histories_left among) among.id among.document among.named rule due)
      (ap (λ (i : Option (List ℕ)). object (failed_members among.place.caller i (write.Denied rule)) ∷ []) (own_text among.document among.id among.named))

  pub bulk_replication_accepted : (among : IsAmong c a m false) (leave : ReplicationHasLeave (shared_terms among) among.id (histories_left among among.id) among.document)
      → answer c a m ≡ answer_with among (Ok (Some (write_at among.id leave.ancestry.path leave.sent))) []
  bulk_replication_accepted among leave =
      let made = placed_head (histories_left among among.id) leave.ancestry.start leave.ancestry.path leave.placed in
      answer_by among (Ok (Some (write_at among.id leave.ancestry.path leave.sent))) []
      (replication_appended_together (shared_terms among) (histories_left among) among.id among.document among.named leave)
      (ap (λ (r : Option Revision). if_failed among.place.caller (result_told among.document (Ok (Some (write_at among.id leave.ancestry.path leave.sent)))) (outcome_of_revision r) []) made.1)

  pub bulk_replication_denied : (rule : Rule) (among : IsAmong c a m false) → ReplicationIsDueTo (shared_terms among) among.id (histories_left among among.id) among.document rule
      → answer c a m ≡ answer_with among (Err (write.Denied rule)) (failure_listed among.place.caller (Some among.id) (member_text (codes "_rev") among.document) (write.Denied rule) ∷ [])
  bulk_replication_denied rule among due =
      answer_by among (Err (write.Denied rule)) (failure_listed among.place.caller (Some among.id) (member_text (codes "_rev") among.document) (write.Denied rule) ∷ [])
      (replication_due_together (shared_terms among) (histories_left among) among.id among.document among.named rule due)
      (ap (λ (i : Option (List ℕ)). failure_listed among.place.caller i (member_text (codes "_rev") among.document) (write.Denied rule) ∷ []) (own_text among.document among.id among.named))
