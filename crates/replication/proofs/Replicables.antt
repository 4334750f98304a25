-- Whatever a node answers, revisions can be written.
use Rattle.std.proofs.Common.{◌⊎◌, ◌≢◌, ◌≡◌, inl, inr, ℕ, List, [], ◌∷◌, Bool, true, false, cond, Option, Some, None, Result, Ok, Err, bytes_eq, is_none, refl, sym, ap, ◌∙◌, subst}
use Rattle.std.specs.Prelude.{⊤, is_some, option_and_then, slice_set}
use Rattle.std.specs.FinMap.{empty, get, get-empty, get-remove, insert, remove}
use Rattle.std.specs.Cmp.Lexicographic.{slice_cmp}
use Rattle.std.specs.Ordering.{eq_by_cmp, nat_cmp}
use Rattle.std.specs.List.{slice_get}
use Rattle.std.proofs.lemmas.Bool.{cases_eq, false≢true}
use Rattle.std.proofs.lemmas.Cmp.{nat_list_cmp_total}
use Rattle.auth.specs.Callers as auth
use Rattle.couch_http.specs.Message.{Message}
use Rattle.couch_http.specs.Reply.{Reply}
use Rattle.couch_json.specs.Value.{Value}
use Rattle.find.specs.Indexes.{index_in}
use Rattle.policy.specs.declared.action.Action.{Action}
use Rattle.policy.specs.declared.action.Action.TheVariants.{Read, WriteDocument, WriteSecurity}
use Rattle.policy.specs.declared.rule.Rule.{Rule}
use Rattle.tree.specs.History.{held_of, is_known, winner}
use Rattle.tree.specs.Revision.{Revision, revision_cmp}
use Rattle.tree.specs.declared.entry.Entry.{Entry}
use Rattle.tree.specs.declared.entry.Held.{Held}
use Rattle.store.specs.Contents.{Contents, local_at, new_database, with_local, with_security}
use Rattle.store.specs.Database.{Database, Document, DocumentWrite, history_at, history_in, with_all, with_one}
use Rattle.store.specs.declared.local_document.LocalDocument.{LocalDocument}
use Rattle.write.specs.Admission.{admission, design_refusal, edit_outcome, given, unless_denied}
use Rattle.write.specs.Bulk.{DocumentOutcome, Histories, after, document_outcome, outcome_in, outcomes, put_before, writes_in}
use Rattle.write.specs.Document.{id_in}
use Rattle.write.specs.IndexWrites.{index_admission, index_document}
use Rattle.write.specs.LocalWrites.{local_outcome}
use Rattle.write.specs.Planning.{security_outcome}
use Rattle.write.specs.Terms.{Terms, terms_in}
use Rattle.write.specs.declared.fault.WriteFault.{WriteFault}
use Rattle.write.specs.declared.fault.WriteFault.TheVariants as fault
use Rattle.write.proofs.Acceptances.{after_is, db_after}
use Rattle.write.proofs.Names.{as_outcome-Some, index_by_edit}
use Rattle.write.proofs.Outcomes.{edit_accepted, replicated_accepted}
use Rattle.api.specs.Asking.{asker, json_body, method_named, plain}
use Rattle.api.specs.Bulk.{bulk_in}
use Rattle.api.specs.Paths.{local_id_in}
use Rattle.api.specs.Refusals.{and_then, there_or, true_or}
use Rattle.api.specs.Routing.{page_of}
use Rattle.api.specs.declared.method.RequestMethod.{RequestMethod}
use Rattle.api.specs.declared.method.RequestMethod.TheVariants.{Delete, Get, Post, Put}
use Rattle.api.specs.declared.page.Page.{Page}
use Rattle.api.specs.declared.page.Page.TheVariants.{Welcome, AllDatabases, Database as DatabasePage, Security, BulkDocuments, AllDocuments, Changes, Differences, Find, Index, View, Document as DocumentPage, LocalDocument as LocalDocumentPage}
use Rattle.api.specs.declared.refusal.Refusal.{Refusal}
use Rattle.api.specs.declared.refusal.Refusal.TheVariants.{Body, Exists, Id, NoDatabase, Path}
use Rattle.node.specs.Answer.{Outcome, Task, admin_task, administration, change_at, created, creation, database_name_of, entry, judgement, listed, outcome_in_database as outcome_at, page_outcome, removal, removed, settlement, task_of, task_outcome, told, welcome, with_change, with_effect_at, work_task, worked}
use Rattle.node.specs.Runs.{Steps}
use Rattle.node.specs.Step.{Serving}
use Rattle.world.specs.Service.{IsHandled, alike}
use Rattle.world.proofs.Along.{along}
use Rattle.replication.proofs.Places.{set_elsewhere, set_here}
use Rattle.node.specs.Work.{Done, Effect, Work, appended, local_put, nothing, read_work, secured, value_done, with_effect}
use Rattle.node.specs.Works.{bulk_written, change_list, database_read, deletion, deletion_outcome, difference_list, document_deleted, document_finds, document_list, document_read, document_written, documents_written, done, edit_asked, edit_done, edit_in, index_asked_in, index_done, index_written, local_read, local_set, local_written, security_read, security_set, security_written, view_read}
use Rattle.node.proofs.Tasks.{same, there, went}
use Rattle.replication.specs.Courses.{GoesBy, Stage, arranges, runs}
use Rattle.replication.specs.Runs.{Run}
use Rattle.world.specs.Network.{Network}
use Rattle.replication.specs.Replicable.{HaveWritable, CoursesKeepWritable, RunsKeepWritable, StepsKeepWritable}
use Rattle.replication.specs.Sound.{AreWritable}
use Rattle.replication.proofs.Cleanly.{AreClean, IsClean, edit_clean, one_writable, replicated_clean}
use Rattle.replication.proofs.Quiet.{get_put}

-- a database that nothing was written in
new_writable : AreWritable new_database
new_writable id r e = absurd (no_known (get new_database.documents id) (none id) r e)
  where
    none : (id : List ℕ) → get new_database.documents id ≡ None
    none id = get-empty {X = Document} (slice_cmp nat_cmp) id

    bare : (r : Revision) → get {X = Entry} {R = revision_cmp} empty r ≡ None
    bare r = get-empty {X = Entry} revision_cmp r

    no_known : (o : Option Document) → o ≡ None → (r : Revision) → is_known (history_in o) r ≡ true → ⊥
    no_known None is r e = false≢true (ap (λ (x : Option Entry). is_some x) (sym (bare r)) ∙ e)
    no_known (Some x) is r e = cc

-- ---- what every answer keeps, of each database: what a clean write keeps, and what has only revisions that can be written

module _ (P : Database → Type 0) (writable : (db : Database) → P db → AreWritable db) (new : P new_database) (grows : (db : Database) (w : DocumentWrite) → P db → IsClean db w → P (with_one db w))
    (secures : (db : Database) (security : Value) → P db → P (with_security db security)) (locals : (db : Database) (id : List ℕ) (document : LocalDocument) → P db → P (with_local db id document))
  where
    abbrev AllAre : Contents → Type 0
    AllAre contents = (name : List ℕ) (db : Database) → get contents name ≡ Some db → P db

    all_stay : (ws : List DocumentWrite) (db : Database) → P db → AreClean db ws → P (with_all db ws)
    all_stay [] db h k = h
    all_stay (w ∷ ws) db h k = all_stay ws (with_one db w) (grows db w h k.0) k.1

    -- ---- effects

    -- what an effect appends is clean
    abbrev IsCleanEffect : Database → Effect → Type 0
    IsCleanEffect db nothing = ⊤
    IsCleanEffect db (appended ws) = AreClean db ws
    IsCleanEffect db (secured security) = ⊤
    IsCleanEffect db (local_put id document) = ⊤

    stays : (db : Database) (effect : Effect) → P db → IsCleanEffect db effect → P (with_effect effect db)
    stays db nothing h k = h
    stays db (appended ws) h k = all_stay ws db h k
    stays db (secured security) h k = secures db security h
    stays db (local_put id document) h k = locals db id document h

    abbrev IsCleanWork : Work → Type 0
    IsCleanWork work = (db : Database) (d : Done) → P db → work db ≡ Ok d → IsCleanEffect db d.effect

    abbrev IsCleanTask : Task → Type 0
    IsCleanTask (told value) = ⊤
    IsCleanTask listed = ⊤
    IsCleanTask (created name asked) = ⊤
    IsCleanTask (removed name asked) = ⊤
    IsCleanTask (worked action name work) = IsCleanWork work

    -- ---- one write

    clean_edited : (caller : auth.Identity) (status : ℕ) (id : List ℕ) (db : Database) (r : Result DocumentWrite WriteFault) (d : Done) → ((w : DocumentWrite) → r ≡ Ok w → IsClean db w)
        → edit_done caller status id r ≡ Ok d → IsCleanEffect db d.effect
    clean_edited caller status id db (Ok w) d ok e = subst (λ (x : Done). IsCleanEffect db x.effect) (same {A = Done} _ d e) (ok w refl, tt)
    clean_edited caller status id db (Err f) d ok e = absurd cc

    admitted : (terms : Terms) (db : Database) (id : List ℕ) (query : Option Revision) (document : Value) (w : DocumentWrite) → P db → admission terms db id query document ≡ Ok w → IsClean db w
    admitted terms db id query document w clean e = edit_clean terms db id query document w (writable db clean) (edit_accepted terms id (history_at db id) query document w e)

    clean_document : (caller : auth.Identity) (m : Message) (name : List ℕ) → IsCleanWork (document_written caller m name)
    clean_document caller m name db d clean e =
        let k = went (edit_asked m) (λ asked. and_then (json_body m) (λ document. edit_in caller 201 name db asked.0 asked.1 document)) d e in
        let l = went (json_body m) (λ document. edit_in caller 201 name db k.first.0 k.first.1 document) d k.then in
        clean_edited caller 201 k.first.0 db (admission (terms_in caller name db) db k.first.0 k.first.1 l.first) d
        (λ w. admitted (terms_in caller name db) db k.first.0 k.first.1 l.first w clean) l.then

    unnamed_refused : (o : Option Rule) (w : DocumentWrite) → unless_denied o (Err fault.Conflict) ≡ Ok w → ⊥
    unnamed_refused None w e = absurd cc
    unnamed_refused (Some rule) w e = absurd cc

    deleted_clean : (terms : Terms) (db : Database) (id : List ℕ) (named : Option Revision) (w : DocumentWrite) → P db → deletion_outcome terms db id named ≡ Ok w → IsClean db w
    deleted_clean terms db id None w clean e = absurd (unnamed_refused (design_refusal terms id) w e)
    deleted_clean terms db id (Some rev) w clean e = admitted terms db id (Some rev) deletion w clean e

    clean_deletion : (caller : auth.Identity) (m : Message) (name : List ℕ) → IsCleanWork (document_deleted caller m name)
    clean_deletion caller m name db d clean e =
        let terms = terms_in caller name db in
        let k = went (edit_asked m) (λ asked. edit_done caller 200 asked.0 (deletion_outcome terms db asked.0 asked.1)) d e in
        clean_edited caller 200 k.first.0 db (deletion_outcome terms db k.first.0 k.first.1) d (λ w. deleted_clean terms db k.first.0 k.first.1 w clean) k.then

    -- ---- several writes

    judged_clean : (terms : Terms) (new_edits : Bool) (db : Database) (id : List ℕ) (document : Value) (w : DocumentWrite) → P db
        → document_outcome terms new_edits id (history_at db id) document ≡ Ok (Some w) → IsClean db w
    judged_clean terms true db id document w clean e = admitted terms db id None document w clean (as_outcome-Some (edit_outcome terms id (history_at db id) None document) w e)
    judged_clean terms false db id document w clean e = replicated_clean terms db id document w (replicated_accepted terms id (history_at db id) document (Some w) e)

    by_id_clean : (terms : Terms) (new_edits : Bool) (db : Database) (document : Value) (id : Option (List ℕ)) (w : DocumentWrite) → P db
        → given fault.BadDocument id (λ k. document_outcome terms new_edits k (history_at db k) document) ≡ Ok (Some w) → IsClean db w
    by_id_clean terms new_edits db document None w clean e = absurd cc
    by_id_clean terms new_edits db document (Some id) w clean e = judged_clean terms new_edits db id document w clean e

    before_clean : (db : Database) (o : DocumentOutcome) (ws : List DocumentWrite) → P db → ((w : DocumentWrite) → o ≡ Ok (Some w) → IsClean db w)
        → (P (db_after db o) → AreClean (db_after db o) ws) → AreClean db (put_before o ws)
    before_clean db (Ok (Some w)) ws clean one rest = (one w refl, rest (all_stay (w ∷ []) db clean (one w refl, tt)))
    before_clean db (Ok None) ws clean one rest = rest clean
    before_clean db (Err f) ws clean one rest = rest clean

    all_clean : (terms : Terms) (new_edits : Bool) (db : Database) (documents : List Value) → P db → AreClean db (writes_in (outcomes terms new_edits (history_at db) documents))
    all_clean terms new_edits db [] clean = tt
    all_clean terms new_edits db (v ∷ vs) clean =
        let o : DocumentOutcome = outcome_in terms new_edits (history_at db) v in
        before_clean db o (writes_in (outcomes terms new_edits (after (history_at db) o) vs)) clean (λ w e. by_id_clean terms new_edits db v (id_in v) w clean e)
        (λ later. subst (λ (hs : Histories). AreClean (db_after db o) (writes_in (outcomes terms new_edits hs vs))) (sym (after_is db o)) (all_clean terms new_edits (db_after db o) vs later))

    clean_documents : (caller : auth.Identity) (m : Message) (name : List ℕ) → IsCleanWork (documents_written caller m name)
    clean_documents caller m name db d clean e =
        let k = went (plain m) (λ _. and_then (json_body m) (λ value. and_then (there_or Body (bulk_in value)) (λ bulk. bulk_written caller bulk name db))) d e in
        let l = went (json_body m) (λ value. and_then (there_or Body (bulk_in value)) (λ bulk. bulk_written caller bulk name db)) d k.then in
        let b = went (there_or Body (bulk_in l.first)) (λ bulk. bulk_written caller bulk name db) d l.then in
        subst (λ (x : Done). IsCleanEffect db x.effect) (same {A = Done} _ d b.then) (all_clean (terms_in caller name db) b.first.new_edits db b.first.documents clean)

    -- ---- the declaration of an index

    declared_clean : (db : Database) (o : DocumentOutcome) → ((w : DocumentWrite) → o ≡ Ok (Some w) → IsClean db w) → AreClean db (put_before o [])
    declared_clean db (Ok (Some w)) one = (one w refl, tt)
    declared_clean db (Ok None) one = tt
    declared_clean db (Err f) one = tt

    clean_declared : (caller : auth.Identity) (id name : List ℕ) (db : Database) (o : DocumentOutcome) (d : Done) → ((w : DocumentWrite) → o ≡ Ok (Some w) → IsClean db w)
        → index_done caller id name o ≡ Ok d → IsCleanEffect db d.effect
    clean_declared caller id name db (Ok w) d one e = subst (λ (x : Done). IsCleanEffect db x.effect) (same {A = Done} _ d e) (declared_clean db (Ok w) one)
    clean_declared caller id name db (Err f) d one e = absurd cc

    clean_index : (caller : auth.Identity) (m : Message) (name : List ℕ) → IsCleanWork (index_written caller m name)
    clean_index caller m name db d clean e =
        let terms = terms_in caller name db in
        let k = went (plain m) (λ _. and_then (json_body m) (λ value. and_then (there_or Body (index_in value)) (λ asked. index_asked_in caller name db asked))) d e in
        let l = went (json_body m) (λ value. and_then (there_or Body (index_in value)) (λ asked. index_asked_in caller name db asked)) d k.then in
        let b = went (there_or Body (index_in l.first)) (λ asked. index_asked_in caller name db asked) d l.then in
        let id = b.first.design in
        let h = history_at db id in
        clean_declared caller id b.first.name db (index_admission terms db id b.first.name b.first.fields) d
        (λ w f. admitted terms db id (winner h) (index_document h b.first.name b.first.fields) w clean (index_by_edit terms id h b.first.name b.first.fields w f)) b.then

    -- ---- work that writes no document

    clean_reading : (read : Database → Result Value Refusal) → IsCleanWork (read_work read)
    clean_reading read db d clean e =
        let k = went (read db) (λ value. Ok (value_done value)) d e in
        subst (λ (x : Done). IsCleanEffect db x.effect) (same {A = Done} _ d k.then) tt

    clean_set : (db : Database) (r : Result Value WriteFault) (d : Done) → security_set r ≡ Ok d → IsCleanEffect db d.effect
    clean_set db (Ok security) d e = subst (λ (x : Done). IsCleanEffect db x.effect) (same {A = Done} _ d e) tt
    clean_set db (Err f) d e = absurd cc

    clean_security : (m : Message) → IsCleanWork (security_written m)
    clean_security m db d clean e =
        let k = went (plain m) (λ _. and_then (json_body m) (λ value. security_set (security_outcome value))) d e in
        let l = went (json_body m) (λ value. security_set (security_outcome value)) d k.then in
        clean_set db (security_outcome l.first) d l.then

    clean_stored : (caller : auth.Identity) (id : List ℕ) (db : Database) (r : Result LocalDocument WriteFault) (d : Done) → local_set caller id r ≡ Ok d → IsCleanEffect db d.effect
    clean_stored caller id db (Ok document) d e = subst (λ (x : Done). IsCleanEffect db x.effect) (same {A = Done} _ d e) tt
    clean_stored caller id db (Err f) d e = absurd cc

    clean_local : (caller : auth.Identity) (m : Message) → IsCleanWork (local_written caller m)
    clean_local caller m db d clean e =
        let k = went (there_or Id (local_id_in m.path)) (λ id. and_then (plain m) (λ _. and_then (json_body m) (λ document. local_set caller id (local_outcome (local_at db id) id document)))) d e in
        let l = went (plain m) (λ _. and_then (json_body m) (λ document. local_set caller k.first (local_outcome (local_at db k.first) k.first document))) d k.then in
        let b = went (json_body m) (λ document. local_set caller k.first (local_outcome (local_at db k.first) k.first document)) d l.then in
        clean_stored caller k.first db (local_outcome (local_at db k.first) k.first b.first) d b.then

    -- ---- what is asked

    clean_work : (action : Action) (m : Message) (w : List ℕ → Work) (task : Task) → ((name : List ℕ) → IsCleanWork (w name)) → work_task action m w ≡ Ok task → IsCleanTask task
    clean_work action m w task clean e =
        let k = went (database_name_of m) (λ name. Ok (worked action name (w name))) task e in
        subst IsCleanTask (same {A = Task} _ task k.then) (clean k.first)

    clean_read : (m : Message) (read : List ℕ → Database → Result Value Refusal) (task : Task) → work_task Read m (λ name. read_work (read name)) ≡ Ok task → IsCleanTask task
    clean_read m read task e = clean_work Read m (λ name. read_work (read name)) task (λ name. clean_reading (read name)) e

    clean_created : (caller : auth.Identity) (m : Message) (asked : Result (Unit {0}) Refusal) (task : Task) → admin_task caller m (λ name. created name asked) ≡ Ok task → IsCleanTask task
    clean_created caller m asked task e =
        let k = went (database_name_of m) (λ name. and_then (administration caller) (λ _. Ok (created name asked))) task e in
        let l = went (administration caller) (λ _. Ok (created k.first asked)) task k.then in
        subst IsCleanTask (same {A = Task} _ task l.then) tt

    clean_removed : (caller : auth.Identity) (m : Message) (asked : Result (Unit {0}) Refusal) (task : Task) → admin_task caller m (λ name. removed name asked) ≡ Ok task → IsCleanTask task
    clean_removed caller m asked task e =
        let k = went (database_name_of m) (λ name. and_then (administration caller) (λ _. Ok (removed name asked))) task e in
        let l = went (administration caller) (λ _. Ok (removed k.first asked)) task k.then in
        subst IsCleanTask (same {A = Task} _ task l.then) tt

    clean_welcome : (m : Message) (task : Task) → and_then (plain m) (λ _. Ok (told welcome)) ≡ Ok task → IsCleanTask task
    clean_welcome m task e = let k = went (plain m) (λ _. Ok (told welcome)) task e in subst IsCleanTask (same {A = Task} _ task k.then) tt

    clean_list : (caller : auth.Identity) (m : Message) (task : Task) → and_then (administration caller) (λ _. and_then (plain m) (λ _. Ok listed)) ≡ Ok task → IsCleanTask task
    clean_list caller m task e =
        let k = went (administration caller) (λ _. and_then (plain m) (λ _. Ok listed)) task e in
        let l = went (plain m) (λ _. Ok listed) task k.then in
        subst IsCleanTask (same {A = Task} _ task l.then) tt

    clean : (page : Page) (method : Option RequestMethod) (caller : auth.Identity) (m : Message) (task : Task) → task_of page method caller m ≡ Ok task → IsCleanTask task
    clean Welcome (Some Get) caller m task e = clean_welcome m task e
    clean AllDatabases (Some Get) caller m task e = clean_list caller m task e
    clean DatabasePage (Some Get) caller m task e = clean_read m (λ name. database_read m name) task e
    clean DatabasePage (Some Put) caller m task e = clean_created caller m (plain m) task e
    clean DatabasePage (Some Delete) caller m task e = clean_removed caller m (plain m) task e
    clean Security (Some Get) caller m task e = clean_read m (λ name. security_read m) task e
    clean Security (Some Put) caller m task e = clean_work WriteSecurity m (λ name. security_written m) task (λ name. clean_security m) e
    clean BulkDocuments (Some Post) caller m task e = clean_work WriteDocument m (λ name. documents_written caller m name) task (λ name. clean_documents caller m name) e
    clean AllDocuments (Some Get) caller m task e = clean_read m (λ name. document_list m) task e
    clean Changes (Some Get) caller m task e = clean_read m (λ name. change_list m) task e
    clean Differences (Some Post) caller m task e = clean_read m (λ name. difference_list m) task e
    clean DocumentPage (Some Get) caller m task e = clean_read m (λ name. document_read m) task e
    clean DocumentPage (Some Put) caller m task e = clean_work WriteDocument m (λ name. document_written caller m name) task (λ name. clean_document caller m name) e
    clean DocumentPage (Some Delete) caller m task e = clean_work WriteDocument m (λ name. document_deleted caller m name) task (λ name. clean_deletion caller m name) e
    clean Find (Some Post) caller m task e = clean_read m (λ name. document_finds m) task e
    clean Index (Some Post) caller m task e = clean_work WriteDocument m (λ name. index_written caller m name) task (λ name. clean_index caller m name) e
    clean View (Some Get) caller m task e = clean_read m (λ name. view_read m) task e
    clean LocalDocumentPage (Some Get) caller m task e = clean_read m (λ name. local_read m) task e
    clean LocalDocumentPage (Some Put) caller m task e = clean_work Read m (λ name. local_written caller m) task (λ name. clean_local caller m) e
    clean page method caller m task e = absurd cc

    -- ---- what comes of it

    inside_same : (a b : Database) → Some a ≡ Some b → a ≡ b
    inside_same a b e = cc

    put_stays : (a : Contents) (name : List ℕ) (new : Database) → AllAre a → P new → AllAre (insert a name new)
    put_stays a name new h k other db e = by (bytes_eq other name) (sym (get_put a name new other) ∙ e)
      where
        by : (b : Bool) → cond b (Some new) (get a other) ≡ Some db → P db
        by true is = subst P (inside_same new db is) k
        by false is = h other db is

    removed_stays : (a : Contents) (name : List ℕ) → AllAre a → AllAre (remove a name)
    removed_stays a name h other db e = by (eq_by_cmp (slice_cmp nat_cmp) other name) (sym (get-remove nat_list_cmp_total a name other) ∙ e)
      where
        by : (b : Bool) → cond b None (get a other) ≡ Some db → P db
        by true is = absurd cc
        by false is = h other db is

    worked_stays : (a : Contents) (name : List ℕ) (db : Database) (effect : Effect) → get a name ≡ Some db → AllAre a → IsCleanEffect db effect → AllAre (with_change (change_at name effect) a)
    worked_stays a name db nothing at h k = h
    worked_stays a name db (appended ws) at h k =
        subst (λ (o : Option Database). AllAre (with_effect_at a name (appended ws) o)) (sym at) (put_stays a name (with_all db ws) h (stays db (appended ws) (h name db at) k))
    worked_stays a name db (secured security) at h k =
        subst (λ (o : Option Database). AllAre (with_effect_at a name (secured security) o)) (sym at) (put_stays a name (with_security db security) h (stays db (secured security) (h name db at) k))
    worked_stays a name db (local_put id document) at h k =
        subst (λ (o : Option Database). AllAre (with_effect_at a name (local_put id document) o)) (sym at)
        (put_stays a name (with_local db id document) h (stays db (local_put id document) (h name db at) k))

    task_stays : (caller : auth.Identity) (a : Contents) (task : Task) (o : Outcome) → AllAre a → IsCleanTask task → task_outcome caller a task ≡ Ok o → AllAre (with_change o.change a)
    task_stays caller a (told value) o h k e = subst (λ (x : Outcome). AllAre (with_change x.change a)) (same {A = Outcome} _ o e) h
    task_stays caller a listed o h k e = subst (λ (x : Outcome). AllAre (with_change x.change a)) (same {A = Outcome} _ o e) h
    task_stays caller a (created name asked) o h k e =
        let made : Outcome = record { status = 201; value = done; change = creation name } in
        let i = went (true_or Exists (is_none (get a name))) (λ _. and_then asked (λ _. Ok made)) o e in
        let l = went asked (λ _. Ok made) o i.then in
        subst (λ (x : Outcome). AllAre (with_change x.change a)) (same {A = Outcome} _ o l.then) (put_stays a name new_database h new)
    task_stays caller a (removed name asked) o h k e =
        let made : Outcome = record { status = 200; value = done; change = removal name } in
        let i = went (there_or NoDatabase (get a name)) (λ _. and_then asked (λ _. Ok made)) o e in
        let l = went asked (λ _. Ok made) o i.then in
        subst (λ (x : Outcome). AllAre (with_change x.change a)) (same {A = Outcome} _ o l.then) (removed_stays a name h)
    task_stays caller a (worked action name work) o h k e =
        let i = went (entry caller action (get a name)) (λ db. and_then (work db) (λ d. Ok (outcome_at name d))) o e in
        let l = went (work i.first) (λ d. Ok (outcome_at name d)) o i.then in
        let at = there caller action (get a name) i.first i.was in
        subst (λ (x : Outcome). AllAre (with_change x.change a)) (same {A = Outcome} _ o l.then)
        (worked_stays a name i.first l.first.effect at h (k i.first l.first (h name i.first at) l.was))

    judged_stays : (c : auth.Configuration) (a : Contents) (m : Message) (o : Outcome) → AllAre a → judgement c a m ≡ Ok o → AllAre (with_change o.change a)
    judged_stays c a m o h e =
        let k = went (asker c m) (λ caller. and_then (there_or Path (page_of m.path)) (λ page. page_outcome page (method_named m.method) caller a m)) o e in
        let l = went (there_or Path (page_of m.path)) (λ page. page_outcome page (method_named m.method) k.first a m) o k.then in
        let t = went (task_of l.first (method_named m.method) k.first m) (λ task. task_outcome k.first a task) o l.then in
        task_stays k.first a t.first o h (clean l.first (method_named m.method) k.first m t.first t.was) t.then

    step_stays : (c : auth.Configuration) (a : Contents) (m : Message) (r : Reply) (after : Contents) → Steps c a m r after → AllAre a → AllAre after
    step_stays c a m r after (inl did) h = subst AllAre (sym did.1) (by (judgement c a m) refl)
      where
        by : (j : Result Outcome Refusal) → judgement c a m ≡ j → AllAre (with_change (settlement j).change a)
        by (Ok o) is = judged_stays c a m o h is
        by (Err refusal) is = h
    step_stays c a m r after (inr (inl none)) h = subst AllAre (sym none.1) h
    step_stays c a m r after (inr (inr failed)) h = subst AllAre (sym failed.1) h

no_database : (name : List ℕ) (db : Database) → get {X = Database} {R = slice_cmp nat_cmp} empty name ≡ Some db → ⊥
no_database name db e = let k : None ≡ Some db = sym (get-empty {X = Database} (slice_cmp nat_cmp) name) ∙ e in cc

writable_stays : (c : auth.Configuration) (a : Contents) (m : Message) (r : Reply) (after : Contents) → Steps c a m r after → HaveWritable a → HaveWritable after
writable_stays = step_stays AreWritable (λ db h. h) new_writable one_writable (λ db security h. h) (λ db id document h. h)

pub keep_writable : StepsKeepWritable
keep_writable = record { none = λ name db e. absurd (no_database name db e); steps = writable_stays }

-- ---- runs

one_node : (a b : Serving Contents) → (let x : Option (Serving Contents) = Some a in x) ≡ Some b → a ≡ b
one_node a b e = cc

-- what each step keeps of a node's databases is kept of all nodes'
module _ (Q : Contents → Type 0) (steps : (c : auth.Configuration) (a : Contents) (m : Message) (r : Reply) (after : Contents) → Steps c a m r after → Q a → Q after) where
  abbrev AtAll : List (Serving Contents) → Type 0
  AtAll nodes = (place : ℕ) (node : Serving Contents) → slice_get nodes place ≡ Some node → Q node.store

  handled_stays : (old new : List (Serving Contents)) (place : ℕ) (m : Message) (r : Reply) → IsHandled Steps old place m r new → AtAll old → AtAll new
  handled_stays old new place m r h all q node at = by (cases_eq q place)
    where
      next : Serving Contents
      next = record h.node { store = h.after }

      by : (q ≡ place) ⊎ (q ≢ place) → Q node.store
      by (inl e) =
          let is : next ≡ node = one_node next node (sym (set_here old place h.node next h.there) ∙ ap (slice_get (slice_set old place next)) (sym e) ∙ ap (λ (xs : List (Serving Contents)). slice_get xs q) (sym h.left) ∙ at) in
          subst (λ (n : Serving Contents). Q n.store) is (steps h.node.configuration h.node.store m r h.after h.handled (all place h.node h.there))
      by (inr e) = all q node (sym (set_elsewhere old place q next e) ∙ ap (λ (xs : List (Serving Contents)). slice_get xs q) (sym h.left) ∙ at)

  run_stays : (old new : Network Contents) → Run (alike Steps) old new → AtAll old.nodes → AtAll new.nodes
  run_stays old new run =
      along (alike Steps) (λ a b. AtAll a → AtAll b) (λ a h. h) (λ a b c f g h. g (f h)) (λ who a place m r b h. handled_stays a b place m r h)
      run.happenings old new run.seen run.played

  stages_stay : (ss : List Stage) (old new : Network Contents) → GoesBy Steps ss old new → AtAll old.nodes → AtAll new.nodes
  stages_stay [] old new g h = subst (λ (x : Network Contents). AtAll x.nodes) (sym g) h
  stages_stay (runs ∷ ss) old new (between, run, rest) h = stages_stay ss between new rest (run_stays old between run h)
  stages_stay (arranges ∷ ss) old new (between, arranged, rest) h = stages_stay ss between new rest (subst AtAll (sym arranged.nodes) h)

pub runs_keep_writable : RunsKeepWritable
runs_keep_writable = run_stays HaveWritable writable_stays

pub courses_keep_writable : CoursesKeepWritable
courses_keep_writable old new course = stages_stay HaveWritable writable_stays course.stages old new course.goes
