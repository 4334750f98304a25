-- What holds of what each request asks, and so of its answer.
use Rattle.std.proofs.Common.{◌≡◌, ◌≢◌, ℕ, List, [], ◌∷◌, Bool, true, false, not, cond, Option, Some, None, option_and_then, Result, Ok, Err, ◌⊎◌, inl, inr, refl, sym, ap, ◌∙◌, subst, is_none}
use Rattle.std.specs.Prelude.{⊤}
use Rattle.std.specs.FinMap.{get}
use Rattle.auth.specs.Callers.{Configuration, Identity}
use Rattle.couch_http.specs.Message.{Message}
use Rattle.couch_json.specs.Value.{Value}
use Rattle.policy.specs.Security.{is_security}
use Rattle.policy.specs.Verdict.{verdict}
use Rattle.policy.specs.declared.action.Action.{Action}
use Rattle.policy.specs.declared.action.Action.TheVariants.{Read, WriteSecurity, WriteDocument}
use Rattle.store.specs.Contents.{AreAcceptable, Contents, local_at}
use Rattle.store.specs.Database.{Database, DocumentWrite}
use Rattle.store.specs.Lawful.{IsLawfulDatabase, IsLocalDocument}
use Rattle.store.specs.declared.local_document.LocalDocument.{LocalDocument}
use Rattle.write.specs.LocalWrites.{local_outcome}
use Rattle.write.specs.Planning.{security_outcome}
use Rattle.write.proofs.LocalBodies.{local_is_lawful}
use Rattle.write.specs.Terms.{Terms, terms_in}
use Rattle.write.specs.declared.fault.WriteFault.{WriteFault}
use Rattle.find.specs.Indexes.{index_in}
use Rattle.policy.specs.declared.rule.Rule.{Rule}
use Rattle.write.specs.Admission.{admission, design_refusal, unless_denied}
use Rattle.write.specs.Bulk.{DocumentOutcome, writes_in}
use Rattle.write.specs.IndexWrites.{index_admission}
use Rattle.write.proofs.Acceptances.{all_acceptable, edit_acceptable, index_alone_acceptable}
use Rattle.tree.specs.Revision.{Revision}
use Rattle.api.specs.Asking.{asker, json_body, method_named, plain}
use Rattle.api.specs.Bulk.{bulk_in}
use Rattle.api.specs.Routing.{page_of}
use Rattle.write.specs.declared.fault.WriteFault.TheVariants.{BadDocument}
use Rattle.write.specs.declared.fault.WriteFault.TheVariants as write
use Rattle.node.specs.Answer.{Change, Outcome, Task, administration, permission, change_at, created, creation, entry, admin_task, inside, judgement, kept, listed, database_name_of, outcome_in_database, task_outcome, removal, removed, page_outcome, task_of, told, welcome, worked, work_task}
use Rattle.node.specs.Effects.{Fits}
use Rattle.api.specs.Paths.{database_name_in, document_id_in, local_id_in, named_id_in, text_if}
use Rattle.api.specs.Queries.{revision_query}
use Rattle.find.specs.Indexes.{IndexAsked}
use Rattle.find.proofs.Indexing.{index_in-design}
use Rattle.tree.specs.DocumentId.{is_design_id, is_local_id}
use Rattle.node.specs.Work.{Done, Effect, Work, appended, local_put, nothing, read_work, secured, value_done}
use Rattle.api.specs.Refusals.{and_then, there_or, true_or}
use Rattle.node.specs.Works.{change_list, database_read, difference_list, document_deleted, document_finds, document_list, document_read, document_written, documents_written, deletion, deletion_outcome, done, edit_asked, bulk_written, edit_done, edit_in, index_asked_in, index_done, index_written, local_read, local_set, local_written, security_read, security_set, security_written, view_read}
use Rattle.api.specs.declared.method.RequestMethod.{RequestMethod}
use Rattle.api.specs.declared.method.RequestMethod.TheVariants.{Get, Put, Post, Delete}
use Rattle.api.specs.declared.page.Page.{Page}
use Rattle.api.specs.declared.page.Page.TheVariants.{Welcome, AllDatabases, Database as DatabasePage, Security, BulkDocuments, AllDocuments, Changes, Differences, Find, Index, View, Document, LocalDocument as LocalDocumentPage}
use Rattle.api.specs.declared.refusal.Refusal.{Refusal}
use Rattle.api.specs.declared.refusal.Refusal.TheVariants.{Body, Id, DatabaseName, NoDatabase, Exists, Path, Query}

-- ---- one step after another

-- what came of two steps came of the second, after the first
pub record Went {A B : Type 0} (r : Result A Refusal) (go : A → Result B Refusal) (b : B) : Type 0 where
  pub first : A
  pub was : r ≡ Ok first
  pub then : go first ≡ Ok b

pub went : {A B : Type 0} (r : Result A Refusal) (go : A → Result B Refusal) (b : B) → and_then r go ≡ Ok b → Went r go b
went (Ok a) go b e = record { first = a; was = refl; then = e }
went (Err refusal) go b e = absurd cc

pub next_same : {A B : Type 0} (r : Result A Refusal) (f g : A → Result B Refusal) → ((a : A) → r ≡ Ok a → f a ≡ g a) → and_then r f ≡ and_then r g
next_same (Ok a) f g agree = agree a refl
next_same (Err refusal) f g agree = refl

abbrev pub well : {A : Type 0} → A → Result A Refusal
well a = Ok a

pub same : {A : Type 0} (a b : A) → well a ≡ well b → a ≡ b
same a b e = cc

pub named : {A : Type 0} (r : Refusal) (o : Option A) (a : A) → there_or r o ≡ Ok a → o ≡ Some a
named r None a e = absurd cc
named r (Some b) a e = cc

absent : {A : Type 0} (r : Refusal) (o : Option A) → true_or r (is_none o) ≡ Ok tt → o ≡ None
absent r None e = refl
absent r (Some a) e = absurd cc

-- ---- work in a database

-- what work comes to is told as a success, and its effect fits a lawful database
pub record IsSound (db : Database) (d : Done) : Type 0 where
  pub status : (d.status ≡ 200) ⊎ (d.status ≡ 201)
  pub fits : IsLawfulDatabase db → Fits d.effect db

abbrev pub AreSound : Work → Type 0
AreSound work = (db : Database) (d : Done) → work db ≡ Ok d → IsSound db d

sound_reading : (read : Database → Result Value Refusal) → AreSound (read_work read)
sound_reading read db d e =
    let k = went (read db) (λ value. Ok (value_done value)) d e in
    subst (λ (x : Done). IsSound db x) (same {A = Done} _ d k.then) (record { status = inl refl; fits = λ lawful. tt })

sound_security : (m : Message) → AreSound (security_written m)
sound_security m db d e =
    let k = went (plain m) (λ _. and_then (json_body m) (λ value. security_set (security_outcome value))) d e in
    let l = went (json_body m) (λ value. security_set (security_outcome value)) d k.then in
    by l.first (is_security l.first) refl l.then
  where
    by : (v : Value) (b : Bool) → is_security v ≡ b → security_set (security_outcome v) ≡ Ok d → IsSound db d
    by v true is h =
        let P : Bool → Type 0 = λ b. security_set (cond b (Ok v) (Err BadDocument)) ≡ Ok d in
        subst (λ (x : Done). IsSound db x) (same {A = Done} (record { status = 200; value = done; effect = secured v }) d (subst P is h)) (record { status = inl refl; fits = λ lawful. is })
    by v false is h =
        let P : Bool → Type 0 = λ b. security_set (cond b (Ok v) (Err BadDocument)) ≡ Ok d in
        absurd (let k : Err Body ≡ well d = subst P is h in cc)

sound_edited : (caller : Identity) (status : ℕ) (id : List ℕ) (db : Database) (r : Result DocumentWrite WriteFault) (d : Done) → (status ≡ 200) ⊎ (status ≡ 201)
    → ((w : DocumentWrite) → r ≡ Ok w → IsLawfulDatabase db → AreAcceptable db (w ∷ [])) → edit_done caller status id r ≡ Ok d → IsSound db d
sound_edited caller status id db (Ok w) d good ok e = subst (λ (x : Done). IsSound db x) (same {A = Done} _ d e) (record { status = good; fits = λ lawful. ok w refl lawful })
sound_edited caller status id db (Err fault) d good ok e = absurd cc

edit_fits : (terms : Terms) (db : Database) (id : List ℕ) (query : Option Revision) (document : Value) (w : DocumentWrite) → is_local_id id ≡ false → admission terms db id query document ≡ Ok w → IsLawfulDatabase db
    → AreAcceptable db (w ∷ [])
edit_fits terms db id query document w apart e lawful = (edit_acceptable terms db id query document w lawful apart e, tt)

-- an id that passes a test of a path
passed : (test : List ℕ → Bool) (o : Option (List ℕ)) (id : List ℕ) → there_or Id (option_and_then (λ k. text_if (test k) k) o) ≡ Ok id → test id ≡ true
passed test None id e = absurd cc
passed test (Some k) id e = by (test k) refl e
  where
    by : (b : Bool) → test k ≡ b → there_or Id (text_if b k) ≡ Ok id → test id ≡ true
    by true is f = let same : k ≡ id = cc in ap test (sym same) ∙ is
    by false is f = absurd cc

turned : (b : Bool) → not b ≡ true → b ≡ false
turned true h = absurd cc
turned false h = refl

-- the id of a document that is edited is no local one
asked_apart : (m : Message) (asked : List ℕ × Option Revision) → edit_asked m ≡ Ok asked → is_local_id asked.0 ≡ false
asked_apart m asked e =
    let k = went (there_or Id (document_id_in m.path)) (λ id. and_then (there_or Query (revision_query m.query)) (λ rev. Ok (id, rev))) asked e in
    let l = went (there_or Query (revision_query m.query)) (λ rev. Ok (k.first, rev)) asked k.then in
    let same : k.first ≡ asked.0 = same_id k.first asked l.first l.then in
    ap is_local_id (sym same) ∙ turned (is_local_id k.first) (passed (λ id. not (is_local_id id)) (named_id_in m.path) k.first k.was)
  where
    same_id : (id : List ℕ) (asked : List ℕ × Option Revision) (rev : Option Revision) → well (id, rev) ≡ Ok asked → id ≡ asked.0
    same_id id asked rev e = cc

sound_document : (caller : Identity) (m : Message) (name : List ℕ) → AreSound (document_written caller m name)
sound_document caller m name db d e =
    let terms = terms_in caller name db in
    let k = went (edit_asked m) (λ asked. and_then (json_body m) (λ document. edit_in caller 201 name db asked.0 asked.1 document)) d e in
    let l = went (json_body m) (λ document. edit_in caller 201 name db k.first.0 k.first.1 document) d k.then in
    sound_edited caller 201 k.first.0 db (admission terms db k.first.0 k.first.1 l.first) d (inr refl) (λ w. edit_fits terms db k.first.0 k.first.1 l.first w (asked_apart m k.first k.was)) l.then

unnamed_refused : (o : Option Rule) (w : DocumentWrite) → unless_denied o (Err write.Conflict) ≡ Ok w → ⊥
unnamed_refused None w e = absurd cc
unnamed_refused (Some rule) w e = absurd cc

deletion_fits : (terms : Terms) (db : Database) (id : List ℕ) (named : Option Revision) (w : DocumentWrite) → is_local_id id ≡ false → deletion_outcome terms db id named ≡ Ok w → IsLawfulDatabase db
    → AreAcceptable db (w ∷ [])
deletion_fits terms db id None w apart e lawful = absurd (unnamed_refused (design_refusal terms id) w e)
deletion_fits terms db id (Some rev) w apart e lawful = edit_fits terms db id (Some rev) deletion w apart e lawful

sound_deletion : (caller : Identity) (m : Message) (name : List ℕ) → AreSound (document_deleted caller m name)
sound_deletion caller m name db d e =
    let terms = terms_in caller name db in
    let k = went (edit_asked m) (λ asked. edit_done caller 200 asked.0 (deletion_outcome terms db asked.0 asked.1)) d e in
    sound_edited caller 200 k.first.0 db (deletion_outcome terms db k.first.0 k.first.1) d (inl refl) (λ w. deletion_fits terms db k.first.0 k.first.1 w (asked_apart m k.first k.was)) k.then

sound_documents : (caller : Identity) (m : Message) (name : List ℕ) → AreSound (documents_written caller m name)
sound_documents caller m name db d e =
    let k = went (plain m) (λ _. and_then (json_body m) (λ value. and_then (there_or Body (bulk_in value)) (λ bulk. bulk_written caller bulk name db))) d e in
    let l = went (json_body m) (λ value. and_then (there_or Body (bulk_in value)) (λ bulk. bulk_written caller bulk name db)) d k.then in
    let b = went (there_or Body (bulk_in l.first)) (λ bulk. bulk_written caller bulk name db) d l.then in
    subst (λ (x : Done). IsSound db x) (same {A = Done} _ d b.then) (record { status = inr refl; fits = λ lawful. all_acceptable (terms_in caller name db) b.first.new_edits db b.first.documents lawful })

sound_declared : (caller : Identity) (id name : List ℕ) (db : Database) (r : DocumentOutcome) (d : Done) → (IsLawfulDatabase db → AreAcceptable db (writes_in (r ∷ [])))
    → index_done caller id name r ≡ Ok d → IsSound db d
sound_declared caller id name db (Ok w) d ok e = subst (λ (x : Done). IsSound db x) (same {A = Done} _ d e) (record { status = inl refl; fits = ok })
sound_declared caller id name db (Err fault) d ok e = absurd cc

asked_design : (o : Option IndexAsked) (asked : IndexAsked) → (o ≡ Some asked → is_design_id asked.design ≡ true) → there_or Body o ≡ Ok asked → is_design_id asked.design ≡ true
asked_design None asked h e = absurd cc
asked_design (Some a) asked h e = let same : a ≡ asked = cc in h (ap Some same)

sound_index : (caller : Identity) (m : Message) (name : List ℕ) → AreSound (index_written caller m name)
sound_index caller m name db d e =
    let terms = terms_in caller name db in
    let k = went (plain m) (λ _. and_then (json_body m) (λ value. and_then (there_or Body (index_in value)) (λ asked. index_asked_in caller name db asked))) d e in
    let l = went (json_body m) (λ value. and_then (there_or Body (index_in value)) (λ asked. index_asked_in caller name db asked)) d k.then in
    let b = went (there_or Body (index_in l.first)) (λ asked. index_asked_in caller name db asked) d l.then in
    sound_declared caller b.first.design b.first.name db (index_admission terms db b.first.design b.first.name b.first.fields) d
    (λ lawful. index_alone_acceptable terms db b.first.design b.first.name b.first.fields lawful (asked_design (index_in l.first) b.first (index_in-design l.first b.first) b.was)) b.then

sound_stored : (caller : Identity) (id : List ℕ) (db : Database) (r : Result LocalDocument WriteFault) (d : Done) → ((l : LocalDocument) → r ≡ Ok l → IsLocalDocument id l)
    → local_set caller id r ≡ Ok d → IsSound db d
sound_stored caller id db (Ok l) d ok e = subst (λ (x : Done). IsSound db x) (same {A = Done} _ d e) (record { status = inr refl; fits = λ lawful. ok l refl })
sound_stored caller id db (Err fault) d ok e = absurd cc

sound_local : (caller : Identity) (m : Message) → AreSound (local_written caller m)
sound_local caller m db d e =
    let k = went (there_or Id (local_id_in m.path)) (λ id. and_then (plain m) (λ _. and_then (json_body m) (λ document. local_set caller id (local_outcome (local_at db id) id document)))) d e in
    let l = went (plain m) (λ _. and_then (json_body m) (λ document. local_set caller k.first (local_outcome (local_at db k.first) k.first document))) d k.then in
    let b = went (json_body m) (λ document. local_set caller k.first (local_outcome (local_at db k.first) k.first document)) d l.then in
    sound_stored caller k.first db (local_outcome (local_at db k.first) k.first b.first) d (λ document. local_is_lawful (local_at db k.first) k.first b.first document (passed is_local_id (named_id_in m.path) k.first k.was)) b.then

-- ---- what is asked

-- what is asked is asked of the database that the path leads into, and is sound work; or of all databases, on their page alone
abbrev pub IsGood : Page → Message → Task → Type 0
IsGood page m (told value) = ⊤
IsGood page m listed = page ≡ AllDatabases
IsGood page m (created name asked) = database_name_in m.path ≡ Some name
IsGood page m (removed name asked) = database_name_in m.path ≡ Some name
IsGood page m (worked action name work) = (database_name_in m.path ≡ Some name) × AreSound work

good_work : (page : Page) (action : Action) (m : Message) (w : List ℕ → Work) (task : Task) → ((name : List ℕ) → AreSound (w name)) → work_task action m w ≡ Ok task → IsGood page m task
good_work page action m w task sound e =
    let k = went (database_name_of m) (λ name. Ok (worked action name (w name))) task e in
    subst (λ (x : Task). IsGood page m x) (same {A = Task} _ task k.then) (named DatabaseName (database_name_in m.path) k.first k.was, sound k.first)

good_created : (page : Page) (caller : Identity) (m : Message) (asked : Result (Unit {0}) Refusal) (task : Task) → admin_task caller m (λ name. created name asked) ≡ Ok task → IsGood page m task
good_created page caller m asked task e =
    let k = went (database_name_of m) (λ name. and_then (administration caller) (λ _. Ok (created name asked))) task e in
    let l = went (administration caller) (λ _. Ok (created k.first asked)) task k.then in
    subst (λ (x : Task). IsGood page m x) (same {A = Task} _ task l.then) (named DatabaseName (database_name_in m.path) k.first k.was)

good_removed : (page : Page) (caller : Identity) (m : Message) (asked : Result (Unit {0}) Refusal) (task : Task) → admin_task caller m (λ name. removed name asked) ≡ Ok task → IsGood page m task
good_removed page caller m asked task e =
    let k = went (database_name_of m) (λ name. and_then (administration caller) (λ _. Ok (removed name asked))) task e in
    let l = went (administration caller) (λ _. Ok (removed k.first asked)) task k.then in
    subst (λ (x : Task). IsGood page m x) (same {A = Task} _ task l.then) (named DatabaseName (database_name_in m.path) k.first k.was)

good_welcome : (m : Message) (task : Task) → and_then (plain m) (λ _. Ok (told welcome)) ≡ Ok task → IsGood Welcome m task
good_welcome m task e = let k = went (plain m) (λ _. Ok (told welcome)) task e in subst (λ (x : Task). IsGood Welcome m x) (same {A = Task} _ task k.then) tt

good_list : (caller : Identity) (m : Message) (task : Task) → and_then (administration caller) (λ _. and_then (plain m) (λ _. Ok listed)) ≡ Ok task → IsGood AllDatabases m task
good_list caller m task e =
    let k = went (administration caller) (λ _. and_then (plain m) (λ _. Ok listed)) task e in
    let l = went (plain m) (λ _. Ok listed) task k.then in
    subst (λ (x : Task). IsGood AllDatabases m x) (same {A = Task} _ task l.then) refl

pub good : (page : Page) (method : Option RequestMethod) (caller : Identity) (m : Message) (task : Task) → task_of page method caller m ≡ Ok task → IsGood page m task
good Welcome (Some Get) caller m task e = good_welcome m task e
good AllDatabases (Some Get) caller m task e = good_list caller m task e
good DatabasePage (Some Get) caller m task e = good_work DatabasePage Read m (λ name. read_work (database_read m name)) task (λ name. sound_reading (database_read m name)) e
good DatabasePage (Some Put) caller m task e = good_created DatabasePage caller m (plain m) task e
good DatabasePage (Some Delete) caller m task e = good_removed DatabasePage caller m (plain m) task e
good Security (Some Get) caller m task e = good_work Security Read m (λ name. read_work (security_read m)) task (λ name. sound_reading (security_read m)) e
good Security (Some Put) caller m task e = good_work Security WriteSecurity m (λ name. security_written m) task (λ name. sound_security m) e
good BulkDocuments (Some Post) caller m task e = good_work BulkDocuments WriteDocument m (λ name. documents_written caller m name) task (λ name. sound_documents caller m name) e
good AllDocuments (Some Get) caller m task e = good_work AllDocuments Read m (λ name. read_work (document_list m)) task (λ name. sound_reading (document_list m)) e
good Changes (Some Get) caller m task e = good_work Changes Read m (λ name. read_work (change_list m)) task (λ name. sound_reading (change_list m)) e
good Differences (Some Post) caller m task e = good_work Differences Read m (λ name. read_work (difference_list m)) task (λ name. sound_reading (difference_list m)) e
good Document (Some Get) caller m task e = good_work Document Read m (λ name. read_work (document_read m)) task (λ name. sound_reading (document_read m)) e
good Document (Some Put) caller m task e = good_work Document WriteDocument m (λ name. document_written caller m name) task (λ name. sound_document caller m name) e
good Document (Some Delete) caller m task e = good_work Document WriteDocument m (λ name. document_deleted caller m name) task (λ name. sound_deletion caller m name) e
good Find (Some Post) caller m task e = good_work Find Read m (λ name. read_work (document_finds m)) task (λ name. sound_reading (document_finds m)) e
good Index (Some Post) caller m task e = good_work Index WriteDocument m (λ name. index_written caller m name) task (λ name. sound_index caller m name) e
good View (Some Get) caller m task e = good_work View Read m (λ name. read_work (view_read m)) task (λ name. sound_reading (view_read m)) e
good LocalDocumentPage (Some Get) caller m task e = good_work LocalDocumentPage Read m (λ name. read_work (local_read m)) task (λ name. sound_reading (local_read m)) e
good LocalDocumentPage (Some Put) caller m task e = good_work LocalDocumentPage Read m (λ name. local_written caller m) task (λ name. sound_local caller m) e
good page method caller m task e = absurd cc

-- ---- what comes of it

-- the change is one of the database that the path leads into: of a new one where there is none, or with an effect that fits
abbrev pub IsMade : Contents → Message → Change → Type 0
IsMade a m kept = ⊤
IsMade a m (creation name) = (database_name_in m.path ≡ Some name) × (get a name ≡ None)
IsMade a m (removal name) = database_name_in m.path ≡ Some name
IsMade a m (inside name effect) = (database_name_in m.path ≡ Some name) × ((db : Database) × (get a name ≡ Some db) × (IsLawfulDatabase db → Fits effect db))

pub record IsRight (a : Contents) (m : Message) (o : Outcome) : Type 0 where
  pub status : (o.status ≡ 200) ⊎ (o.status ≡ 201)
  pub made : IsMade a m o.change

made_at : (a : Contents) (m : Message) (name : List ℕ) (db : Database) (effect : Effect) → database_name_in m.path ≡ Some name → get a name ≡ Some db → (IsLawfulDatabase db → Fits effect db)
    → IsMade a m (change_at name effect)
made_at a m name db nothing own there fits = tt
made_at a m name db (appended ws) own there fits = (own, (db, there, fits))
made_at a m name db (secured v) own there fits = (own, (db, there, fits))
made_at a m name db (local_put id document) own there fits = (own, (db, there, fits))

pub there : (caller : Identity) (action : Action) (o : Option Database) (db : Database) → entry caller action o ≡ Ok db → o ≡ Some db
there caller action None db e = absurd cc
there caller action (Some d) db e = let k = went (permission caller (verdict action caller d.security)) (λ _. Ok d) db e in ap Some (same d db k.then)

pub right : (page : Page) (caller : Identity) (a : Contents) (m : Message) (task : Task) (o : Outcome) → IsGood page m task → task_outcome caller a task ≡ Ok o → IsRight a m o
right page caller a m (told value) o ok e = subst (λ (x : Outcome). IsRight a m x) (same {A = Outcome} _ o e) (record { status = inl refl; made = tt })
right page caller a m listed o ok e = subst (λ (x : Outcome). IsRight a m x) (same {A = Outcome} _ o e) (record { status = inl refl; made = tt })
right page caller a m (created name asked) o ok e =
    let made : Outcome = record { status = 201; value = done; change = creation name } in
    let k = went (true_or Exists (is_none (get a name))) (λ _. and_then asked (λ _. Ok made)) o e in
    let l = went asked (λ _. Ok made) o k.then in
    subst (λ (x : Outcome). IsRight a m x) (same {A = Outcome} _ o l.then) (record { status = inr refl; made = (ok, absent Exists (get a name) k.was) })
right page caller a m (removed name asked) o ok e =
    let made : Outcome = record { status = 200; value = done; change = removal name } in
    let k = went (there_or NoDatabase (get a name)) (λ _. and_then asked (λ _. Ok made)) o e in
    let l = went asked (λ _. Ok made) o k.then in
    subst (λ (x : Outcome). IsRight a m x) (same {A = Outcome} _ o l.then) (record { status = inl refl; made = ok })
right page caller a m (worked action name work) o ok e =
    let k = went (entry caller action (get a name)) (λ db. and_then (work db) (λ d. Ok (outcome_in_database name d))) o e in
    let l = went (work k.first) (λ d. Ok (outcome_in_database name d)) o k.then in
    let sound = ok.1 k.first l.first l.was in
    subst (λ (x : Outcome). IsRight a m x) (same {A = Outcome} _ o l.then)
    (record { status = sound.status; made = made_at a m name k.first l.first.effect ok.0 (there caller action (get a name) k.first k.was) sound.fits })

pub judged_right : (c : Configuration) (a : Contents) (m : Message) (o : Outcome) → judgement c a m ≡ Ok o → IsRight a m o
judged_right c a m o e =
    let k = went (asker c m) (λ caller. and_then (there_or Path (page_of m.path)) (λ page. page_outcome page (method_named m.method) caller a m)) o e in
    let l = went (there_or Path (page_of m.path)) (λ page. page_outcome page (method_named m.method) k.first a m) o k.then in
    let t = went (task_of l.first (method_named m.method) k.first m) (λ task. task_outcome k.first a task) o l.then in
    right l.first k.first a m t.first o (good l.first (method_named m.method) k.first m t.first t.was) t.then

-- ---- what depends on what

-- what is asked is answered alike by two states that agree on the database of the path
alike : (page : Page) (caller : Identity) (a b : Contents) (m : Message) (task : Task) → IsGood page m task → page ≢ AllDatabases
    → ((name : List ℕ) → database_name_in m.path ≡ Some name → get a name ≡ get b name) → task_outcome caller a task ≡ task_outcome caller b task
alike page caller a b m (told value) ok single agree = refl
alike page caller a b m listed ok single agree = absurd (single ok)
alike page caller a b m (created name asked) ok single agree =
    ap (λ (o : Option Database). and_then (true_or Exists (is_none o)) (λ _. and_then asked (λ _. Ok (let x : Outcome = record { status = 201; value = done; change = creation name } in x)))) (agree name ok)
alike page caller a b m (removed name asked) ok single agree =
    ap (λ (o : Option Database). and_then (there_or NoDatabase o) (λ _. and_then asked (λ _. Ok (let x : Outcome = record { status = 200; value = done; change = removal name } in x)))) (agree name ok)
alike page caller a b m (worked action name work) ok single agree =
    ap (λ (o : Option Database). and_then (entry caller action o) (λ db. and_then (work db) (λ d. Ok (outcome_in_database name d)))) (agree name ok.0)

pub judged_alike : (c : Configuration) (a b : Contents) (m : Message) → page_of m.path ≢ Some AllDatabases
    → ((name : List ℕ) → database_name_in m.path ≡ Some name → get a name ≡ get b name) → judgement c a m ≡ judgement c b m
judged_alike c a b m single agree =
    next_same (asker c m) _ _ (λ caller is.
    next_same (there_or Path (page_of m.path)) _ _ (λ page at.
    next_same (task_of page (method_named m.method) caller m) _ _ (λ task asked.
    alike page caller a b m task (good page (method_named m.method) caller m task asked) (λ all. single (named Path (page_of m.path) page at ∙ ap Some all)) agree)))
