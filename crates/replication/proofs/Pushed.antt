-- A push appends what its documents say.
use Rattle.std.proofs.Common.{◌≡◌, ◌≢◌, ◌⊎◌, ◌&&◌, inl, inr, ℕ, List, [], ◌∷◌, Bool, true, false, not, cond, Option, Some, None, option_and_then, Result, Ok, Err, codes, refl, sym, ap, ◌∙◌, subst}
use Rattle.std.specs.List.{AllByRecursion}
use Rattle.std.specs.FinMap.{get}
use Rattle.auth.specs.Callers as auth
use Rattle.couch_http.specs.Message.{Message}
use Rattle.couch_json.specs.Reading.{reading}
use Rattle.couch_json.specs.Value.{Value}
use Rattle.couch_json.proofs.ReadingBack.{what_was_read}
use Rattle.find.specs.Indexes.{index_in}
use Rattle.policy.specs.declared.action.Action.TheVariants.{WriteDocument}
use Rattle.tree.specs.History.{HistoryContent}
use Rattle.store.specs.Contents.{AreAcceptable, Contents, IsAcceptable}
use Rattle.store.specs.Database.{Database, DocumentWrite, history_at, with_all}
use Rattle.write.specs.Bulk.{DocumentOutcome, Histories, after, document_outcome, outcome_in, outcomes, put_before, writes_in}
use Rattle.write.specs.Admission.{given}
use Rattle.write.specs.Document.{id_in, id_in_bulk, member_text}
use Rattle.tree.specs.DocumentId.{is_document_id, is_local_id}
use Rattle.write.specs.Terms.{Terms, terms_in}
use Rattle.write.specs.declared.fault.WriteFault.TheVariants.{BadDocument}
use Rattle.write.proofs.Acceptances.{after_is, db_after, replicated_acceptable}
use Rattle.write.proofs.Outcomes.{IsReplicated, replicated_accepted}
use Rattle.api.specs.Asking.{asker, json_body, method_named, plain}
use Rattle.api.specs.Bulk.{Bulk, bulk_in}
use Rattle.api.specs.Refusals.{and_then, there_or}
use Rattle.api.specs.Routing.{page_of}
use Rattle.api.specs.Paths.{database_name_in}
use Rattle.api.specs.declared.method.RequestMethod.TheVariants.{Post}
use Rattle.api.specs.declared.page.Page.{Page}
use Rattle.api.specs.declared.page.Page.TheVariants.{Welcome, AllDatabases, Database as DatabasePage, Security, BulkDocuments, AllDocuments, Changes, Differences, Find, Index, View, Document, LocalDocument}
use Rattle.api.specs.declared.refusal.Refusal.{Refusal}
use Rattle.api.specs.declared.refusal.Refusal.TheVariants.{Body, Method, Path}
use Rattle.node.specs.Answer.{Change, Outcome, Task, inside, judgement, kept, outcome_in_database as outcome_at, page_outcome, settlement, task_of, task_outcome, with_change, with_effect_at}
use Rattle.node.specs.Work.{Done, appended}
use Rattle.node.specs.Works.{bulk_done, bulk_written, difference_list, document_finds, documents_written, index_asked_in, index_written}
use Rattle.node.proofs.Tasks.{named as was_named, same, went}
use Rattle.repl.specs.Calls.{documents_value, push_documents, request_of}
use Rattle.repl.specs.Configuration.{database_of_side}
use Rattle.passes.proofs.Comparing.{value_was}
use Rattle.passes.proofs.Judged.{never, read_out, there_never, work_out}
use Rattle.passes.proofs.Spellings.{leads_into}
use Rattle.passes.specs.Spelled.{replica_bulk}
use Rattle.replication.specs.Finished.{found_or_new}
use Rattle.replication.specs.Appended.{Appends, IsSaidBy, IsSaidByOne, KeepsDocuments}
use Rattle.replication.specs.Written.{Becomes, PushesAppendWhatIsSaid}
use Rattle.replication.proofs.Quiet.{elements_back, nowhere, put_becomes, put_elsewhere, same_documents}

-- ---- what is appended is said

one_said : (terms : Terms) (id : List ℕ) (h : HistoryContent) (v : Value) (w : DocumentWrite) → id_in v ≡ Some id → IsReplicated terms id h v (Some w) → IsSaidBy v w
one_said terms id h v w named k =
    subst (IsSaidBy v) (sym k.taken.1) (record { rev = k.sent.rev; ancestry = k.ancestry; named = named; says = k.says; leads = k.leads; path = refl })

-- the id of a document of a bulk is no local one
in_bulk : (text id : List ℕ) (document local : Bool) → local ≡ is_local_id text → cond (document && not local) (Some text) None ≡ Some id → is_local_id id ≡ false
in_bulk text id true true is e = absurd cc
in_bulk text id true false is e = let same : text ≡ id = cc in ap is_local_id (sym same) ∙ sym is
in_bulk text id false local is e = absurd cc

bulk_apart : (v : Value) (id : List ℕ) → id_in v ≡ Some id → is_local_id id ≡ false
bulk_apart v id e = by (member_text (codes "_id") v) e
  where
    by : (o : Option (List ℕ)) → option_and_then (λ t. id_in_bulk t) o ≡ Some id → is_local_id id ≡ false
    by None k = absurd cc
    by (Some text) k = in_bulk text id (is_document_id text) (is_local_id text) refl k

said_by_id : (terms : Terms) (db : Database) (v : Value) (id : Option (List ℕ)) (w : DocumentWrite) → id_in v ≡ id → given BadDocument id (λ k. document_outcome terms false k (history_at db k) v) ≡ Ok (Some w) → IsSaidBy v w × IsAcceptable db w
said_by_id terms db v None w named e = absurd cc
said_by_id terms db v (Some id) w named e =
    (one_said terms id (history_at db id) v w named (replicated_accepted terms id (history_at db id) v (Some w) e), replicated_acceptable terms db id v w (bulk_apart v id named) e)

more_said : (v : Value) (vs : List Value) (ws : List DocumentWrite) → AllByRecursion (IsSaidByOne vs) ws → AllByRecursion (IsSaidByOne (v ∷ vs)) ws
more_said v vs [] h = tt
more_said v vs (w ∷ ws) h = (inr h.0, more_said v vs ws h.1)

abbrev AreSaid : List Value → Database → List DocumentWrite → Type 0
AreSaid vs db ws = AllByRecursion (IsSaidByOne vs) ws × AreAcceptable db ws

before_said : (v : Value) (vs : List Value) (db : Database) (o : DocumentOutcome) (ws : List DocumentWrite) → ((w : DocumentWrite) → o ≡ Ok (Some w) → IsSaidBy v w × IsAcceptable db w)
    → AreSaid vs (db_after db o) ws → AreSaid (v ∷ vs) db (put_before o ws)
before_said v vs db (Ok (Some w)) ws one rest = let k = one w refl in ((inl k.0, more_said v vs ws rest.0), (k.1, rest.1))
before_said v vs db (Ok None) ws one rest = (more_said v vs ws rest.0, rest.1)
before_said v vs db (Err fault) ws one rest = (more_said v vs ws rest.0, rest.1)

pub all_said : (terms : Terms) (vs : List Value) (db : Database) → AreSaid vs db (writes_in (outcomes terms false (history_at db) vs))
all_said terms [] db = (tt, tt)
all_said terms (v ∷ vs) db =
    let o : DocumentOutcome = outcome_in terms false (history_at db) v in
    before_said v vs db o (writes_in (outcomes terms false (after (history_at db) o) vs)) (λ w e. said_by_id terms db v (id_in v) w refl e)
    (subst (λ (hs : Histories). AreSaid vs (db_after db o) (writes_in (outcomes terms false hs vs))) (sym (after_is db o)) (all_said terms vs (db_after db o)))

appends : (terms : Terms) (vs : List Value) (db : Database) → Appends vs db (with_all db (writes_in (outcomes terms false (history_at db) vs)))
appends terms vs db =
    let ws = writes_in (outcomes terms false (history_at db) vs) in
    let k = all_said terms vs db in
    record { writes = ws; said = k.0; acceptable = k.1; left = same_documents (with_all db ws) }

-- ---- what a push comes to

-- these documents were judged in a database
record HasPushed (a : Contents) (m : Message) (documents : List Value) (change : Change) : Type 0 where
  name : List ℕ
  db : Database
  terms : Terms
  own : database_name_in m.path ≡ Some name
  there : get a name ≡ Some db
  is : change ≡ inside name (appended (writes_in (outcomes terms false (history_at db) documents)))

abbrev HasBodyOf : Message → Value → Type 0
HasBodyOf m v = (w : Value) → json_body m ≡ Ok w → w ≡ v

asked_back : (vs : List Value) → bulk_in (documents_value vs) ≡ Some (replica_bulk vs)
asked_back vs = ap (λ (xs : List Value). Some (replica_bulk xs)) (elements_back vs)

never_index : (caller : auth.Identity) (m : Message) (name : List ℕ) (db : Database) (d : Done) (documents : List Value) → HasBodyOf m (documents_value documents) → index_written caller m name db ≡ Ok d → ⊥
never_index caller m name db d documents body e =
    let k = went (plain m) (λ _. and_then (json_body m) (λ value. and_then (there_or Body (index_in value)) (λ asked. index_asked_in caller name db asked))) d e in
    let l = went (json_body m) (λ value. and_then (there_or Body (index_in value)) (λ asked. index_asked_in caller name db asked)) d k.then in
    there_never Body (index_in l.first) (λ asked. index_asked_in caller name db asked) d (ap index_in (body l.first l.was)) l.then

at_page : (page : Page) (caller : auth.Identity) (a : Contents) (m : Message) (documents : List Value) (task : Task) (o : Outcome) → HasBodyOf m (documents_value documents)
    → task_of page (Some Post) caller m ≡ Ok task → task_outcome caller a task ≡ Ok o → (o.change ≡ kept) ⊎ HasPushed a m documents o.change
at_page Welcome caller a m documents task o body e f = absurd (never Method task e)
at_page AllDatabases caller a m documents task o body e f = absurd (never Method task e)
at_page DatabasePage caller a m documents task o body e f = absurd (never Method task e)
at_page Security caller a m documents task o body e f = absurd (never Method task e)
at_page BulkDocuments caller a m documents task o body e f =
    let w = work_out caller a m WriteDocument (λ name. documents_written caller m name) task o e f in
    let p = went (plain m) (λ _. and_then (json_body m) (λ value. and_then (there_or Body (bulk_in value)) (λ bulk. bulk_written caller bulk w.name w.db))) w.done w.was in
    let l = went (json_body m) (λ value. and_then (there_or Body (bulk_in value)) (λ bulk. bulk_written caller bulk w.name w.db)) w.done p.then in
    let b = went (there_or Body (bulk_in l.first)) (λ bulk. bulk_written caller bulk w.name w.db) w.done l.then in
    let terms = terms_in caller w.name w.db in
    let bulk : replica_bulk documents ≡ b.first =
    (let k : Some (replica_bulk documents) ≡ Some b.first = sym (asked_back documents) ∙ ap bulk_in (sym (body l.first l.was)) ∙ was_named Body (bulk_in l.first) b.first b.was in cc) in
    let done : bulk_done caller (replica_bulk documents) (outcomes terms false (history_at w.db) documents) ≡ w.done =
    ap (λ (x : Bulk). bulk_done caller x (outcomes terms x.new_edits (history_at w.db) x.documents)) bulk
    ∙ same {A = Done} (bulk_done caller b.first (outcomes terms b.first.new_edits (history_at w.db) b.first.documents)) w.done b.then in
    inr (record {
      name = w.name;
      db = w.db;
      terms = terms;
      own = w.own;
      there = w.there;
      is = ap (λ (x : Outcome). x.change) (w.is ∙ ap (outcome_at w.name) (sym done));
    })
at_page AllDocuments caller a m documents task o body e f = absurd (never Method task e)
at_page Changes caller a m documents task o body e f = absurd (never Method task e)
at_page Differences caller a m documents task o body e f = inl (ap (λ (x : Outcome). x.change) (read_out caller a m (λ name. difference_list m) task o e f).is)
at_page Find caller a m documents task o body e f = inl (ap (λ (x : Outcome). x.change) (read_out caller a m (λ name. document_finds m) task o e f).is)
at_page Index caller a m documents task o body e f =
    let w = work_out caller a m WriteDocument (λ name. index_written caller m name) task o e f in absurd (never_index caller m w.name w.db w.done documents body w.was)
at_page View caller a m documents task o body e f = absurd (never Method task e)
at_page Document caller a m documents task o body e f = absurd (never Method task e)
at_page LocalDocument caller a m documents task o body e f = absurd (never Method task e)

judged_pushed : (c : auth.Configuration) (a : Contents) (m : Message) (documents : List Value) (o : Outcome) → method_named m.method ≡ Some Post → HasBodyOf m (documents_value documents)
    → judgement c a m ≡ Ok o → (o.change ≡ kept) ⊎ HasPushed a m documents o.change
judged_pushed c a m documents o post body e =
    let k = went (asker c m) (λ caller. and_then (there_or Path (page_of m.path)) (λ page. page_outcome page (method_named m.method) caller a m)) o e in
    let l = went (there_or Path (page_of m.path)) (λ page. page_outcome page (method_named m.method) k.first a m) o k.then in
    let t = went (task_of l.first (method_named m.method) k.first m) (λ task. task_outcome k.first a task) o l.then in
    at_page l.first k.first a m documents t.first o body (ap (λ x. task_of l.first x k.first m) (sym post) ∙ t.was) t.then

-- ---- what becomes of the databases

abbrev Pushed : Contents → List ℕ → List Value → Contents → Type 0
Pushed before name documents after = Becomes before name after (Appends documents) × ((other : List ℕ) → other ≢ name → Becomes before other after KeepsDocuments)

nothing_appended : (documents : List Value) (db : Database) → Appends documents db db
nothing_appended documents db = record { writes = []; said = tt; acceptable = tt; left = same_documents db }

unchanged : (a : Contents) (name : List ℕ) (documents : List Value) → Pushed a name documents a
unchanged a name documents = ((nothing_appended documents (found_or_new (get a name)), λ db at. (db, at)), λ other apart. nowhere a other)

put_pushed : (a : Contents) (name : List ℕ) (documents : List Value) (db : Database) (terms : Terms) → get a name ≡ Some db
    → Pushed a name documents (with_change (inside name (appended (writes_in (outcomes terms false (history_at db) documents)))) a)
put_pushed a name documents db terms there =
    let ws = writes_in (outcomes terms false (history_at db) documents) in
    subst (λ (o : Option Database). Pushed a name documents (with_effect_at a name (appended ws) o)) (sym there)
    (put_becomes (Appends documents) a name db (with_all db ws) there (appends terms documents db), λ other apart. put_elsewhere a name (with_all db ws) other apart)

pub push_appends : PushesAppendWhatIsSaid
push_appends c before k side documents r after small lawful (inl done) =
    subst (λ (x : Contents). Pushed before (database_of_side k side) documents x) (sym done.1) (by (judgement c before (request_of k side (push_documents documents))) refl)
  where
    body : HasBodyOf (request_of k side (push_documents documents)) (documents_value documents)
    body w f = sym (what_was_read (documents_value documents) w lawful (value_was (reading (request_of k side (push_documents documents)).body) w f))

    did : (change : Change) → (change ≡ kept) ⊎ HasPushed before (request_of k side (push_documents documents)) documents change → Pushed before (database_of_side k side) documents (with_change change before)
    did change (inl is) = subst (λ (x : Change). Pushed before (database_of_side k side) documents (with_change x before)) (sym is) (unchanged before (database_of_side k side) documents)
    did change (inr h) =
        let into : database_of_side k side ≡ h.name = leads_into (database_of_side k side) (codes "_bulk_docs") h.name small h.own in
        subst (λ (x : Change). Pushed before (database_of_side k side) documents (with_change x before)) (sym h.is)
        (subst (λ (n : List ℕ). Pushed before n documents (with_change (inside h.name (appended (writes_in (outcomes h.terms false (history_at h.db) documents)))) before)) (sym into)
        (put_pushed before h.name documents h.db h.terms h.there))

    by : (j : Result Outcome Refusal) → judgement c before (request_of k side (push_documents documents)) ≡ j → Pushed before (database_of_side k side) documents (with_change (settlement j).change before)
    by (Ok o) is = did o.change (judged_pushed c before (request_of k side (push_documents documents)) documents o refl body is)
    by (Err refusal) is = unchanged before (database_of_side k side) documents
push_appends c before k side documents r after small lawful (inr (inl none)) = subst (λ (x : Contents). Pushed before (database_of_side k side) documents x) (sym none.1) (unchanged before (database_of_side k side) documents)
push_appends c before k side documents r after small lawful (inr (inr failed)) = subst (λ (x : Contents). Pushed before (database_of_side k side) documents x) (sym failed.1) (unchanged before (database_of_side k side) documents)
