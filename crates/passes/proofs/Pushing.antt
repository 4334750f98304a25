-- A push that is answered with 201 was judged document by document.
use Rattle.std.proofs.Common.{◌≡◌, ℕ, List, [], ◌∷◌, false, Some, Ok, Err, codes, refl, sym, ap, ◌∙◌, arith}
use Rattle.std.specs.FinMap.{get}
use Rattle.auth.specs.Callers as auth
use Rattle.couch_http.specs.Message.{Message}
use Rattle.couch_json.specs.Reading.{reading}
use Rattle.couch_json.specs.Value.{Value}
use Rattle.couch_json.specs.View.{items_of}
use Rattle.couch_json.proofs.ReadingBack.{what_was_read}
use Rattle.find.specs.Indexes.{index_in}
use Rattle.policy.specs.declared.action.Action.TheVariants.{WriteDocument}
use Rattle.store.specs.Contents.{Contents}
use Rattle.store.specs.Database.{Database, history_at}
use Rattle.write.specs.Bulk.{DocumentOutcome, outcomes}
use Rattle.write.specs.Terms.{terms_in}
use Rattle.api.specs.Asking.{json_body, plain}
use Rattle.api.specs.Bulk.{Bulk, bulk_in, elements_of_items}
use Rattle.api.specs.Refusals.{and_then, there_or}
use Rattle.api.specs.declared.method.RequestMethod.TheVariants.{Post}
use Rattle.api.specs.declared.page.Page.{Page}
use Rattle.api.specs.declared.page.Page.TheVariants.{Welcome, AllDatabases, Database as DatabasePage, Security, BulkDocuments, AllDocuments, Changes, Differences, Find, Index, View, Document, LocalDocument}
use Rattle.api.specs.declared.refusal.Refusal.TheVariants.{Body, Method}
use Rattle.node.specs.Answer.{Outcome, Task, outcome_in_database, task_of, task_outcome}
use Rattle.node.specs.Work.{Done}
use Rattle.node.specs.Works.{bulk_done, bulk_written, difference_list, document_finds, documents_written, index_asked_in, index_done, index_written}
use Rattle.node.proofs.Tasks.{named as was_named, same, went}
use Rattle.repl.specs.Calls.{documents_value, push_documents, request_of}
use Rattle.repl.specs.Configuration.{database_of_side}
use Rattle.passes.proofs.Comparing.{value_was}
use Rattle.passes.proofs.Judged.{Worked, judged, never, read_out, work_out}
use Rattle.passes.proofs.Spellings.{leads_into}
use Rattle.passes.specs.Spelled.{DocumentsArePushed, replica_bulk}

elements_back : (vs : List Value) → elements_of_items (items_of vs) ≡ vs
elements_back [] = refl
elements_back (v ∷ vs) = ap (λ (xs : List Value). v ∷ xs) (elements_back vs)

asked_back : (vs : List Value) → bulk_in (documents_value vs) ≡ Some (replica_bulk vs)
asked_back vs = ap (λ (xs : List Value). Some (replica_bulk xs)) (elements_back vs)

index_status : (caller : auth.Identity) (id name : List ℕ) (r : DocumentOutcome) (d : Done) → index_done caller id name r ≡ Ok d → d.status ≡ 200
index_status caller id name (Ok w) d e = sym (ap (λ (x : Done). x.status) (same {A = Done} _ d e))
index_status caller id name (Err fault) d e = absurd cc

index_written_status : (caller : auth.Identity) (m : Message) (name : List ℕ) (db : Database) (d : Done) → index_written caller m name db ≡ Ok d → d.status ≡ 200
index_written_status caller m name db d e =
    let k = went (plain m) (λ _. and_then (json_body m) (λ value. and_then (there_or Body (index_in value)) (λ asked. index_asked_in caller name db asked))) d e in
    let l = went (json_body m) (λ value. and_then (there_or Body (index_in value)) (λ asked. index_asked_in caller name db asked)) d k.then in
    let b = went (there_or Body (index_in l.first)) (λ asked. index_asked_in caller name db asked) d l.then in
    index_status caller b.first.design b.first.name _ d b.then

abbrev Pushed : auth.Identity → Contents → Message → Outcome → Type 0
Pushed caller a m o = Worked a m (λ name. documents_written caller m name) o

at_page : (page : Page) (caller : auth.Identity) (a : Contents) (m : Message) (task : Task) (o : Outcome) → o.status ≡ 201 → task_of page (Some Post) caller m ≡ Ok task
    → task_outcome caller a task ≡ Ok o → Pushed caller a m o
at_page Welcome caller a m task o ok e f = absurd (never Method task e)
at_page AllDatabases caller a m task o ok e f = absurd (never Method task e)
at_page DatabasePage caller a m task o ok e f = absurd (never Method task e)
at_page Security caller a m task o ok e f = absurd (never Method task e)
at_page BulkDocuments caller a m task o ok e f = work_out caller a m WriteDocument (λ name. documents_written caller m name) task o e f
at_page AllDocuments caller a m task o ok e f = absurd (never Method task e)
at_page Changes caller a m task o ok e f = absurd (never Method task e)
at_page Differences caller a m task o ok e f =
    let w = read_out caller a m (λ name. difference_list m) task o e f in absurd (omega (arith, ok, ap (λ (x : Outcome). x.status) w.is))
at_page Find caller a m task o ok e f =
    let w = read_out caller a m (λ name. document_finds m) task o e f in absurd (omega (arith, ok, ap (λ (x : Outcome). x.status) w.is))
at_page Index caller a m task o ok e f =
    let w = work_out caller a m WriteDocument (λ name. index_written caller m name) task o e f in
    absurd (omega (arith, ok, ap (λ (x : Outcome). x.status) w.is, index_written_status caller m w.name w.db w.done w.was))
at_page View caller a m task o ok e f = absurd (never Method task e)
at_page Document caller a m task o ok e f = absurd (never Method task e)
at_page LocalDocument caller a m task o ok e f = absurd (never Method task e)

pub pushed_by : DocumentsArePushed
pushed_by c a k side documents small lawful ok =
    let m = request_of k side (push_documents documents) in
    let j = judged c a m (omega (arith, ok)) in
    let caller = j.caller in
    let w = at_page j.page caller a m j.task j.outcome (ap (λ (x : Outcome). x.status) (sym j.told) ∙ ok) j.asked j.came in
    let into : database_of_side k side ≡ w.name = leads_into (database_of_side k side) (codes "_bulk_docs") w.name small w.own in
    let p = went (plain m) (λ _. and_then (json_body m) (λ value. and_then (there_or Body (bulk_in value)) (λ bulk. bulk_written caller bulk w.name w.db))) w.done w.was in
    let l = went (json_body m) (λ value. and_then (there_or Body (bulk_in value)) (λ bulk. bulk_written caller bulk w.name w.db)) w.done p.then in
    let b = went (there_or Body (bulk_in l.first)) (λ bulk. bulk_written caller bulk w.name w.db) w.done l.then in
    let body : documents_value documents ≡ l.first = what_was_read (documents_value documents) l.first lawful (value_was (reading m.body) l.first l.was) in
    let bulk : replica_bulk documents ≡ b.first = (let e : Some (replica_bulk documents) ≡ Some b.first = sym (asked_back documents) ∙ ap bulk_in body ∙ was_named Body (bulk_in l.first) b.first b.was in cc) in
    let done : bulk_done caller (replica_bulk documents) (outcomes (terms_in caller w.name w.db) false (history_at w.db) documents) ≡ w.done =
    ap (λ (x : Bulk). bulk_done caller x (outcomes (terms_in caller w.name w.db) x.new_edits (history_at w.db) x.documents)) bulk ∙ same {A = Done} _ w.done b.then in
    record {
      db = w.db;
      caller = caller;
      asks = j.asks;
      there = ap (get a) into ∙ w.there;
      is = j.told ∙ w.is ∙ ap (outcome_in_database w.name) (sym done)
          ∙ ap (λ (n : List ℕ). outcome_in_database n (bulk_done caller (replica_bulk documents) (outcomes (terms_in caller n w.db) false (history_at w.db) documents))) (sym into);
    }
