-- A call to compare revisions that is answered with 200 compares them.
use Rattle.std.proofs.Common.{◌≡◌, ℕ, List, [], ◌∷◌, Bool, true, false, cond, Option, Some, None, option_and_then, Result, Ok, Err, codes, Ordering, Less, Equal, Greater, nat_cmp, refl, sym, ap, ◌∙◌, arith}
use Rattle.std.specs.Prelude.{⊤}
use Rattle.std.specs.Cmp.Lexicographic.{slice_cmp}
use Rattle.std.specs.Ordering.{match_ordering}
use Rattle.std.specs.FinMap.{get}
use Rattle.auth.specs.Callers as auth
use Rattle.couch_http.specs.Message.{Message}
use Rattle.couch_json.specs.Parts.{has_only}
use Rattle.couch_json.specs.Reading.{reading}
use Rattle.couch_json.specs.Value.{Value, object, Members, no_members, member, member_at, put}
use Rattle.couch_json.specs.declared.fault.JsonFault.{JsonFault}
use Rattle.couch_json.proofs.ReadingBack.{what_was_read}
use Rattle.find.specs.Indexes.{design_in, index_in, index_with}
use Rattle.find.specs.Queries.{query_in, query_names, query_with, sort_entries}
use Rattle.find.specs.Found.{found_documents}
use Rattle.selector.specs.Grammar.{selector_in}
use Rattle.policy.specs.declared.action.Action.TheVariants.{WriteDocument}
use Rattle.store.specs.Contents.{Contents}
use Rattle.store.specs.Database.{Database}
use Rattle.read.specs.Differences.{revision_differences}
use Rattle.api.specs.Asking.{json_body, plain, value_or_refusal}
use Rattle.api.specs.Bulk.{bulk_in}
use Rattle.api.specs.Listings.{requested_differences}
use Rattle.api.specs.Refusals.{and_then, there_or}
use Rattle.api.specs.declared.method.RequestMethod.TheVariants.{Post}
use Rattle.api.specs.declared.page.Page.{Page}
use Rattle.api.specs.declared.page.Page.TheVariants.{BulkDocuments, Differences, Find, Index}
use Rattle.api.specs.declared.refusal.Refusal.{Refusal}
use Rattle.api.specs.declared.refusal.Refusal.TheVariants.{Body, Method}
use Rattle.node.specs.Answer.{Outcome, Task, reply, task_of, task_outcome}
use Rattle.node.specs.Work.{Done}
use Rattle.node.specs.Works.{bulk_written, difference_list, document_finds, documents_reply, documents_written, index_asked_in, index_written}
use Rattle.node.proofs.Tasks.{named as was_named, same, went}
use Rattle.repl.specs.Calls.{Revisions, compare_revisions, request_of, revisions_put, texts_value}
use Rattle.repl.specs.Configuration.{database_of_side}
use Rattle.passes.proofs.Judged.{WasRead, judged, never, read_never, read_out, there_never, work_out}
use Rattle.passes.proofs.Spellings.{leads_into}
use Rattle.passes.specs.Spelled.{RevisionsAreCompared}

-- ---- an object of lists of texts

-- each member is a list of texts
abbrev pub AreTexts : Members → Type 0
AreTexts no_members = ⊤
AreTexts (member name v ms) = ((ts : List (List ℕ)) × (v ≡ texts_value ts)) × AreTexts ms

-- there is no member of this name, or it is a list of texts
abbrev pub IfTexts : Option Value → Type 0
IfTexts None = ⊤
IfTexts (Some v) = (ts : List (List ℕ)) × (v ≡ texts_value ts)

texts_put : (name : List ℕ) (ts : List (List ℕ)) (ms : Members) → AreTexts ms → AreTexts (put name (texts_value ts) ms)
texts_put name ts no_members h = ((ts, refl), tt)
texts_put name ts (member other w ms) h = by (slice_cmp nat_cmp name other) (texts_put name ts ms h.1)
  where
    by : (o : Ordering) → AreTexts (put name (texts_value ts) ms)
        → AreTexts (match_ordering o (member name (texts_value ts) (member other w ms)) (member other (texts_value ts) ms) (member other w (put name (texts_value ts) ms)))
    by Less rest = ((ts, refl), h)
    by Equal rest = ((ts, refl), h.1)
    by Greater rest = (h.0, rest)

pub texts_all : (rs : List Revisions) (found : Members) → AreTexts found → AreTexts (revisions_put rs found)
texts_all [] found h = h
texts_all (r ∷ rs) found h = texts_all rs (put r.id (texts_value r.revisions) found) (texts_put r.id r.revisions found h)

pub texts_at : (name : List ℕ) (ms : Members) → AreTexts ms → IfTexts (member_at name ms)
texts_at name no_members h = tt
texts_at name (member other w ms) h = by (slice_cmp nat_cmp name other) (texts_at name ms h.1)
  where
    by : (o : Ordering) → IfTexts (member_at name ms) → IfTexts (match_ordering o (member_at name ms) (Some w) (member_at name ms))
    by Less rest = rest
    by Equal rest = h.0
    by Greater rest = rest

-- what refuses each list of texts refuses the member
no_member : {A : Type 0} (read : Value → Option A) (o : Option Value) → ((ts : List (List ℕ)) → read (texts_value ts) ≡ None) → IfTexts o → option_and_then read o ≡ None
no_member read None none h = refl
no_member {A} read (Some v) none (ts, is) = ap read is ∙ none ts

either_none : {A : Type 0} (b : Bool) (o : Option A) → o ≡ None → cond b o None ≡ None
either_none true o e = e
either_none false o e = refl

no_selector : (ts : List (List ℕ)) → selector_in (texts_value ts) ≡ None
no_selector ts = refl

no_query : (ms : Members) → AreTexts ms → query_in (object ms) ≡ None
no_query ms h =
    let v = object ms in
    either_none (has_only query_names v) _
    (ap (λ (o : Option Value). option_and_then (λ selector. option_and_then (λ entries. query_with v selector entries) (sort_entries (member_at (codes "sort") ms))) o)
    (no_member selector_in (member_at (codes "selector") ms) no_selector (texts_at (codes "selector") ms h)))

pub no_index : (ms : Members) → AreTexts ms → index_in (object ms) ≡ None
no_index ms h =
    let v = object ms in
    either_none _ _
    (ap (λ (o : Option (List ℕ)). option_and_then (λ design. index_with v design) o)
    (no_member design_in (member_at (codes "ddoc") ms) (λ ts. refl) (texts_at (codes "ddoc") ms h)))

-- ---- the call

abbrev pub HasBody : Message → Members → Type 0
HasBody m ms = (w : Value) → json_body m ≡ Ok w → w ≡ object ms

-- reading a body that is refused where its value is this object
body_never : {A B : Type 0} (m : Message) (ms : Members) (read : Value → Option A) (go : Value → A → Result B Refusal) (b : B) → HasBody m ms → read (object ms) ≡ None
    → and_then (plain m) (λ _. and_then (json_body m) (λ value. and_then (there_or Body (read value)) (λ a. go value a))) ≡ Ok b → ⊥
body_never m ms read go b is none e =
    let k = went (plain m) (λ _. and_then (json_body m) (λ value. and_then (there_or Body (read value)) (λ a. go value a))) b e in
    let l = went (json_body m) (λ value. and_then (there_or Body (read value)) (λ a. go value a)) b k.then in
    there_never Body (read l.first) (λ a. go l.first a) b (ap read (is l.first l.was) ∙ none) l.then

status_of_bulk : (caller : auth.Identity) (m : Message) (name : List ℕ) (db : Database) (d : Done) → documents_written caller m name db ≡ Ok d → d.status ≡ 201
status_of_bulk caller m name db d e =
    let k = went (plain m) (λ _. and_then (json_body m) (λ value. and_then (there_or Body (bulk_in value)) (λ bulk. bulk_written caller bulk name db))) d e in
    let l = went (json_body m) (λ value. and_then (there_or Body (bulk_in value)) (λ bulk. bulk_written caller bulk name db)) d k.then in
    let b = went (there_or Body (bulk_in l.first)) (λ bulk. bulk_written caller bulk name db) d l.then in
    sym (ap (λ (x : Done). x.status) (same {A = Done} _ d b.then))

abbrev Compared : Contents → Message → Outcome → Type 0
Compared a m o = WasRead a m (λ name. difference_list m) o

at_page : (page : Page) (caller : auth.Identity) (a : Contents) (m : Message) (ms : Members) (task : Task) (o : Outcome) → HasBody m ms → AreTexts ms → o.status ≡ 200
    → task_of page (Some Post) caller m ≡ Ok task → task_outcome caller a task ≡ Ok o → Compared a m o
at_page BulkDocuments caller a m ms task o body texts ok e f =
    let w = work_out caller a m WriteDocument (λ name. documents_written caller m name) task o e f in
    let created : o.status ≡ 201 = ap (λ (x : Outcome). x.status) w.is ∙ status_of_bulk caller m w.name w.db w.done w.was in
    absurd (omega (arith, ok, created))
at_page Differences caller a m ms task o body texts ok e f = read_out caller a m (λ name. difference_list m) task o e f
at_page Find caller a m ms task o body texts ok e f =
    absurd (read_never caller a m (λ name. document_finds m) task o
    (λ name db v k. body_never m ms query_in (λ value query. Ok (documents_reply (found_documents query db))) v body (no_query ms texts) k) e f)
at_page Index caller a m ms task o body texts ok e f =
    let w = work_out caller a m WriteDocument (λ name. index_written caller m name) task o e f in
    absurd (body_never m ms index_in (λ value asked. index_asked_in caller w.name w.db asked) w.done body (no_index ms texts) w.was)
at_page page caller a m ms task o body texts ok e f = absurd (never Method task e)

pub value_was : (r : Result Value JsonFault) (w : Value) → value_or_refusal r ≡ Ok w → r ≡ Ok w
value_was (Ok v) w e = ap Ok (same v w e)
value_was (Err fault) w e = absurd cc

pub compared_by : RevisionsAreCompared
compared_by c a k side leaves small lawful ok =
    let m = request_of k side (compare_revisions leaves) in
    let ms = revisions_put leaves no_members in
    let body : HasBody m ms = λ w e. sym (what_was_read (object ms) w lawful (value_was (reading m.body) w e)) in
    let j = judged c a m (omega (arith, ok)) in
    let w = at_page j.page j.caller a m ms j.task j.outcome body (texts_all leaves no_members tt) (ap (λ (x : Outcome). x.status) (sym j.told) ∙ ok) j.asked j.came in
    let into : database_of_side k side ≡ w.name = leads_into (database_of_side k side) (codes "_revs_diff") w.name small w.own in
    let p = went (plain m) (λ _. and_then (json_body m) (λ value. and_then (there_or Body (requested_differences value)) (λ asked. Ok (revision_differences asked w.db)))) w.value w.was in
    let l = went (json_body m) (λ value. and_then (there_or Body (requested_differences value)) (λ asked. Ok (revision_differences asked w.db))) w.value p.then in
    let d = went (there_or Body (requested_differences l.first)) (λ asked. Ok (revision_differences asked w.db)) w.value l.then in
    record {
      db = w.db;
      asked = d.first;
      there = ap (get a) into ∙ w.there;
      says = ap requested_differences (sym (body l.first l.was)) ∙ was_named Body (requested_differences l.first) d.first d.was;
      is = j.told ∙ w.is ∙ ap reply (sym (same {A = Value} _ w.value d.then));
    }
