-- A call for the changes that is answered with 200 lists them.
use Rattle.std.proofs.Common.{◌≡◌, ◌≤◌, ◌<◌, ◌^◌, ⊎_elim, ℕ, true, false, Option, Some, None, option_map, option_and_then, Ok, codes, sym, ap, ◌∙◌, arith}
use Rattle.std.specs.Prelude.{IfSome, unwrap_or}
use Rattle.couch_json.specs.Range.{greatest_count}
use Rattle.std.specs.FinMap.{get}
use Rattle.auth.specs.Callers as auth
use Rattle.couch_http.specs.Message.{Message}
use Rattle.couch_json.specs.Value.{Value}
use Rattle.store.specs.Contents.{Contents}
use Rattle.store.specs.Database.{Database}
use Rattle.store.specs.declared.listing.SeqRange.{SeqRange}
use Rattle.read.specs.Changes.{changes_in}
use Rattle.api.specs.Asking.{is_nothing}
use Rattle.api.specs.Listings as api
use Rattle.api.specs.Listings.{changes_asked, range_asked}
use Rattle.api.specs.Paths.{document_id_in}
use Rattle.api.specs.Queries.{asked_of_document, document_query}
use Rattle.api.specs.Refusals.{and_then, there_or}
use Rattle.api.specs.Views.{keys_asked}
use Rattle.api.specs.declared.method.RequestMethod.TheVariants.{Get}
use Rattle.api.specs.declared.page.Page.{Page}
use Rattle.api.specs.declared.refusal.Refusal.TheVariants.{Id, Query}
use Rattle.node.specs.Answer.{Outcome, Task, reply, task_of, task_outcome}
use Rattle.node.specs.Works.{change_list, document_read, refusal_of_read, read_by}
use Rattle.node.proofs.Tasks.{named as was_named, same, went}
use Rattle.repl.specs.Calls.{changes_call_query, list_changes, request_of}
use Rattle.repl.specs.Configuration.{PassConfiguration, database_of_side}
use Rattle.repl.specs.declared.side.Side.{Side}
use Rattle.passes.proofs.GetReads.{HasOwnParameters, changes_or_document}
use Rattle.passes.proofs.Judged.{WasRead, judged, next_never, there_never}
use Rattle.passes.proofs.Spellings.{changes-pairs, changes-parameters, count-decimal, leads_into}
use Rattle.passes.specs.Spelled.{ChangesAreListed, changes_after}

-- what is asked for is a list of changes on one page alone
record AsksChanges (m : Message) (range : SeqRange) : Type 0 where
  own : HasOwnParameters m
  document : document_query m.query ≡ None
  changes : api.changes_query m.query ≡ Some range

no_document : (m : Message) (range : SeqRange) → AsksChanges m range → (db : Database) (v : Value) → document_read m db ≡ Ok v → ⊥
no_document m range asks db v e =
    next_never (there_or Id (document_id_in m.path)) (λ id. and_then (there_or Query (document_query m.query)) (λ query. refusal_of_read (read_by id query.revs query.asked db))) v
    (λ id k. there_never Query (document_query m.query) (λ query. refusal_of_read (read_by id query.revs query.asked db)) v asks.document k) e

abbrev Listed : Contents → Message → Outcome → Type 0
Listed a m o = WasRead a m (λ name. change_list m) o

at_page : (page : Page) (caller : auth.Identity) (a : Contents) (m : Message) (range : SeqRange) (task : Task) (o : Outcome) → AsksChanges m range
    → task_of page (Some Get) caller m ≡ Ok task → task_outcome caller a task ≡ Ok o → Listed a m o
at_page page caller a m range task o asks e f =
    ⊎_elim (λ w. w) (λ w. absurd (no_document m range asks w.db w.value w.was)) (changes_or_document page caller a m task o asks.own e f)

abbrev given : ℕ → Option ℕ
given n = Some n

abbrev are_asked : Option (Option ℕ) → Option (Option ℕ) → Option SeqRange
are_asked limit since = option_and_then (λ n. option_and_then (λ l. option_map (λ style. record { since = unwrap_or n 0; limit = l; all_leaves = unwrap_or style false; counted = false }) (Some (Some true))) limit) since

-- what the query says
query_says : (since : ℕ) (most : Option ℕ) → since ≤ greatest_count → IfSome most (λ n. n ≤ greatest_count) → api.changes_query (Some (changes_call_query since most)) ≡ Some (changes_after since most)
query_says since None few bound =
    ap changes_asked (changes-parameters since None (omega arith) tt)
    ∙ ap (λ (o : Option ℕ). are_asked (Some None) (option_map (λ a. given a) o)) (count-decimal since few)
query_says since (Some n) few bound =
    ap changes_asked (changes-parameters since (Some n) (omega arith) (omega (arith, bound)))
    ∙ (λ i. are_asked (option_map (λ a. given a) (count-decimal n bound i)) (option_map (λ a. given a) (count-decimal since few i)))

below : (most : Option ℕ) → IfSome most (λ n. n ≤ greatest_count) → IfSome most (λ n. n < 2 ^ 64)
below None bound = tt
below (Some n) bound = omega (arith, bound)

asks : (k : PassConfiguration) (side : Side) (since : ℕ) (most : Option ℕ) → since ≤ greatest_count → IfSome most (λ n. n ≤ greatest_count)
    → AsksChanges (request_of k side (list_changes since most)) (changes_after since most)
asks k side since most few bound =
    let parameters = changes-parameters since most (omega arith) (below most bound) in
    record {
      own = record { some = ap is_nothing (changes-pairs since most (omega arith) (below most bound)); listing = ap range_asked parameters; view = ap keys_asked parameters };
      document = ap asked_of_document parameters;
      changes = query_says since most few bound;
    }

pub changes_listed_by : ChangesAreListed
changes_listed_by c a k side since most small few bound ok =
    let m = request_of k side (list_changes since most) in
    let range = changes_after since most in
    let j = judged c a m (omega (arith, ok)) in
    let says = asks k side since most few bound in
    let w = at_page j.page j.caller a m range j.task j.outcome says j.asked j.came in
    let named : database_of_side k side ≡ w.name = leads_into (database_of_side k side) (codes "_changes") w.name small w.own in
    let l = went (there_or Query (api.changes_query m.query)) (λ r. Ok (changes_in r w.db)) w.value w.was in
    let same_range : range ≡ l.first = (let e : Some range ≡ Some l.first = sym says.changes ∙ was_named Query (api.changes_query m.query) l.first l.was in cc) in
    let value : changes_in range w.db ≡ w.value = ap (λ (r : SeqRange). changes_in r w.db) same_range ∙ same {A = Value} _ w.value l.then in
    record {
      db = w.db;
      there = ap (get a) named ∙ w.there;
      is = j.told ∙ w.is ∙ ap reply (sym value);
    }
