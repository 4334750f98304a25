-- Where nobody asks to remove a database, it stays there.
use Rattle.std.proofs.Common.{◌≡◌, ◌≢◌, ◌∙◌, ◌⊎◌, inl, inr, ℕ, List, [], ◌∷◌, ◌++◌, Option, Some, None, Result, Ok, Err, refl, sym, ap, subst}
use Rattle.std.specs.Prelude.{⊤, is_none, slice_set}
use Rattle.std.specs.FinMap.{get}
use Rattle.std.specs.List.{AllByRecursion, slice_get}
use Rattle.std.proofs.lemmas.Bool.{cases_eq}
use Rattle.api.specs.Asking.{asker, method_named, plain}
use Rattle.api.specs.Refusals.{and_then, there_or, true_or}
use Rattle.api.specs.Routing.{page_of}
use Rattle.api.specs.declared.method.RequestMethod.{RequestMethod}
use Rattle.api.specs.declared.method.RequestMethod.TheVariants.{Get, Put, Post, Delete}
use Rattle.api.specs.declared.page.Page.{Page}
use Rattle.api.specs.declared.page.Page.TheVariants.{Welcome, AllDatabases, Database as DatabasePage, Security, BulkDocuments, AllDocuments, Changes, Differences, Find, Index, View, Document, LocalDocument}
use Rattle.api.specs.declared.refusal.Refusal.{Refusal}
use Rattle.api.specs.declared.refusal.Refusal.TheVariants.{Exists, Path}
use Rattle.auth.specs.Callers.{Configuration, Identity}
use Rattle.couch_http.specs.Message.{Message}
use Rattle.couch_http.specs.Reply.{Reply}
use Rattle.policy.specs.declared.action.Action.{Action}
use Rattle.policy.specs.declared.action.Action.TheVariants.{Read, WriteDocument, WriteSecurity}
use Rattle.store.specs.Contents.{Contents}
use Rattle.store.specs.Database.{Database}
use Rattle.node.proofs.Steps.{answer_made, step_later}
use Rattle.node.proofs.Tasks.{IsMade, named, same, went}
use Rattle.node.specs.Answer.{Outcome, Task, admin_task, administration, answer, change_at, created, creation, database_name_of, entry, judgement, kept, listed, outcome_in_database, page_outcome, removal, removed, reply, settlement, task_of, task_outcome, told, welcome, work_task, worked}
use Rattle.node.specs.Effects.{IsLaterThan}
use Rattle.node.specs.Runs.{Steps}
use Rattle.node.specs.Step.{Serving}
use Rattle.node.specs.Work.{Effect, Work, appended, local_put, nothing, read_work, secured}
use Rattle.node.specs.Works.{change_list, database_read, difference_list, document_deleted, document_finds, document_list, document_read, document_written, documents_written, done, index_written, local_read, local_written, security_read, security_written, view_read}
use Rattle.hub.specs.Arrival.{Arrival, fault_on, request_on}
use Rattle.repl.specs.Passes.{Asked, to_source, to_target, done as ended_done, stopped_by, asked_of}
use Rattle.repl.specs.Turns.{Turn}
use Rattle.world.specs.Exchanging.{IsAsked, IsCarried, Question, question_to_source, question_to_target}
use Rattle.world.specs.Happening.{Happening, Sight, comes, exchanges}
use Rattle.world.specs.Keeping.{IsAt, StaysAt}
use Rattle.world.specs.Network.{Network, Transfer, node_of_connection}
use Rattle.world.specs.Playing.{Happens, Plays}
use Rattle.world.specs.Service.{Asker, Handling, IsAnswered, IsHandled, IsService, SeenReply, alike, by_pass, on_connection}
use Rattle.world.specs.declared.fate.Fate.{Fate}
use Rattle.world.specs.declared.fate.Fate.TheVariants.{Answered, ReplyLost, RequestLost}
use Rattle.replication.specs.Courses.{CoursesWithoutRemovals, GoesBy, Stage, arranges, requests_by, runs}
use Rattle.replication.specs.Requests.{DatabasesStay, AreNoRemovals, AsksRemoval, Handled, handled_answer, handled_asked, handled_at, handled_carry, handled_in, handled_service, requests_of}
use Rattle.replication.specs.Runs.{Run}
use Rattle.replication.proofs.Again.{Stays, back, front}
use Rattle.replication.proofs.Keepings.{Nodes, one_node}
use Rattle.replication.proofs.Places.{set_elsewhere, set_here}

-- ---- which task removes

abbrev IsRemoval : Task → Type 0
IsRemoval (told value) = ⊥
IsRemoval listed = ⊥
IsRemoval (created name asked) = ⊥
IsRemoval (removed name asked) = ⊤
IsRemoval (worked action name work) = ⊥

work_stays : (action : Action) (m : Message) (work : List ℕ → Work) (task : Task) → work_task action m work ≡ Ok task → IsRemoval task → ⊥
work_stays action m work task e h =
    let k = went (database_name_of m) (λ name. Ok (worked action name (work name))) task e in
    subst IsRemoval (sym (same {A = Task} _ task k.then)) h

welcome_stays : (m : Message) (task : Task) → and_then (plain m) (λ _. Ok (told welcome)) ≡ Ok task → IsRemoval task → ⊥
welcome_stays m task e h = let k = went (plain m) (λ _. Ok (told welcome)) task e in subst IsRemoval (sym (same {A = Task} _ task k.then)) h

list_stays : (caller : Identity) (m : Message) (task : Task) → and_then (administration caller) (λ _. and_then (plain m) (λ _. Ok listed)) ≡ Ok task → IsRemoval task → ⊥
list_stays caller m task e h =
    let k = went (administration caller) (λ _. and_then (plain m) (λ _. Ok listed)) task e in
    let l = went (plain m) (λ _. Ok listed) task k.then in
    subst IsRemoval (sym (same {A = Task} _ task l.then)) h

created_stays : (caller : Identity) (m : Message) (task : Task) → admin_task caller m (λ name. created name (plain m)) ≡ Ok task → IsRemoval task → ⊥
created_stays caller m task e h =
    let k = went (database_name_of m) (λ name. and_then (administration caller) (λ _. Ok (created name (plain m)))) task e in
    let l = went (administration caller) (λ _. Ok (created k.first (plain m))) task k.then in
    subst IsRemoval (sym (same {A = Task} _ task l.then)) h

removes_at : (page : Page) (method : Option RequestMethod) (caller : Identity) (m : Message) (task : Task) → task_of page method caller m ≡ Ok task → IsRemoval task
    → (page ≡ DatabasePage) × (method ≡ Some Delete)
removes_at Welcome (Some Get) caller m task e h = absurd (welcome_stays m task e h)
removes_at AllDatabases (Some Get) caller m task e h = absurd (list_stays caller m task e h)
removes_at DatabasePage (Some Get) caller m task e h = absurd (work_stays Read m (λ name. read_work (database_read m name)) task e h)
removes_at DatabasePage (Some Put) caller m task e h = absurd (created_stays caller m task e h)
removes_at DatabasePage (Some Delete) caller m task e h = (refl, refl)
removes_at Security (Some Get) caller m task e h = absurd (work_stays Read m (λ name. read_work (security_read m)) task e h)
removes_at Security (Some Put) caller m task e h = absurd (work_stays WriteSecurity m (λ name. security_written m) task e h)
removes_at BulkDocuments (Some Post) caller m task e h = absurd (work_stays WriteDocument m (λ name. documents_written caller m name) task e h)
removes_at AllDocuments (Some Get) caller m task e h = absurd (work_stays Read m (λ name. read_work (document_list m)) task e h)
removes_at Changes (Some Get) caller m task e h = absurd (work_stays Read m (λ name. read_work (change_list m)) task e h)
removes_at Differences (Some Post) caller m task e h = absurd (work_stays Read m (λ name. read_work (difference_list m)) task e h)
removes_at Document (Some Get) caller m task e h = absurd (work_stays Read m (λ name. read_work (document_read m)) task e h)
removes_at Document (Some Put) caller m task e h = absurd (work_stays WriteDocument m (λ name. document_written caller m name) task e h)
removes_at Document (Some Delete) caller m task e h = absurd (work_stays WriteDocument m (λ name. document_deleted caller m name) task e h)
removes_at Find (Some Post) caller m task e h = absurd (work_stays Read m (λ name. read_work (document_finds m)) task e h)
removes_at Index (Some Post) caller m task e h = absurd (work_stays WriteDocument m (λ name. index_written caller m name) task e h)
removes_at View (Some Get) caller m task e h = absurd (work_stays Read m (λ name. read_work (view_read m)) task e h)
removes_at LocalDocument (Some Get) caller m task e h = absurd (work_stays Read m (λ name. read_work (local_read m)) task e h)
removes_at LocalDocument (Some Put) caller m task e h = absurd (work_stays Read m (λ name. local_written caller m) task e h)
removes_at page method caller m task e h = absurd cc

inside_stays : (name n : List ℕ) (effect : Effect) → change_at name effect ≡ removal n → ⊥
inside_stays name n nothing e = cc
inside_stays name n (appended ws) e = cc
inside_stays name n (secured v) e = cc
inside_stays name n (local_put id document) e = cc

removes_by : (caller : Identity) (a : Contents) (task : Task) (o : Outcome) (n : List ℕ) → task_outcome caller a task ≡ Ok o → o.change ≡ removal n → IsRemoval task
removes_by caller a (told value) o n e h =
    let k : kept ≡ removal n = ap (λ (x : Outcome). x.change) (same {A = Outcome} (reply value) o e) ∙ h in absurd cc
removes_by caller a listed o n e h = let k : kept ≡ removal n = ap (λ (x : Outcome). x.change) (same {A = Outcome} _ o e) ∙ h in absurd cc
removes_by caller a (created name asked) o n e h =
    let made : Outcome = record { status = 201; value = done; change = creation name } in
    let k = went (true_or Exists (is_none (get a name))) (λ _. and_then asked (λ _. Ok made)) o e in
    let l = went asked (λ _. Ok made) o k.then in
    let x : creation name ≡ removal n = ap (λ (y : Outcome). y.change) (same {A = Outcome} _ o l.then) ∙ h in absurd cc
removes_by caller a (removed name asked) o n e h = tt
removes_by caller a (worked action name work) o n e h =
    let k = went (entry caller action (get a name)) (λ db. and_then (work db) (λ d. Ok (outcome_in_database name d))) o e in
    let l = went (work k.first) (λ d. Ok (outcome_in_database name d)) o k.then in
    inside_stays name n l.first.effect (ap (λ (y : Outcome). y.change) (same {A = Outcome} _ o l.then) ∙ h)

-- only a request to remove a database removes it
asks_removal : (c : Configuration) (a : Contents) (m : Message) (n : List ℕ) → (answer c a m).change ≡ removal n → AsksRemoval m n
asks_removal c a m n e = by (judgement c a m) refl
  where
    by : (r : Result Outcome Refusal) → judgement c a m ≡ r → AsksRemoval m n
    by (Ok o) is =
        let change : o.change ≡ removal n = ap (λ (r : Result Outcome Refusal). (settlement r).change) (sym is) ∙ e in
        let k = went (asker c m) (λ caller. and_then (there_or Path (page_of m.path)) (λ page. page_outcome page (method_named m.method) caller a m)) o is in
        let l = went (there_or Path (page_of m.path)) (λ page. page_outcome page (method_named m.method) k.first a m) o k.then in
        let t = went (task_of l.first (method_named m.method) k.first m) (λ task. task_outcome k.first a task) o l.then in
        let at = removes_at l.first (method_named m.method) k.first m t.first t.was (removes_by k.first a t.first o n t.then change) in
        record { page = named Path (page_of m.path) l.first l.was ∙ ap Some at.0; method = at.1; names = subst (IsMade a m) e (answer_made c a m) }
    by (Err refusal) is = let k : kept ≡ removal n = ap (λ (r : Result Outcome Refusal). (settlement r).change) (sym is) ∙ e in absurd cc

both : {A : Type 0} (P : A → Type 0) (xs ys : List A) → AllByRecursion P xs → AllByRecursion P ys → AllByRecursion P (xs ++ ys)
both P [] ys h k = k
both P (x ∷ xs) ys h k = (h.0, both P xs ys h.1 k)

-- ---- a database that nobody asks to remove stays

there_still : (db : Database) (o : Option Database) → IsLaterThan db o → (now : Database) × (o ≡ Some now)
there_still db None h = absurd h
there_still db (Some now) h = (now, refl)

stays_unless : (old new : Nodes) (place q : ℕ) (m : Message) (r : Reply) (name : List ℕ) → IsHandled Steps old place m r new → (place ≡ q → AsksRemoval m name → ⊥) → StaysAt old new q name
stays_unless old new place q m r name h spared db at = by (cases_eq q place)
  where
    next_node : Serving Contents
    next_node = record h.node { store = h.after }

    by : (q ≡ place) ⊎ (q ≢ place) → (now : Database) × IsAt new q name now
    by (inl e) =
        let node : at.node ≡ h.node = one_node at.node h.node (sym at.there ∙ ap (slice_get old) e ∙ h.there) in
        let before : get h.node.store name ≡ Some db = ap (λ (n : Serving Contents). get n.store name) (sym node) ∙ at.holds in
        let later = step_later h.node.configuration h.node.store m (λ _. ⊤) r h.after name db h.handled
        (λ gone. spared (sym e) (asks_removal h.node.configuration h.node.store m name gone)) before in
        let still = there_still db (get h.after name) later in (
          still.0,
          record {
            node = next_node;
            there = ap (λ (xs : Nodes). slice_get xs q) h.left ∙ ap (slice_get (slice_set old place next_node)) e ∙ set_here old place h.node next_node h.there;
            holds = still.1;
          },
        )
    by (inr e) = (
      db,
      record {
        node = at.node;
        there = ap (λ (xs : Nodes). slice_get xs q) h.left ∙ set_elsewhere old place q next_node e ∙ at.there;
        holds = at.holds;
      },
    )

module _ {S : Type 0} (handling : Handling S) (P Q : Handled S → Type 0)
    (each : (who : Asker) (old : List (Serving S)) (place : ℕ) (m : Message) (r : Reply) (new : List (Serving S)) → handling who old place m r new
    → P (record { who = who; old = old; place = place; message = m; reply = r; new = new }) → Q (record { who = who; old = old; place = place; message = m; reply = r; new = new })) where
  answer_so : (homes : List ℕ) (old : List (Serving S)) (a : Arrival) (t : SeenReply) (new : List (Serving S)) (p : IsAnswered handling homes old a t new)
      → AllByRecursion P (handled_answer handling homes old a t new p) → AllByRecursion Q (handled_answer handling homes old a t new p)
  answer_so homes old (request_on conn m) t new p h = (each (on_connection conn) old (node_of_connection homes conn) m t.reply new p.1 h.0, tt)
  answer_so homes old (fault_on conn f) t new p h = tt

  service_so : (homes : List ℕ) (old : List (Serving S)) (ars : List Arrival) (ts : List SeenReply) (new : List (Serving S)) (p : IsService handling homes old ars ts new)
      → AllByRecursion P (handled_service handling homes old ars ts new p) → AllByRecursion Q (handled_service handling homes old ars ts new p)
  service_so homes old [] [] new p h = tt
  service_so homes old [] (t ∷ ts) new p h = absurd p
  service_so homes old (a ∷ ars) [] new p h = absurd p
  service_so homes old (a ∷ ars) (t ∷ ts) new (between, here, later) h =
      let rs = handled_answer handling homes old a t between here in
      let rest = handled_service handling homes between ars ts new later in
      both Q rs rest (answer_so homes old a t between here (front P rs rest h)) (service_so homes between ars ts new later (back P rs rest h))

  carried_so : (fate : Fate) (old : List (Serving S)) (q : Question) (t : Turn) (new : List (Serving S)) (c : IsCarried handling fate old q t new)
      → AllByRecursion P (handled_carry handling fate old q t new c) → AllByRecursion Q (handled_carry handling fate old q t new c)
  carried_so Answered old q t new c h = (each (by_pass q.number Answered) old q.place q.message c.0 new c.1 h.0, tt)
  carried_so ReplyLost old q t new c h = (each (by_pass q.number ReplyLost) old q.place q.message c.0 new c.1 h.0, tt)
  carried_so RequestLost old q t new c h = tt

  asked_so : (fate : Fate) (old : Network S) (number : ℕ) (t : Transfer) (asked : Asked) (seen : List Sight) (new : Network S) (p : IsAsked handling fate old number t asked seen new)
      → AllByRecursion P (handled_asked handling fate old number t asked seen new p) → AllByRecursion Q (handled_asked handling fate old number t asked seen new p)
  asked_so fate old number t (to_source m) seen new p h = carried_so fate old.nodes (question_to_source number t m) p.turn p.nodes p.carried h
  asked_so fate old number t (to_target m) seen new p h = carried_so fate old.nodes (question_to_target number t m) p.turn p.nodes p.carried h
  asked_so fate old number t (ended_done s) seen new p h = tt
  asked_so fate old number t (stopped_by why s) seen new p h = tt

  event_so : (h : Happening) (old : Network S) (seen : List Sight) (new : Network S) (p : Happens handling old h seen new) → AllByRecursion P (handled_at handling h old seen new p)
      → AllByRecursion Q (handled_at handling h old seen new p)
  event_so (comes piece) old seen new (replies, played, is) h = service_so old.homes old.nodes played.arrivals replies new.nodes played.served h
  event_so (exchanges number fate) old seen new p h = asked_so fate old number p.transfer (asked_of p.transfer.pass) seen new p.asked h

  pub plays_so : (hs : List Happening) (old : Network S) (seen : List Sight) (new : Network S) (p : Plays handling old hs seen new) → AllByRecursion P (handled_in handling hs old seen new p)
      → AllByRecursion Q (handled_in handling hs old seen new p)
  plays_so [] old seen new p h = tt
  plays_so (h ∷ hs) old seen new (first, others, between, here, later, order) k =
      let rs = handled_at handling h old first between here in
      let rest = handled_in handling hs between others new later in
      both Q rs rest (event_so h old first between here (front P rs rest k)) (plays_so hs between others new later (back P rs rest k))

abbrev Spares : Transfer → Handled Contents → Type 0
Spares t r = (r.place ≡ t.from → AsksRemoval r.message t.pass.configuration.source_db → ⊥) × (r.place ≡ t.to → AsksRemoval r.message t.pass.configuration.target_db → ⊥)

run_without : (t : Transfer) (old new : Network Contents) (run : Run (alike Steps) old new) → AreNoRemovals t (requests_of run) → DatabasesStay t (requests_of run)
run_without t old new run h =
    plays_so (alike Steps) (Spares t) (Stays t)
    (λ who a place m r b handled spared. (
      stays_unless a b place t.from m r t.pass.configuration.source_db handled spared.0,
      stays_unless a b place t.to m r t.pass.configuration.target_db handled spared.1,
    )) run.happenings old run.seen new run.played h

stages_without : (t : Transfer) (ss : List Stage) (old new : Network Contents) (g : GoesBy Steps ss old new) → AreNoRemovals t (requests_by Steps ss old new g) → DatabasesStay t (requests_by Steps ss old new g)
stages_without t [] old new g h = tt
stages_without t (runs ∷ ss) old new (between, run, rest) h =
    let rs = requests_of run in
    let others = requests_by Steps ss between new rest in
    both (Stays t) rs others (run_without t old between run (front (Spares t) rs others h)) (stages_without t ss between new rest (back (Spares t) rs others h))
stages_without t (arranges ∷ ss) old new (between, arranged, rest) h = stages_without t ss between new rest h

pub without_removals : CoursesWithoutRemovals
without_removals t old new course h = stages_without t course.stages old new course.goes h
