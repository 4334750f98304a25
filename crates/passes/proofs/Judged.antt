-- What an answer comes from that is no refusal.
use Rattle.std.proofs.Common.{◌≡◌, ◌≤◌, ℕ, List, Bool, false, Option, Some, None, Result, Ok, Err, refl, sym, ap, ◌∙◌, subst, arith}
use Rattle.std.specs.FinMap.{get}
use Rattle.auth.specs.Callers.{Configuration, Identity}
use Rattle.couch_http.specs.Message.{Message}
use Rattle.couch_json.specs.Value.{Value}
use Rattle.policy.specs.declared.action.Action.{Action}
use Rattle.policy.specs.declared.action.Action.TheVariants.{Read}
use Rattle.store.specs.Contents.{Contents}
use Rattle.store.specs.Database.{Database}
use Rattle.api.specs.Asking.{asker, lacks_parameters, method_named, plain}
use Rattle.api.specs.Paths.{database_name_in}
use Rattle.api.specs.Refusals.{and_then, status_of, there_or, true_or}
use Rattle.api.specs.Routing.{page_of}
use Rattle.api.specs.declared.page.Page.{Page}
use Rattle.api.specs.declared.refusal.Refusal.{Refusal}
use Rattle.api.specs.declared.refusal.Refusal.TheVariants.{Unauthorized, Path, DatabaseName, Query}
use Rattle.node.specs.Answer.{Outcome, Task, answer, database_name_of, entry, judgement, outcome_in_database, page_outcome, reply, settlement, task_of, task_outcome, work_task, worked}
use Rattle.node.specs.Work.{Done, Work, read_work, value_done}
use Rattle.node.proofs.Tasks.{named, same, there, well, went}

-- ---- refusals

pub refused_high : (r : Refusal) → 400 ≤ status_of r
refused_high (Unauthorized rule) = omega arith
refused_high refusal = omega arith

abbrev pub ill : {A : Type 0} → Refusal → Result A Refusal
ill r = Err r

pub never : {A : Type 0} (r : Refusal) (a : A) → ill r ≡ well a → ⊥
never r a e = cc

-- a step that is never taken well
pub next_never : {A B : Type 0} (r : Result A Refusal) (go : A → Result B Refusal) (b : B) → ((a : A) → go a ≡ Ok b → ⊥) → and_then r go ≡ Ok b → ⊥
next_never r go b none e = let k = went r go b e in none k.first k.then

pub there_never : {A B : Type 0} (refusal : Refusal) (o : Option A) (go : A → Result B Refusal) (b : B) → o ≡ None → and_then (there_or refusal o) go ≡ Ok b → ⊥
there_never {A} {B} refusal o go b none e =
    never refusal b (subst (λ (x : Option A). and_then (there_or refusal x) go ≡ Ok b) none e)

pub plain_never : {B : Type 0} (m : Message) (go : Unit {0} → Result B Refusal) (b : B) → lacks_parameters m.query ≡ false → and_then (plain m) go ≡ Ok b → ⊥
plain_never {B} m go b some e = never Query b (subst (λ (x : Bool). and_then (true_or Query x) go ≡ Ok b) some e)

-- ---- an answer that is no refusal

pub record Judged (c : Configuration) (a : Contents) (m : Message) : Type 0 where
  pub outcome : Outcome
  pub caller : Identity
  pub page : Page
  pub task : Task
  pub asks : asker c m ≡ Ok caller
  pub told : answer c a m ≡ outcome
  pub leads : page_of m.path ≡ Some page
  pub asked : task_of page (method_named m.method) caller m ≡ Ok task
  pub came : task_outcome caller a task ≡ Ok outcome

record Settled (r : Result Outcome Refusal) : Type 0 where
  outcome : Outcome
  was : r ≡ Ok outcome
  told : settlement r ≡ outcome

settled : (r : Result Outcome Refusal) → (settlement r).status ≤ 399 → Settled r
settled (Ok o) low = record { outcome = o; was = refl; told = refl }
settled (Err refusal) low = absurd (omega (arith, low, refused_high refusal))

pub judged : (c : Configuration) (a : Contents) (m : Message) → (answer c a m).status ≤ 399 → Judged c a m
judged c a m low =
    let s = settled (judgement c a m) low in
    let o = s.outcome in
    let k = went (asker c m) (λ caller. and_then (there_or Path (page_of m.path)) (λ page. page_outcome page (method_named m.method) caller a m)) o s.was in
    let l = went (there_or Path (page_of m.path)) (λ page. page_outcome page (method_named m.method) k.first a m) o k.then in
    let t = went (task_of l.first (method_named m.method) k.first m) (λ task. task_outcome k.first a task) o l.then in
    record { outcome = o; caller = k.first; page = l.first; task = t.first; asks = k.was; told = s.told; leads = named Path (page_of m.path) l.first l.was; asked = t.was; came = t.then }

-- ---- work in the database of the path

pub record Worked (a : Contents) (m : Message) (work : List ℕ → Work) (o : Outcome) : Type 0 where
  pub name : List ℕ
  pub db : Database
  pub done : Done
  pub own : database_name_in m.path ≡ Some name
  pub there : get a name ≡ Some db
  pub was : work name db ≡ Ok done
  pub is : o ≡ outcome_in_database name done

pub work_out : (caller : Identity) (a : Contents) (m : Message) (action : Action) (work : List ℕ → Work) (task : Task) (o : Outcome)
    → work_task action m work ≡ Ok task → task_outcome caller a task ≡ Ok o → Worked a m work o
work_out caller a m action work task o e f =
    let k = went (database_name_of m) (λ name. Ok (worked action name (work name))) task e in
    let g : task_outcome caller a (worked action k.first (work k.first)) ≡ Ok o = subst (λ (t : Task). task_outcome caller a t ≡ Ok o) (sym (same {A = Task} _ task k.then)) f in
    let l = went (entry caller action (get a k.first)) (λ db. and_then (work k.first db) (λ d. Ok (outcome_in_database k.first d))) o g in
    let n = went (work k.first l.first) (λ d. Ok (outcome_in_database k.first d)) o l.then in
    record {
      name = k.first;
      db = l.first;
      done = n.first;
      own = named DatabaseName (database_name_in m.path) k.first k.was;
      there = there caller action (get a k.first) l.first l.was;
      was = n.was;
      is = sym (same {A = Outcome} _ o n.then);
    }

pub record WasRead (a : Contents) (m : Message) (read : List ℕ → Database → Result Value Refusal) (o : Outcome) : Type 0 where
  pub name : List ℕ
  pub db : Database
  pub value : Value
  pub own : database_name_in m.path ≡ Some name
  pub there : get a name ≡ Some db
  pub was : read name db ≡ Ok value
  pub is : o ≡ reply value

pub read_out : (caller : Identity) (a : Contents) (m : Message) (read : List ℕ → Database → Result Value Refusal) (task : Task) (o : Outcome)
    → work_task Read m (λ name. read_work (read name)) ≡ Ok task → task_outcome caller a task ≡ Ok o → WasRead a m read o
read_out caller a m read task o e f =
    let w = work_out caller a m Read (λ name. read_work (read name)) task o e f in
    let k = went (read w.name w.db) (λ value. Ok (value_done value)) w.done w.was in
    record {
      name = w.name;
      db = w.db;
      value = k.first;
      own = w.own;
      there = w.there;
      was = k.was;
      is = w.is ∙ ap (outcome_in_database w.name) (sym (same {A = Done} _ w.done k.then));
    }

-- a page whose reads are all refused
pub read_never : (caller : Identity) (a : Contents) (m : Message) (read : List ℕ → Database → Result Value Refusal) (task : Task) (o : Outcome)
    → ((name : List ℕ) (db : Database) (v : Value) → read name db ≡ Ok v → ⊥) → work_task Read m (λ name. read_work (read name)) ≡ Ok task → task_outcome caller a task ≡ Ok o → ⊥
read_never caller a m read task o none e f = let w = read_out caller a m read task o e f in none w.name w.db w.value w.was
