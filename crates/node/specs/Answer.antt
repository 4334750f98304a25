-- The answer to a request, in two steps: what it asks, which no database decides, and what comes of that; its status, its value and the change that it makes.
-- CouchDB manual, api/server/common, api/database/common, api/database/security and api/document/common; the order of refusals is this server's own.
use Rattle.std.specs.Prelude.{ℕ, List, map, Option, Some, None, is_none, Result, Ok, Err, codes}
use Rattle.std.specs.FinMap.{get, insert, keys, remove}
use Rattle.auth.specs.Callers.{Identity, Configuration}
use Rattle.couch_http.specs.Message.{Message}
use Rattle.couch_json.specs.Value.{Value, text, array, object, no_members, put}
use Rattle.couch_json.specs.View.{items_of}
use Rattle.policy.specs.Security.{closed_security}
use Rattle.policy.specs.Verdict.{verdict}
use Rattle.policy.specs.declared.action.Action.{Action}
use Rattle.policy.specs.declared.action.Action.TheVariants.{Administer, Read, WriteSecurity, WriteDocument}
use Rattle.policy.specs.declared.rule.Rule.{Rule}
use Rattle.store.specs.Contents.{Contents, new_database}
use Rattle.store.specs.Database.{Database}
use Rattle.api.specs.Asking.{asker, denial, method_named, plain}
use Rattle.api.specs.Paths.{database_name_in}
use Rattle.api.specs.Refusals.{refusal_value, status_of, and_then, there_or, true_or}
use Rattle.api.specs.Routing.{page_of}
use Rattle.node.specs.Work.{Done, Effect, Work, nothing, read_work, with_effect}
use Rattle.node.specs.Works.{change_list, database_read, difference_list, document_deleted, document_finds, document_list, document_read, document_written, documents_written, done, index_written, local_read, local_written, security_read, security_written, view_read}
use Rattle.api.specs.declared.method.RequestMethod.{RequestMethod}
use Rattle.api.specs.declared.method.RequestMethod.TheVariants.{Get, Put, Post, Delete}
use Rattle.api.specs.declared.page.Page.{Page}
use Rattle.api.specs.declared.page.Page.TheVariants.{Welcome, AllDatabases, Database as DatabasePage, Security, BulkDocuments, AllDocuments, Changes, Differences, Find, Index, View, Document, LocalDocument}
use Rattle.api.specs.declared.refusal.Refusal.{Refusal}
use Rattle.api.specs.declared.refusal.Refusal.TheVariants.{Path, Method, DatabaseName, NoDatabase, Exists}

-- ---- what a request comes to

-- what is done to the databases
pub data Change : Type 0 where
  kept : Change
  -- a new database of this name
  creation : List ℕ → Change
  -- the database of this name with all that it holds, gone
  removal : List ℕ → Change
  -- an effect on the database of this name
  inside : List ℕ → Effect → Change

-- the databases with an effect on one, where it is there
abbrev pub with_effect_at : Contents → List ℕ → Effect → Option Database → Contents
with_effect_at databases name effect None = databases
with_effect_at databases name effect (Some db) = insert databases name (with_effect effect db)

-- the databases afterwards
abbrev pub with_change : Change → Contents → Contents
with_change kept databases = databases
with_change (creation name) databases = insert databases name new_database
with_change (removal name) databases = remove databases name
with_change (inside name effect) databases = with_effect_at databases name effect (get databases name)

-- what comes of a request: the status, the value, and what changes
pub record Outcome : Type 0 where
  pub status : ℕ
  pub value : Value
  pub change : Change

-- a value, and nothing is changed
abbrev pub reply : Value → Outcome
reply value = record { status = 200; value = value; change = kept }

-- an effect on a database as a change
abbrev pub change_at : List ℕ → Effect → Change
change_at name nothing = kept
change_at name effect = inside name effect

-- what was done in the database of this name
abbrev pub outcome_in_database : List ℕ → Done → Outcome
outcome_in_database name d = record { status = d.status; value = d.value; change = change_at name d.effect }

-- ---- what a request asks

-- what a request asks to be done: to be told a value, the list of databases, one made or removed, or work in one
pub data Task : Type 0 where
  -- this value
  told : Value → Task
  -- the names of all databases
  listed : Task
  -- a new database of this name, where it may be asked for so
  created : List ℕ → Result (Unit {0}) Refusal → Task
  -- that there is no database of this name, where it may be asked for so
  removed : List ℕ → Result (Unit {0}) Refusal → Task
  -- this work in the database of this name, whose policy is asked for the action
  worked : Action → List ℕ → Work → Task

-- who answers here
abbrev pub welcome : Value
welcome = object (put (codes "version") (text (codes "3-profile")) (put (codes "couchdb") (text (codes "Welcome")) no_members))

-- no rule refuses
abbrev pub permission : Identity → Option Rule → Result (Unit {0}) Refusal
permission caller None = Ok tt
permission caller (Some rule) = Err (denial caller rule)

-- the caller may list, create and remove databases; no security object is asked
abbrev pub administration : Identity → Result (Unit {0}) Refusal
administration caller = permission caller (verdict Administer caller closed_security)

-- the name of the database that the path leads into
abbrev pub database_name_of : Message → Result (List ℕ) Refusal
database_name_of m = there_or DatabaseName (database_name_in m.path)

-- what is asked of the database that the path leads into
abbrev pub work_task : Action → Message → (List ℕ → Work) → Result Task Refusal
work_task action m work = and_then (database_name_of m) (λ name. Ok (worked action name (work name)))

-- what is asked of a server admin about that database as a whole
abbrev pub admin_task : Identity → Message → (List ℕ → Task) → Result Task Refusal
admin_task caller m task = and_then (database_name_of m) (λ name. and_then (administration caller) (λ _. Ok (task name)))

-- what each page has for a method
abbrev pub task_of : Page → Option RequestMethod → Identity → Message → Result Task Refusal
task_of Welcome (Some Get) caller m = and_then (plain m) (λ _. Ok (told welcome))
task_of AllDatabases (Some Get) caller m = and_then (administration caller) (λ _. and_then (plain m) (λ _. Ok listed))
task_of DatabasePage (Some Get) caller m = work_task Read m (λ name. read_work (database_read m name))
task_of DatabasePage (Some Put) caller m = admin_task caller m (λ name. created name (plain m))
task_of DatabasePage (Some Delete) caller m = admin_task caller m (λ name. removed name (plain m))
task_of Security (Some Get) caller m = work_task Read m (λ name. read_work (security_read m))
task_of Security (Some Put) caller m = work_task WriteSecurity m (λ name. security_written m)
task_of BulkDocuments (Some Post) caller m = work_task WriteDocument m (λ name. documents_written caller m name)
task_of AllDocuments (Some Get) caller m = work_task Read m (λ name. read_work (document_list m))
task_of Changes (Some Get) caller m = work_task Read m (λ name. read_work (change_list m))
task_of Differences (Some Post) caller m = work_task Read m (λ name. read_work (difference_list m))
task_of Document (Some Get) caller m = work_task Read m (λ name. read_work (document_read m))
task_of Document (Some Put) caller m = work_task WriteDocument m (λ name. document_written caller m name)
task_of Document (Some Delete) caller m = work_task WriteDocument m (λ name. document_deleted caller m name)
task_of Find (Some Post) caller m = work_task Read m (λ name. read_work (document_finds m))
task_of Index (Some Post) caller m = work_task WriteDocument m (λ name. index_written caller m name)
task_of View (Some Get) caller m = work_task Read m (λ name. read_work (view_read m))
task_of LocalDocument (Some Get) caller m = work_task Read m (λ name. read_work (local_read m))
task_of LocalDocument (Some Put) caller m = work_task Read m (λ name. local_written caller m)
task_of page method caller m = Err Method

-- ---- what comes of it

-- the database, where there is one and its policy lets the caller do this
abbrev pub entry : Identity → Action → Option Database → Result Database Refusal
entry caller action None = Err NoDatabase
entry caller action (Some db) = and_then (permission caller (verdict action caller db.security)) (λ _. Ok db)

-- the names of the databases, in byte order
abbrev pub names_of : Contents → Value
names_of databases = array (items_of (map text (keys databases)))

-- what comes of a task
abbrev pub task_outcome : Identity → Contents → Task → Result Outcome Refusal
task_outcome caller databases (told value) = Ok (reply value)
task_outcome caller databases listed = Ok (reply (names_of databases))
task_outcome caller databases (created name asked) =
    and_then (true_or Exists (is_none (get databases name))) (λ _.
    and_then asked (λ _. Ok (record { status = 201; value = done; change = creation name })))
task_outcome caller databases (removed name asked) =
    and_then (there_or NoDatabase (get databases name)) (λ _.
    and_then asked (λ _. Ok (record { status = 200; value = done; change = removal name })))
task_outcome caller databases (worked action name work) =
    and_then (entry caller action (get databases name)) (λ db. and_then (work db) (λ d. Ok (outcome_in_database name d)))

-- ---- all requests

-- what comes of a request for a page
abbrev pub page_outcome : Page → Option RequestMethod → Identity → Contents → Message → Result Outcome Refusal
page_outcome page method caller databases m = and_then (task_of page method caller m) (λ task. task_outcome caller databases task)

-- what a request comes to, or the first refusal, in this order: the caller's token, the path, the method, the database's name, the right to
-- list, create or remove databases, the database's absence, its policy, the document's id, the query, the body, and what the edit is
-- refused for
abbrev pub judgement : Configuration → Contents → Message → Result Outcome Refusal
judgement c databases m =
    and_then (asker c m) (λ caller.
    and_then (there_or Path (page_of m.path)) (λ page. page_outcome page (method_named m.method) caller databases m))

-- a refusal changes nothing
abbrev pub settlement : Result Outcome Refusal → Outcome
settlement (Ok outcome) = outcome
settlement (Err refusal) = record { status = status_of refusal; value = refusal_value refusal; change = kept }

-- the answer to a request
abbrev pub answer : Configuration → Contents → Message → Outcome
answer c databases m = settlement (judgement c databases m)
