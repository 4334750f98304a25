-- What a request came to, in the words of `Answer`: for private clauses.
-- This crate's own: it ties structs of the code to the definition.
use Rattle.std.specs.Prelude.{◌≡◌, ℕ, Bool, List, false, true, Option, Some, None, Result, Err, ⊤, is_some}
use Rattle.std.specs.FinMap.{get}
use Rattle.auth.specs.Callers.{Identity}
use Rattle.couch_http.specs.Message.{Message}
use Rattle.store.specs.Contents.{Contents, IfThere}
use Rattle.store.specs.Database.{Database}
use Rattle.store.specs.Writing.{additions, writings_in}
use Rattle.write.specs.Planning.{MayBeMade}
use Rattle.write.specs.declared.planned.Changes.{Changes}
use Rattle.write.specs.declared.planned.Changes.TheVariants.{Local, Writes, Security as SecurityObject}
use Rattle.write.specs.declared.planned.Outcome.{Outcome}
use Rattle.write.specs.declared.planned.Outcome.TheVariants.{Made, Known, Refused}
use Rattle.couch_json.specs.Value.{Value, object}
use Rattle.node.specs.Answer as answer
use Rattle.node.specs.Work.{Done, Effect, Work, appended, local_put, read_work, secured}
use Rattle.node.specs.Works.{change_list, database_read, difference_list, document_deleted, document_finds, document_list, document_read, document_written, documents_written, index_written, local_members, local_read, local_written, security_read, security_written, view_read}
use Rattle.api.specs.declared.method.RequestMethod.TheVariants.{Get, Put, Delete}
use Rattle.api.specs.declared.page.Page.TheVariants as page
use Rattle.api.specs.declared.refusal.Refusal.{Refusal}
use Rattle.api.specs.declared.refusal.Refusal.TheVariants.{Method}
use Rattle.node.specs.declared.draft.Draft.{Draft}
use Rattle.node.specs.declared.draft.Change.{Change}
use Rattle.node.specs.declared.draft.Change.TheVariants.{Create, Remove, Write}
use Rattle.node.specs.declared.draft.WriteDraft.{WriteDraft}
use Rattle.node.specs.declared.task.Task.{Task}
use Rattle.node.specs.declared.task.Task.TheVariants as task
use Rattle.node.specs.declared.work.Work.{Work as WorkAsked}
use Rattle.node.specs.declared.work.Work.TheVariants as asked
use Rattle.node.specs.declared.work.Reading.{Reading}
use Rattle.node.specs.declared.work.Reading.TheVariants as read
use Rattle.node.specs.declared.work.Writing.{Writing}
use Rattle.node.specs.declared.work.Writing.TheVariants as write

-- ---- work

-- a read of a database of this name
abbrev pub reading_of : Reading → Message → List ℕ → Database → Result Value Refusal
reading_of read.Database m name = database_read m name
reading_of read.Security m name = security_read m
reading_of read.Document m name = document_read m
reading_of read.Documents m name = document_list m
reading_of read.Changes m name = change_list m
reading_of read.Differences m name = difference_list m
reading_of read.LocalDocument m name = local_read m
reading_of read.Finds m name = document_finds m
reading_of read.View m name = view_read m

abbrev pub writing_of : Writing → Identity → Message → List ℕ → Work
writing_of write.Security caller m name = security_written m
writing_of write.Documents caller m name = documents_written caller m name
writing_of write.Document caller m name = document_written caller m name
writing_of write.Deletion caller m name = document_deleted caller m name
writing_of write.Index caller m name = index_written caller m name
writing_of write.LocalDocument caller m name = local_written caller m

abbrev pub work_of : WorkAsked → Identity → Message → List ℕ → Work
work_of (asked.Read r) caller m name = read_work (reading_of r m name)
work_of (asked.Write w) caller m name = writing_of w caller m name

-- what a task asks
abbrev pub task_asked : Task → Identity → Message → Result answer.Task Refusal
task_asked task.Welcome caller m = answer.task_of page.Welcome (Some Get) caller m
task_asked task.ListDatabases caller m = answer.task_of page.AllDatabases (Some Get) caller m
task_asked task.CreateDatabase caller m = answer.task_of page.Database (Some Put) caller m
task_asked task.RemoveDatabase caller m = answer.task_of page.Database (Some Delete) caller m
task_asked (task.Work action work) caller m = answer.work_task action m (work_of work caller m)

-- the same, or the refusal where a page has nothing for the method
abbrev pub task_asked_if_any : Option Task → Identity → Message → Result answer.Task Refusal
task_asked_if_any None caller m = Err Method
task_asked_if_any (Some t) caller m = task_asked t caller m

-- ---- what it comes to

abbrev pub effect_of : Changes → Database → Effect
effect_of (Writes ws) db = appended (writings_in db (additions ws.items))
effect_of (SecurityObject security) db = secured security
effect_of (Local id document) db = local_put id document

-- the value is the reply to this change, which is a local document
abbrev pub IsLocalReply : Changes → Value → Type 0
IsLocalReply (Writes ws) value = ⊥
IsLocalReply (SecurityObject security) value = ⊥
IsLocalReply (Local id document) value = value ≡ object (local_members id document)

-- the outcome says that a revision was made
abbrev pub says_made : Outcome → Bool
says_made (Made rev) = true
says_made Known = false
says_made (Refused fault) = false

-- what work comes to in a database
abbrev pub done_of : Database → WriteDraft → Done
done_of db w = record { status = w.status; value = w.value; effect = effect_of w.planned.changes db }

abbrev pub change_inside : List ℕ → Changes → Option Database → answer.Change
change_inside name changes None = answer.kept
change_inside name changes (Some db) = answer.change_at name (effect_of changes db)

abbrev pub change_by : Contents → Change → answer.Change
change_by databases (Create name) = answer.creation name
change_by databases (Remove name) = answer.removal name
change_by databases (Write planned) = change_inside planned.database planned.changes (get databases planned.database)

-- the change that was found in order, if there is one
abbrev pub change_of : Contents → Option Change → answer.Change
change_of databases None = answer.kept
change_of databases (Some change) = change_by databases change

abbrev pub outcome_of : Contents → Draft → answer.Outcome
outcome_of databases a = record { status = a.status; value = a.value; change = change_of databases a.change }

-- ---- when it may be made

abbrev pub MayChangeBy : Contents → Change → Type 0
MayChangeBy databases (Create name) = get databases name ≡ None
MayChangeBy databases (Remove name) = is_some (get databases name) ≡ true
MayChangeBy databases (Write planned) =
    IfThere (get databases planned.database) (λ db. MayBeMade planned.changes db)
    × (is_some (get databases planned.database) ≡ true)

-- the change may be made
abbrev pub MayChange : Contents → Option Change → Type 0
MayChange databases None = ⊤
MayChange databases (Some change) = MayChangeBy databases change
