-- Calls of a pass that write no document.
use Rattle.std.proofs.Common.{◌≡◌, ◌≢◌, inl, inr, ◌==◌, ℕ, List, [], ◌∷◌, ◌++◌, map, Bool, true, false, cond, not, Option, Some, None, option_and_then, Result, Ok, Err, codes, bytes_eq, slice_get, length, lt-ltb, is_none, arith, refl, sym, ap, ◌∙◌, subst}
use Rattle.std.specs.Prelude.{⊤}
use Rattle.std.specs.Str.{is_utf8}
use Rattle.std.specs.FinMap.{get, get-insert, insert}
use Rattle.std.proofs.lemmas.Cmp.{nat_list_cmp_total}
use Rattle.std.proofs.lemmas.Bool.{false≢true}
use Rattle.std.proofs.lemmas.List.Splits.{slice_split_none}
use Rattle.std.proofs.lemmas.Map.Text.{is_eq-slice_cmp}
use Rattle.std.proofs.lemmas.Slice.Eq.{bytes_eq-Decides}
use Rattle.auth.specs.Callers as auth
use Rattle.couch_http.specs.Message.{Message}
use Rattle.couch_http.specs.Reply.{Reply}
use Rattle.couch_json.specs.Reading.{reading}
use Rattle.couch_json.specs.Value.{Value, Members, member_at, no_members, object, text}
use Rattle.couch_json.specs.View.{items_of}
use Rattle.couch_json.proofs.ReadingBack.{what_was_read}
use Rattle.find.specs.Indexes.{index_in}
use Rattle.percent_encoding.proofs.OnLiterals.{percent_encoding_on_literals}
use Rattle.percent_encoding.specs.Percent.{percent_decode}
use Rattle.policy.specs.declared.action.Action.{Action}
use Rattle.policy.specs.declared.action.Action.TheVariants.{Read, WriteDocument, WriteSecurity}
use Rattle.tree.specs.DocumentId.{is_document_id, is_local_id}
use Rattle.store.specs.Contents.{Contents, local_at, new_database}
use Rattle.store.specs.Database.{Database, history_at, with_all}
use Rattle.store.specs.declared.local_document.LocalDocument.{LocalDocument}
use Rattle.write.specs.Bulk.{Histories, after, outcomes, writes_in}
use Rattle.write.specs.LocalWrites.{local_outcome}
use Rattle.write.specs.Planning.{security_outcome}
use Rattle.write.specs.Terms.{Terms, terms_in}
use Rattle.write.specs.declared.fault.WriteFault.{WriteFault}
use Rattle.api.specs.Asking.{asker, json_body, method_named, plain}
use Rattle.api.specs.Bulk.{Bulk, bulk_in, bulk_documents_in, elements_of_items, new_edits_in}
use Rattle.api.specs.Paths.{decoded_text, document_id_in, id_in_path, id_text_in, joined_by_slash, local_id_in, part_at, parts_of, slash, text_if}
use Rattle.api.specs.Queries.{read_then}
use Rattle.api.specs.Refusals.{and_then, there_or, true_or}
use Rattle.api.specs.Routing.{page_of}
use Rattle.api.specs.declared.method.RequestMethod.TheVariants.{Get, Post, Put}
use Rattle.api.specs.declared.page.Page.{Page}
use Rattle.api.specs.declared.page.Page.TheVariants.{Welcome, AllDatabases, Database as DatabasePage, Security, BulkDocuments, AllDocuments, Changes, Differences, Find, Index, View, Document, LocalDocument as LocalDocumentPage}
use Rattle.api.specs.declared.refusal.Refusal.{Refusal}
use Rattle.api.specs.declared.refusal.Refusal.TheVariants.{Body, Exists, Id, Method, Path}
use Rattle.node.specs.Answer.{Change, Outcome, Task, administration, change_at, created, creation, database_name_of, entry, inside, judgement, kept, listed, outcome_in_database as outcome_at, page_outcome, removal, removed, settlement, task_of, task_outcome, told, welcome, with_change, with_effect_at, work_task, worked}
use Rattle.node.specs.Runs.{Steps}
use Rattle.node.specs.Work.{Done, Effect, Work, appended, local_put, nothing, read_work, secured, value_done, with_effect}
use Rattle.node.specs.Works.{bulk_written, change_list, database_read, difference_list, document_finds, document_list, document_read, document_written, documents_written, done, edit_asked, edit_in, index_asked_in, index_written, local_read, local_set, local_written, security_read, security_set, security_written, view_read}
use Rattle.node.proofs.Tasks.{IsMade, judged_right, named as was_named, same, went}
use Rattle.repl.specs.Calls.{Call, compare_revisions, list_changes, open_revisions, page_path, push_documents, read_checkpoint, request_of, revisions_put, write_checkpoint}
use Rattle.repl.specs.Configuration.{PassConfiguration, database_of_side}
use Rattle.repl.specs.Spelling.{segment}
use Rattle.repl.specs.declared.side.Side.{Side}
use Rattle.replication.specs.Finished.{found_or_new}
use Rattle.passes.proofs.Comparing.{AreTexts, HasBody, IfTexts, no_index, texts_all, texts_at, value_was}
use Rattle.passes.proofs.Judged.{never, there_never}
use Rattle.passes.proofs.Opening.{id_by_parts, id_of_parts}
use Rattle.passes.proofs.Spellings.{parts-path, slashless}
use Rattle.replication.specs.Appended.{KeepsDocuments}
use Rattle.replication.specs.Written.{AsksLawfully, Becomes, OtherCallsWriteNothing, WritesNowhere, is_push}

-- ---- what writes no document

abbrev pub WritesNothing : Effect → Type 0
WritesNothing nothing = ⊤
WritesNothing (appended ws) = ws ≡ []
WritesNothing (secured security) = ⊤
WritesNothing (local_put id document) = ⊤

abbrev pub IsQuietWork : Work → Type 0
IsQuietWork work = (db : Database) (d : Done) → work db ≡ Ok d → WritesNothing d.effect

abbrev pub IsQuiet : Task → Type 0
IsQuiet (told value) = ⊤
IsQuiet listed = ⊤
IsQuiet (created name asked) = ⊤
IsQuiet (removed name asked) = ⊥
IsQuiet (worked action name work) = IsQuietWork work

abbrev pub IsSilent : Change → Type 0
IsSilent kept = ⊤
IsSilent (creation name) = ⊤
IsSilent (removal name) = ⊥
IsSilent (inside name effect) = WritesNothing effect

silent_at : (name : List ℕ) (effect : Effect) → WritesNothing effect → IsSilent (change_at name effect)
silent_at name nothing h = tt
silent_at name (appended ws) h = h
silent_at name (secured security) h = h
silent_at name (local_put id document) h = h

silent : (caller : auth.Identity) (a : Contents) (task : Task) (o : Outcome) → IsQuiet task → task_outcome caller a task ≡ Ok o → IsSilent o.change
silent caller a (told value) o quiet e = subst (λ (x : Outcome). IsSilent x.change) (same {A = Outcome} _ o e) tt
silent caller a listed o quiet e = subst (λ (x : Outcome). IsSilent x.change) (same {A = Outcome} _ o e) tt
silent caller a (created name asked) o quiet e =
    let made : Outcome = record { status = 201; value = done; change = creation name } in
    let k = went (true_or Exists (is_none (get a name))) (λ _. and_then asked (λ _. Ok made)) o e in
    let l = went asked (λ _. Ok made) o k.then in
    subst (λ (x : Outcome). IsSilent x.change) (same {A = Outcome} _ o l.then) tt
silent caller a (removed name asked) o quiet e = absurd quiet
silent caller a (worked action name work) o quiet e =
    let k = went (entry caller action (get a name)) (λ db. and_then (work db) (λ d. Ok (outcome_at name d))) o e in
    let l = went (work k.first) (λ d. Ok (outcome_at name d)) o k.then in
    subst (λ (x : Outcome). IsSilent x.change) (same {A = Outcome} _ o l.then) (silent_at name l.first.effect (quiet k.first l.first l.was))

-- ---- what becomes of the databases

pub same_documents : (db : Database) → KeepsDocuments db db
same_documents db = record { length = refl; documents = refl }

effect_keeps : (effect : Effect) (db : Database) → WritesNothing effect → KeepsDocuments db (with_effect effect db)
effect_keeps nothing db h = same_documents db
effect_keeps (appended ws) db h = subst (λ xs. KeepsDocuments db (with_all db xs)) (sym h) (same_documents db)
effect_keeps (secured security) db h = record { length = refl; documents = refl }
effect_keeps (local_put id document) db h = record { length = refl; documents = refl }

pub get_put : (a : Contents) (name : List ℕ) (new : Database) (other : List ℕ) → get (insert a name new) other ≡ cond (bytes_eq other name) (Some new) (get a other)
get_put a name new other = get-insert nat_list_cmp_total a name new other ∙ ap (λ (b : Bool). cond b (Some new) (get a other)) (is_eq-slice_cmp other name)

inside_same : (d db : Database) → Some d ≡ Some db → d ≡ db
inside_same d db e = cc

-- what was there, and what is there
pub become : (how : Database → Database → Type 0) (a b : Contents) (name : List ℕ) (was is : Option Database) → get a name ≡ was → get b name ≡ is → how (found_or_new was) (found_or_new is)
    → ((db : Database) → was ≡ Some db → (now : Database) × (is ≡ Some now)) → Becomes a name b how
become how a b name was is before after h stays = (
  subst (λ (o : Option Database). how (found_or_new o) (found_or_new (get b name))) (sym before) (subst (λ (o : Option Database). how (found_or_new was) (found_or_new o)) (sym after) h),
  λ db at. let k = stays db (sym before ∙ at) in (k.0, after ∙ k.1),
)

got_put : (a : Contents) (name : List ℕ) (new : Database) → get (insert a name new) name ≡ Some new
got_put a name new = get_put a name new name ∙ ap (λ (b : Bool). cond b (Some new) (get a name)) ((bytes_eq-Decides name name).1 refl)

-- one database is put in the place of another
pub put_becomes : (how : Database → Database → Type 0) (a : Contents) (name : List ℕ) (old new : Database) → get a name ≡ Some old → how old new → Becomes a name (insert a name new) how
put_becomes how a name old new there h = become how a (insert a name new) name (Some old) (Some new) there (got_put a name new) h (λ db at. (new, refl))

pub put_elsewhere : (a : Contents) (name : List ℕ) (new : Database) (other : List ℕ) → other ≢ name → Becomes a other (insert a name new) KeepsDocuments
put_elsewhere a name new other apart =
    become KeepsDocuments a (insert a name new) other (get a other) (get a other) refl (get_put a name new other ∙ by (bytes_eq other name) refl) (same_documents (found_or_new (get a other))) (λ db at. (db, at))
  where
    by : (b : Bool) → bytes_eq other name ≡ b → cond b (Some new) (get a other) ≡ get a other
    by true is = absurd (apart ((bytes_eq-Decides other name).0 is))
    by false is = refl

either_name : (a : Contents) (name : List ℕ) (old new : Database) → get a name ≡ Some old → KeepsDocuments old new → WritesNowhere a (insert a name new)
either_name a name old new there h other = by (bytes_eq other name) refl
  where
    by : (b : Bool) → bytes_eq other name ≡ b → Becomes a other (insert a name new) KeepsDocuments
    by true is = subst (λ (n : List ℕ). Becomes a n (insert a name new) KeepsDocuments) (sym ((bytes_eq-Decides other name).0 is)) (put_becomes KeepsDocuments a name old new there h)
    by false is = put_elsewhere a name new other (λ e. false≢true (sym is ∙ (bytes_eq-Decides other name).1 e))

pub nowhere : (a : Contents) → WritesNowhere a a
nowhere a name = (same_documents (found_or_new (get a name)), λ db at. (db, at))

change_keeps : (a : Contents) (m : Message) (change : Change) → IsSilent change → IsMade a m change → WritesNowhere a (with_change change a)
change_keeps a m kept quiet made = nowhere a
change_keeps a m (creation name) quiet made = λ other. by other (bytes_eq other name) refl
  where
    by : (other : List ℕ) (b : Bool) → bytes_eq other name ≡ b → Becomes a other (insert a name new_database) KeepsDocuments
    by other true is =
        subst (λ (n : List ℕ). Becomes a n (insert a name new_database) KeepsDocuments) (sym ((bytes_eq-Decides other name).0 is))
        (become KeepsDocuments a (insert a name new_database) name None (Some new_database) made.1 (got_put a name new_database) (same_documents new_database) (λ db at. absurd cc))
    by other false is = put_elsewhere a name new_database other (λ e. false≢true (sym is ∙ (bytes_eq-Decides other name).1 e))
change_keeps a m (removal name) quiet made = absurd quiet
change_keeps a m (inside name effect) quiet made =
    let db = made.1.0 in
    let there = made.1.1 in
    subst (λ (o : Option Database). WritesNowhere a (with_effect_at a name effect o)) (sym there) (either_name a name db (with_effect effect db) there (effect_keeps effect db quiet))

-- ---- a step of a quiet request

abbrev pub IsQuietCall : Message → Type 0
IsQuietCall m =
    (page : Page) (caller : auth.Identity) (task : Task) → page_of m.path ≡ Some page → task_of page (method_named m.method) caller m ≡ Ok task → IsQuiet task

judged_silent : (c : auth.Configuration) (a : Contents) (m : Message) (o : Outcome) → IsQuietCall m → judgement c a m ≡ Ok o → IsSilent o.change
judged_silent c a m o quiet e =
    let k = went (asker c m) (λ caller. and_then (there_or Path (page_of m.path)) (λ page. page_outcome page (method_named m.method) caller a m)) o e in
    let l = went (there_or Path (page_of m.path)) (λ page. page_outcome page (method_named m.method) k.first a m) o k.then in
    let t = went (task_of l.first (method_named m.method) k.first m) (λ task. task_outcome k.first a task) o l.then in
    silent k.first a t.first o (quiet l.first k.first t.first (was_named Path (page_of m.path) l.first l.was) t.was) t.then

pub quiet_step : (c : auth.Configuration) (a : Contents) (m : Message) (r : Reply) (after : Contents) → IsQuietCall m → Steps c a m r after → WritesNowhere a after
quiet_step c a m r after quiet (inl done) = subst (λ (x : Contents). WritesNowhere a x) (sym done.1) (by (judgement c a m) refl)
  where
    by : (j : Result Outcome Refusal) → judgement c a m ≡ j → WritesNowhere a (with_change (settlement j).change a)
    by (Ok o) is = change_keeps a m o.change (judged_silent c a m o quiet is) (judged_right c a m o is).made
    by (Err refusal) is = nowhere a
quiet_step c a m r after quiet (inr (inl none)) = subst (λ (x : Contents). WritesNowhere a x) (sym none.1) (nowhere a)
quiet_step c a m r after quiet (inr (inr failed)) = subst (λ (x : Contents). WritesNowhere a x) (sym failed.1) (nowhere a)

-- ---- tasks

pub quiet_work : (action : Action) (m : Message) (work : List ℕ → Work) (task : Task) → ((name : List ℕ) → IsQuietWork (work name)) → work_task action m work ≡ Ok task → IsQuiet task
quiet_work action m work task quiet e =
    let k = went (database_name_of m) (λ name. Ok (worked action name (work name))) task e in
    subst IsQuiet (same {A = Task} _ task k.then) (quiet k.first)

quiet_reading : (read : Database → Result Value Refusal) → IsQuietWork (read_work read)
quiet_reading read db d e =
    let k = went (read db) (λ value. Ok (value_done value)) d e in
    subst (λ (x : Done). WritesNothing x.effect) (same {A = Done} _ d k.then) tt

pub quiet_read : (m : Message) (read : List ℕ → Database → Result Value Refusal) (task : Task) → work_task Read m (λ name. read_work (read name)) ≡ Ok task → IsQuiet task
quiet_read m read task e = quiet_work Read m (λ name. read_work (read name)) task (λ name. quiet_reading (read name)) e

-- whatever is asked by GET only reads
pub quiet_get : (page : Page) (caller : auth.Identity) (m : Message) (task : Task) → task_of page (Some Get) caller m ≡ Ok task → IsQuiet task
quiet_get Welcome caller m task e = let k = went (plain m) (λ _. Ok (told welcome)) task e in subst IsQuiet (same {A = Task} _ task k.then) tt
quiet_get AllDatabases caller m task e =
    let k = went (administration caller) (λ _. and_then (plain m) (λ _. Ok listed)) task e in
    let l = went (plain m) (λ _. Ok listed) task k.then in
    subst IsQuiet (same {A = Task} _ task l.then) tt
quiet_get DatabasePage caller m task e = quiet_read m (λ name. database_read m name) task e
quiet_get Security caller m task e = quiet_read m (λ name. security_read m) task e
quiet_get BulkDocuments caller m task e = absurd (never Method task e)
quiet_get AllDocuments caller m task e = quiet_read m (λ name. document_list m) task e
quiet_get Changes caller m task e = quiet_read m (λ name. change_list m) task e
quiet_get Differences caller m task e = absurd (never Method task e)
quiet_get Find caller m task e = absurd (never Method task e)
quiet_get Index caller m task e = absurd (never Method task e)
quiet_get View caller m task e = quiet_read m (λ name. view_read m) task e
quiet_get Document caller m task e = quiet_read m (λ name. document_read m) task e
quiet_get LocalDocumentPage caller m task e = quiet_read m (λ name. local_read m) task e

-- ---- a checkpoint is a local document

quiet_set : (r : Result Value WriteFault) (d : Done) → security_set r ≡ Ok d → WritesNothing d.effect
quiet_set (Ok security) d e = subst (λ (x : Done). WritesNothing x.effect) (same {A = Done} _ d e) tt
quiet_set (Err fault) d e = absurd cc

pub quiet_security : (m : Message) → IsQuietWork (security_written m)
quiet_security m db d e =
    let k = went (plain m) (λ _. and_then (json_body m) (λ value. security_set (security_outcome value))) d e in
    let l = went (json_body m) (λ value. security_set (security_outcome value)) d k.then in
    quiet_set (security_outcome l.first) d l.then

quiet_stored : (caller : auth.Identity) (id : List ℕ) (r : Result LocalDocument WriteFault) (d : Done) → local_set caller id r ≡ Ok d → WritesNothing d.effect
quiet_stored caller id (Ok document) d e = subst (λ (x : Done). WritesNothing x.effect) (same {A = Done} _ d e) tt
quiet_stored caller id (Err fault) d e = absurd cc

pub quiet_local : (caller : auth.Identity) (m : Message) → IsQuietWork (local_written caller m)
quiet_local caller m db d e =
    let k = went (there_or Id (local_id_in m.path)) (λ id. and_then (plain m) (λ _. and_then (json_body m) (λ document. local_set caller id (local_outcome (local_at db id) id document)))) d e in
    let l = went (plain m) (λ _. and_then (json_body m) (λ document. local_set caller k.first (local_outcome (local_at db k.first) k.first document))) d k.then in
    let b = went (json_body m) (λ document. local_set caller k.first (local_outcome (local_at db k.first) k.first document)) d l.then in
    quiet_stored caller k.first (local_outcome (local_at db k.first) k.first b.first) d b.then

unnamed_document : (caller : auth.Identity) (m : Message) (name : List ℕ) → document_id_in m.path ≡ None → IsQuietWork (document_written caller m name)
unnamed_document caller m name none db d e =
    let k = went (edit_asked m) (λ asked. and_then (json_body m) (λ document. edit_in caller 201 name db asked.0 asked.1 document)) d e in
    absurd (there_never Id (document_id_in m.path) _ k.first none k.was)

quiet_put : (page : Page) (caller : auth.Identity) (m : Message) (task : Task) → document_id_in m.path ≡ None → task_of page (Some Put) caller m ≡ Ok task → IsQuiet task
quiet_put Welcome caller m task none e = absurd (never Method task e)
quiet_put AllDatabases caller m task none e = absurd (never Method task e)
quiet_put DatabasePage caller m task none e =
    let k = went (database_name_of m) (λ name. and_then (administration caller) (λ _. Ok (created name (plain m)))) task e in
    let l = went (administration caller) (λ _. Ok (created k.first (plain m))) task k.then in
    subst IsQuiet (same {A = Task} _ task l.then) tt
quiet_put Security caller m task none e = quiet_work WriteSecurity m (λ name. security_written m) task (λ name. quiet_security m) e
quiet_put BulkDocuments caller m task none e = absurd (never Method task e)
quiet_put AllDocuments caller m task none e = absurd (never Method task e)
quiet_put Changes caller m task none e = absurd (never Method task e)
quiet_put Differences caller m task none e = absurd (never Method task e)
quiet_put Find caller m task none e = absurd (never Method task e)
quiet_put Index caller m task none e = absurd (never Method task e)
quiet_put View caller m task none e = absurd (never Method task e)
quiet_put Document caller m task none e = quiet_work WriteDocument m (λ name. document_written caller m name) task (λ name. unnamed_document caller m name none) e
quiet_put LocalDocumentPage caller m task none e = quiet_work Read m (λ name. local_written caller m) task (λ name. quiet_local caller m) e

-- the path of a checkpoint names no document but a local one

local_literal : percent_decode (codes "_local") ≡ codes "_local"
unfolding percent_encoding_on_literals
local_literal = refl

-- behind `_local/` stands no id, or that of a local document
never_document : (rest : List ℕ) → option_and_then (λ id. text_if (not (is_local_id id)) id) (id_in_path (codes "_local/" ++ rest)) ≡ None
never_document [] = refl
never_document (b ∷ rest) = by (is_document_id (codes "_local/" ++ b ∷ rest))
  where
    local : is_local_id (codes "_local/" ++ b ∷ rest) ≡ true
    local = lt-ltb 7 (length (codes "_local/" ++ b ∷ rest)) (omega arith)

    by : (good : Bool) → option_and_then (λ id. text_if (not (is_local_id id)) id) (text_if good (codes "_local/" ++ b ∷ rest)) ≡ None
    by true = ap (λ (x : Bool). text_if (not x) (codes "_local/" ++ b ∷ rest)) local
    by false = refl

abbrev document_by : Option (List ℕ) → Option (List ℕ)
document_by o = option_and_then (λ id. text_if (not (is_local_id id)) id) (option_and_then (λ text. id_in_path text) o)

no_document : (good : Bool) (second : Option (List ℕ)) → document_by (joined_by_slash (text_if good (codes "_local")) second) ≡ None
no_document true None = refl
no_document true (Some rest) = never_document rest
no_document false second = refl

checkpoint_path : (db id : List ℕ) → document_id_in (page_path db (codes "_local/" ++ segment id)) ≡ None
checkpoint_path db id =
    let page = codes "_local/" ++ segment id in
    let path = page_path db page in
    let one : parts_of (segment id) ≡ segment id ∷ [] = slice_split_none (λ b. b == slash) (segment id) (slashless id) in
    let parts : parts_of path ≡ [] ∷ segment db ∷ codes "_local" ∷ segment id ∷ [] = parts-path db page ∙ ap (λ (ps : List (List ℕ)). [] ∷ segment db ∷ codes "_local" ∷ ps) one in
    let text : id_text_in path ≡ joined_by_slash (text_if (is_utf8 (codes "_local")) (codes "_local")) (decoded_text (segment id)) =
    id_of_parts (part_at 3 path) path ∙ ap (λ (ps : List (List ℕ)). id_by_parts (slice_get ps 3) ps) parts
    ∙ ap (λ (t : List ℕ). joined_by_slash (text_if (is_utf8 t) t) (decoded_text (segment id))) local_literal in
    ap document_by text ∙ no_document (is_utf8 (codes "_local")) (decoded_text (segment id))

-- ---- a comparison names lists of texts

pub elements_back : (vs : List Value) → elements_of_items (items_of vs) ≡ vs
elements_back [] = refl
elements_back (v ∷ vs) = ap (λ (xs : List Value). v ∷ xs) (elements_back vs)

-- a text is no document, so nothing is written of a list of texts
no_writes : (terms : Terms) (new_edits : Bool) (histories : Histories) (ts : List (List ℕ)) → writes_in (outcomes terms new_edits histories (map text ts)) ≡ []
no_writes terms new_edits histories [] = refl
no_writes terms new_edits histories (t ∷ ts) = no_writes terms new_edits histories ts

none_written : (terms : Terms) (new_edits : Bool) (histories : Histories) (vs : List Value) (ts : List (List ℕ)) → vs ≡ map text ts → writes_in (outcomes terms new_edits histories vs) ≡ []
none_written terms new_edits histories vs ts is = subst (λ (xs : List Value). writes_in (outcomes terms new_edits histories xs) ≡ []) (sym is) (no_writes terms new_edits histories ts)

bulk_documents : (good : Bool) (new_edits : Option Bool) (documents : Option (List Value)) (bulk : Bulk) → cond good (read_then new_edits (λ n. read_then documents (λ ds. Some (record { new_edits = n; documents = ds })))) None ≡ Some bulk → documents ≡ Some bulk.documents
bulk_documents false new_edits documents bulk e = absurd cc
bulk_documents true None documents bulk e = absurd cc
bulk_documents true (Some b) None bulk e = absurd cc
bulk_documents true (Some b) (Some vs) bulk e = let made : Bulk = record { new_edits = b; documents = vs } in let k : made ≡ bulk = cc in ap (λ (x : Bulk). Some x.documents) k

texts_listed : (o : Option Value) (vs : List Value) → IfTexts o → bulk_documents_in o ≡ Some vs → (ts : List (List ℕ)) × (vs ≡ map text ts)
texts_listed None vs h e = absurd cc
texts_listed (Some v) vs (ts, is) e =
    (ts, (let k : Some (elements_of_items (items_of (map text ts))) ≡ Some vs = ap (λ (x : Value). bulk_documents_in (Some x)) (sym is) ∙ e in let l : elements_of_items (items_of (map text ts)) ≡ vs = cc in sym l) ∙ elements_back (map text ts))

quiet_documents : (caller : auth.Identity) (m : Message) (name : List ℕ) (ms : Members) → HasBody m ms → AreTexts ms → IsQuietWork (documents_written caller m name)
quiet_documents caller m name ms body texts db d e =
    let k = went (plain m) (λ _. and_then (json_body m) (λ value. and_then (there_or Body (bulk_in value)) (λ bulk. bulk_written caller bulk name db))) d e in
    let l = went (json_body m) (λ value. and_then (there_or Body (bulk_in value)) (λ bulk. bulk_written caller bulk name db)) d k.then in
    let b = went (there_or Body (bulk_in l.first)) (λ bulk. bulk_written caller bulk name db) d l.then in
    let asked : bulk_in (object ms) ≡ Some b.first = ap bulk_in (sym (body l.first l.was)) ∙ was_named Body (bulk_in l.first) b.first b.was in
    let documents = bulk_documents _ (new_edits_in (member_at (codes "new_edits") ms)) (bulk_documents_in (member_at (codes "docs") ms)) b.first asked in
    let listed = texts_listed (member_at (codes "docs") ms) b.first.documents (texts_at (codes "docs") ms texts) documents in
    let none = none_written (terms_in caller name db) b.first.new_edits (history_at db) b.first.documents listed.0 listed.1 in
    subst (λ (x : Done). WritesNothing x.effect) (same {A = Done} _ d b.then) none

no_declaration : (caller : auth.Identity) (m : Message) (name : List ℕ) (ms : Members) → HasBody m ms → index_in (object ms) ≡ None → IsQuietWork (index_written caller m name)
no_declaration caller m name ms body none db d e =
    let k = went (plain m) (λ _. and_then (json_body m) (λ value. and_then (there_or Body (index_in value)) (λ asked. index_asked_in caller name db asked))) d e in
    let l = went (json_body m) (λ value. and_then (there_or Body (index_in value)) (λ asked. index_asked_in caller name db asked)) d k.then in
    absurd (there_never Body (index_in l.first) (λ asked. index_asked_in caller name db asked) d (ap index_in (body l.first l.was) ∙ none) l.then)

quiet_post : (page : Page) (caller : auth.Identity) (m : Message) (ms : Members) (task : Task) → HasBody m ms → AreTexts ms → task_of page (Some Post) caller m ≡ Ok task → IsQuiet task
quiet_post BulkDocuments caller m ms task body texts e = quiet_work WriteDocument m (λ name. documents_written caller m name) task (λ name. quiet_documents caller m name ms body texts) e
quiet_post Differences caller m ms task body texts e = quiet_read m (λ name. difference_list m) task e
quiet_post Find caller m ms task body texts e = quiet_read m (λ name. document_finds m) task e
quiet_post Index caller m ms task body texts e = quiet_work WriteDocument m (λ name. index_written caller m name) task (λ name. no_declaration caller m name ms body (no_index ms texts)) e
quiet_post page caller m ms task body texts e = absurd (never Method task e)

-- ---- the calls

quiet_call : (k : PassConfiguration) (side : Side) (call : Call) → is_push call ≡ false → AsksLawfully call → IsQuietCall (request_of k side call)
quiet_call k side (read_checkpoint id) other asks page caller task at e = quiet_get page caller (request_of k side (read_checkpoint id)) task e
quiet_call k side (write_checkpoint id value) other asks page caller task at e =
    quiet_put page caller (request_of k side (write_checkpoint id value)) task (checkpoint_path (database_of_side k side) id) e
quiet_call k side (list_changes since most) other asks page caller task at e = quiet_get page caller (request_of k side (list_changes since most)) task e
quiet_call k side (compare_revisions rs) other asks page caller task at e =
    let m = request_of k side (compare_revisions rs) in
    let ms = revisions_put rs no_members in
    let body : HasBody m ms = λ w f. sym (what_was_read (object ms) w asks (value_was (reading m.body) w f)) in
    quiet_post page caller m ms task body (texts_all rs no_members tt) e
quiet_call k side (open_revisions r) other asks page caller task at e = quiet_get page caller (request_of k side (open_revisions r)) task e
quiet_call k side (push_documents documents) other asks page caller task at e = absurd cc

pub others_write_nothing : OtherCallsWriteNothing
others_write_nothing c before k side call r after other asks step = quiet_step c before (request_of k side call) r after (quiet_call k side call other asks) step
