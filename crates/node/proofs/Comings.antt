-- What was refused on the way is refused as a whole.
use Rattle.std.proofs.Common.{◌≡◌, ℕ, List, refl, sym, ap, ◌∙◌, subst, Option, Some, Result, Ok, Err}
use Rattle.std.specs.FinMap.{get}
use Rattle.auth.specs.Callers.{Identity}
use Rattle.couch_http.specs.Message.{Message}
use Rattle.couch_json.specs.Value.{Value}
use Rattle.policy.specs.declared.action.Action.{Action}
use Rattle.store.specs.Contents.{Contents}
use Rattle.store.specs.Database.{Database}
use Rattle.tree.specs.Revision.{Revision}
use Rattle.node.specs.Answer.{entry, database_name_of, outcome_in_database, task_outcome, worked, work_task}
use Rattle.api.specs.Asking.{json_body, plain}
use Rattle.api.specs.Bulk.{Bulk, bulk_in, bulk_of}
use Rattle.api.specs.BulkAsked.{bulk_asked}
use Rattle.api.specs.RequestReading.{Says}
use Rattle.api.specs.declared.fault.RequestFault.{RequestFault}
use Rattle.api.specs.declared.fault.RequestFault.TheVariants as request
use Rattle.node.specs.Causes.{stop_of_request}
use Rattle.node.specs.inner.Drafts.{done_of, outcome_of}
use Rattle.node.specs.inner.Coming.{MatchesDefinition}
use Rattle.node.specs.Work.{Done, Work}
use Rattle.api.specs.Refusals.{and_then, there_or}
use Rattle.node.specs.Works.{bulk_written, documents_written, deletion, deletion_outcome, document_deleted, edit_asked, edit_done, edit_in}
use Rattle.write.specs.Terms.{terms_in}
use Rattle.node.specs.declared.draft.WriteDraft.{WriteDraft}
use Rattle.api.specs.declared.refusal.Refusal.{Refusal}
use Rattle.api.specs.declared.refusal.Refusal.TheVariants.{Body}
use Rattle.node.specs.declared.early_end.EarlyEnd.{EarlyEnd}
use Rattle.node.specs.declared.early_end.EarlyEnd.TheVariants.{Refused, Failed, NoRoom}

-- work that stops, stops the request
pub work_stops : (databases : Contents) (name : List ℕ) (db : Database) (stop : EarlyEnd) (done : Result Done Refusal) → MatchesDefinition (done_of db) (Err stop) done
    → MatchesDefinition (outcome_of databases) (Err stop) (and_then done (λ d. Ok (outcome_in_database name d)))
work_stops databases name db (Refused refusal) done h = ap (λ (r : Result Done Refusal). and_then r (λ d. Ok (outcome_in_database name d))) h
work_stops databases name db (Failed fault) done h = tt
work_stops databases name db NoRoom done h = tt

refused_on : {A B C : Type 0} (r : Result A Refusal) (f : A → B) (refusal : Refusal) (go : A → Result C Refusal) → and_then r (λ a. Ok (f a)) ≡ Err refusal → and_then r go ≡ Err refusal
refused_on (Ok a) f refusal go h = absurd cc
refused_on (Err other) f refusal go h = let same : other ≡ refusal = cc in ap Err same

-- a database that is not entered is not worked in
pub entry_stops : (databases : Contents) (caller : Identity) (action : Action) (m : Message) (work : List ℕ → Work) (name : List ℕ) (stop : EarlyEnd) → database_name_of m ≡ Ok name
    → MatchesDefinition (λ (u : Unit {0}). get databases name) (Err stop) (and_then (entry caller action (get databases name)) (λ db. Ok (Some db)))
    → MatchesDefinition (outcome_of databases) (Err stop) (and_then (work_task action m work) (task_outcome caller databases))
entry_stops databases caller action m work name (Refused refusal) own h =
    ap (λ (r : Result (List ℕ) Refusal). and_then (and_then r (λ n. Ok (worked action n (work n)))) (task_outcome caller databases)) own
    ∙ refused_on (entry caller action (get databases name)) Some refusal (λ db. and_then (work name db) (λ d. Ok (outcome_in_database name d))) h
entry_stops databases caller action m work name (Failed fault) own h = tt
entry_stops databases caller action m work name NoRoom own h = tt

-- a deletion that names a revision is its edit
pub deletion_comes : (caller : Identity) (m : Message) (name : List ℕ) (db : Database) (asked : List ℕ × Option Revision) (rev : Revision) (document : Value) (result : Result WriteDraft EarlyEnd)
    → edit_asked m ≡ Ok asked → asked.1 ≡ Some rev → document ≡ deletion → MatchesDefinition (done_of db) result (edit_in caller 200 name db asked.0 (Some rev) document)
    → MatchesDefinition (done_of db) result (document_deleted caller m name db)
deletion_comes caller m name db asked rev document result own named made h =
    subst (λ (r : Result (List ℕ × Option Revision) Refusal). MatchesDefinition (done_of db) result (and_then r (λ a. edit_done caller 200 a.0 (deletion_outcome (terms_in caller name db) db a.0 a.1)))) (sym own)
    (subst (λ (o : Option Revision). MatchesDefinition (done_of db) result (edit_done caller 200 asked.0 (deletion_outcome (terms_in caller name db) db asked.0 o))) (sym named)
    (subst (λ (v : Value). MatchesDefinition (done_of db) result (edit_in caller 200 name db asked.0 (Some rev) v)) made h))

next_of : {A B C : Type 0} (r : Result A Refusal) (f : A → Result B Refusal) (go : B → Result C Refusal) → and_then r (λ a. and_then (f a) go) ≡ and_then (and_then r f) go
next_of (Ok a) f go = refl
next_of (Err refusal) f go = refl

-- a request that asks for no documents to be written stops
pub bulk_stops : (caller : Identity) (m : Message) (name : List ℕ) (db : Database) (u : Unit {0}) (fault : RequestFault) → plain m ≡ Ok u → Says bulk_asked (Err fault) (bulk_of m)
    → MatchesDefinition (done_of db) (Err (stop_of_request fault)) (documents_written caller m name db)
bulk_stops caller m name db u (request.Refused refusal) plainly says =
    ap (λ (r : Result (Unit {0}) Refusal). and_then r (λ _. and_then (json_body m) (λ v. and_then (there_or Body (bulk_in v)) (λ bulk. bulk_written caller bulk name db)))) plainly
    ∙ next_of (json_body m) (λ v. there_or Body (bulk_in v)) (λ bulk. bulk_written caller bulk name db)
    ∙ ap (λ (r : Result Bulk Refusal). and_then r (λ bulk. bulk_written caller bulk name db)) says
bulk_stops caller m name db u request.Memory plainly says = tt
