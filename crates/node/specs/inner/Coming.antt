-- What a function of the code leaves that works on a request, by what the definition says: for private clauses.
-- This crate's own: it ties answers of the code to `Work` and `Answer`.
use Rattle.std.specs.Prelude.{◌≡◌, ℕ, List, Option, Some, Result, Ok, Err, IfErr, IfOk, ⊤}
use Rattle.std.specs.FinMap.{get}
use Rattle.auth.specs.Callers.{Identity}
use Rattle.couch_http.specs.Message.{Message}
use Rattle.couch_json.specs.Value.{Value}
use Rattle.store.specs.Calls.{OnlyReads}
use Rattle.store.specs.Contents.{Contents}
use Rattle.store.specs.Database.{Database}
use Rattle.store.specs.declared.store.Store.{Ghosts}
use Rattle.write.specs.Planning.{MayBeMade}
use Rattle.api.specs.declared.method.RequestMethod.{RequestMethod}
use Rattle.api.specs.declared.page.Page.{Page}
use Rattle.api.specs.declared.refusal.Refusal.{Refusal}
use Rattle.node.specs.Answer.{Outcome, page_outcome}
use Rattle.node.specs.inner.Drafts.{MayChange, done_of, outcome_of}
use Rattle.node.specs.Causes.{Ends}
use Rattle.node.specs.Work.{Work}
use Rattle.node.specs.declared.draft.Draft.{Draft}
use Rattle.node.specs.declared.draft.WriteDraft.{WriteDraft}
use Rattle.node.specs.declared.early_end.EarlyEnd.{EarlyEnd}
use Rattle.node.specs.declared.early_end.EarlyEnd.TheVariants.{Refused, Failed, NoRoom}

-- what is defined comes, as shown, or its refusal; or the store failed, or memory ran out
abbrev pub MatchesDefinition : {A B : Type 0} → (A → B) → Result A EarlyEnd → Result B Refusal → Type 0
MatchesDefinition shown (Ok a) defined = defined ≡ Ok (shown a)
MatchesDefinition shown (Err (Refused refusal)) defined = defined ≡ Err refusal
MatchesDefinition shown (Err (Failed fault)) defined = ⊤
MatchesDefinition shown (Err NoRoom) defined = ⊤

-- a fact about the database of this name, where there is one
abbrev pub ForExisting : Contents → List ℕ → (Database → Type 0) → Type 0
ForExisting databases name fact = (db : Database) → get databases name ≡ Some db → fact db

-- What work on a request leaves: what is defined comes, its change may be made, it ends for the store's sake only where that has a cause,
-- and nothing has changed.
pub record IsJudgedRequest {S : Type 0} (g : Ghosts S) (old new : S) (defined : Result Outcome Refusal) (result : Result Draft EarlyEnd) : Type 0 where
  pub comes : g.is_honest new → MatchesDefinition (outcome_of (g.contents old)) result defined
  pub may : g.is_honest new → IfOk result (λ answered. MayChange (g.contents old) answered.change)
  pub ends : IfErr result (Ends g old new)
  pub reads : OnlyReads g old new

-- the same of work on what a page has for a method
abbrev pub Serves : {S : Type 0} → Ghosts S → S → S → Page → Option RequestMethod → Identity → Message → Result Draft EarlyEnd → Type 0
Serves g old new page method caller m result = IsJudgedRequest g old new (page_outcome page method caller (g.contents old) m) result

-- what reading the database of this name leaves
pub record IsDatabaseRead {S : Type 0} (g : Ghosts S) (old new : S) (name : List ℕ) (read : Database → Result Value Refusal) (result : Result Value EarlyEnd) : Type 0 where
  pub comes : g.is_honest new → ForExisting (g.contents old) name (λ db. MatchesDefinition (λ value. value) result (read db))
  pub ends : IfErr result (Ends g old new)
  pub reads : OnlyReads g old new

-- what work in the database of this name leaves, which plans a change of that database
pub record WorksIn {S : Type 0} (g : Ghosts S) (old new : S) (name : List ℕ) (work : Work) (result : Result WriteDraft EarlyEnd) : Type 0 where
  pub comes : g.is_honest new → ForExisting (g.contents old) name (λ db. MatchesDefinition (done_of db) result (work db))
  pub may : g.is_honest new → ForExisting (g.contents old) name (λ db. IfOk result (λ worked. MayBeMade worked.planned.changes db))
  pub own : IfOk result (λ worked. worked.planned.database ≡ name)
  pub ends : IfErr result (Ends g old new)
  pub reads : OnlyReads g old new
