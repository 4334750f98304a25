-- Why a query of ours is refused, where the schema is ours.
use Rattle.tables.proofs.Common.{Bool, Err, Error, FailsToQuery, FailsToShow, Ghosts, HasCleanDisk, Held, IfErr, IsNotRun, IsPlain, IsTrue, Int, Key, List, None, Ok, Option, Program, Result, Row, Select, Some, State, Term, Trees, [], ap, append-nil, arith, command_of, end, false, inl, inner, inr, length, lit, negsuc, pos, refl, reads_listing, schema, state, subst, sym, true, understood, ℕ, ◌∙◌, ◌∷◌, ◌≡◌, ◌⊎◌, ◌≢◌, ◌≤◌}
use Rattle.std.proofs.Common.{subst₂}
use Rattle.std.specs.Prelude.{nat_lt}
use Rattle.sqlite.specs.Effect.{RefusesToRead}
use Rattle.sqlite.specs.Listing.{IsSourceOf}
use Rattle.sqlite.specs.State.{IsNoStatement}
use Rattle.sqlite_resolve.specs.declared.compiled.Compiled.{Compiled}
use Rattle.sqlite_resolve.specs.declared.error.CompileError.{CompileError}
use Rattle.sqlite_schema.specs.Program.{lets_of}
use Rattle.sqlite_sql.specs.Program.{ProgramOverflows}
use Rattle.sqlite_typing.specs.Types.{accepts_program}
use Rattle.tables.proofs.Queries.{page_program}
use Rattle.tables.proofs.Writes.{IsCommand}
use Rattle.file_check.specs.Refusals.{IsRefusal, RefusesOnly}
use Rattle.tables.specs.Schema as tables

-- the text is one statement and no more, and takes so many parameters
abbrev pub IsWhole : List ℕ → ℕ → Result Compiled CompileError → Type 0
IsWhole text count (Ok c) = (nat_lt c.tail (length text) ≡ false) × (length c.names ≡ count)
IsWhole text count (Err e) = ⊥

-- the query is asked with parameters that it takes, and sums up nothing
pub record IsAsked (text : List ℕ) (q : Program) (params : Row) : Type 0 where
  pub whole : IsWhole text (length params) (understood schema text)
  pub typed : accepts_program schema (lets_of q) q.body params ≡ true
  pub unsummed : (trees : Trees) → ¬ (ProgramOverflows trees params [] (lets_of q) q.body)

-- a page of one table sums up nothing
page_unsummed : (tree : ℕ) (tests shown : List Term) (order : List (Term × Key)) (limit offset : Term) (params : Row) (trees : Trees)
    → ¬ (ProgramOverflows trees params [] [] (page_program tree tests shown order limit offset).body)
page_unsummed tree tests shown order limit offset params trees (inl none) = none
page_unsummed tree tests shown order limit offset params trees (inr some) = some.4

-- so the rest is computed
pub page_asked : {text : List ℕ} {tree : ℕ} {tests shown : List Term} {order : List (Term × Key)} {limit offset : Term} {params : Row} → IsWhole text (length params) (understood schema text)
    → accepts_program schema [] (page_program tree tests shown order limit offset).body params ≡ true → IsAsked text (page_program tree tests shown order limit offset) params
page_asked {tree = tree} {tests = tests} {shown = shown} {order = order} {limit = limit} {offset = offset} {params = params} whole typed =
    record { whole = whole; typed = typed; unsummed = page_unsummed tree tests shown order limit offset params }

not_above : (a b : ℕ) → nat_lt b a ≡ false → a ≤ b
not_above a b is = grind arith

module _ (old new : State) (has : old.now.schema ≡ schema) {text : List ℕ} {q : Program} {names : List (List ℕ)} (it : IsCommand schema text (Select q names)) {params : Row} (asked : IsAsked text q params) (e : Error) where
  understood_so : understood old.now.schema text ≡ understood schema text
  understood_so = ap (λ s. understood s text) has

  is_statement : IsNoStatement old text params e → ⊥
  is_statement (inl h) = subst (IsWhole text (length params)) (sym understood_so ∙ h.1) asked.whole
  is_statement (inr h) =
      let known = sym understood_so ∙ h.1 in
      let whole = subst (IsWhole text (length params)) known asked.whole in
      elim h.2 [
        | inl more ↦ more.0 (not_above (length text) h.0.tail whole.0)
        | inr (inl other) ↦ other.0 (sym whole.1)
        | inr (inr timed) ↦ timed.0 (subst IsPlain known it.plain).1
      ]

  unrun : IsNotRun old new text params e → IsRefusal old new e
  unfolding IsNotRun
  unrun (inl h) = absurd (is_statement h.0)
  unrun (inr h) = inl (record { cause = h.0; named = h.1; caused = h.2; told = h.4 })

  unread : RefusesToRead old.step_limit (Select q names) old.now params e → IsRefusal old new e
  unread (inl mistyped) = absurd (let never = sym mistyped.1 ∙ ap (λ s. accepts_program s (lets_of q) q.body params) has ∙ asked.typed in cc)
  unread (inr (inl summed)) = absurd (asked.unsummed old.now.trees summed.1)
  unread (inr (inr stopped)) = inr stopped

  pub refused : FailsToQuery text params old new e → IsRefusal old new e
  unfolding FailsToQuery
  refused (inl h) = unrun h
  refused (inr h) =
      let known = sym h.1.is ∙ understood_so in
      let bare = subst IsPlain (sym known) it.plain in
      let told = rw (bare.0, bare.1, append-nil params) at h.2 in
      let db : told.0 ≡ old.now = subst (λ b. IsSourceOf b old.now told.0) (ap (λ s. reads_listing s text) has ∙ it.unlisted) told.1 in
      unread (subst₂ (λ k d. RefusesToRead old.step_limit k d params e) (ap command_of known ∙ it.is) db told.2)

-- so it is of what a query answers
pub refuses_only : {S X : Type 0} (g : Ghosts S) (old new : Held S) {text : List ℕ} {q : Program} {names : List (List ℕ)} → IsCommand schema text (Select q names) → {params given : Row} → IsAsked text q given → params ≡ given → (r : Result X Error)
    → (HasCleanDisk (state g new) → IfErr r (FailsToQuery text params (state g old) (state g new))) → RefusesOnly g old new r
refuses_only g old new it asked same (Ok x) fails = λ has clean. tt
refuses_only g old new {text = text} it asked same (Err e) fails = λ has clean. refused (state g old) (state g new) has it asked e (subst (λ ps. FailsToQuery text ps (state g old) (state g new) e) same (fails clean))
