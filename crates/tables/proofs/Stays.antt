-- Statements one after the other, and what a query leaves.
use Rattle.tables.proofs.Common.{Asks, CommitsShowing, Err, Error, FailsToQuery, FailsToShow, HasCleanDisk, IfErr, IfOk, IsNotRun, IsRolledBack, IsTrue, IsUnchanged, KeepsCommit, List, None, Ok, OnOk, OnlyLooks, Proceeds, Result, Row, Shown, ShowsRows, Some, State, Survives, arith, false, inl, inr, keeps_then, never_commits, refl, subst, unchanged_keeps, understood, ℕ, ◌≡◌, ◌⊎◌}
use Rattle.sqlite.specs.Given.{IsPlain}
use Rattle.sqlite_resolve.specs.declared.compiled.Compiled.{Compiled}
use Rattle.sqlite.proofs.StateLemmas.{survives_then, survives_weaker}

pub proceeds_then : (a b c : State) → Proceeds a b → Proceeds b c → Proceeds a c
proceeds_then a b c p q = record {
  kept = λ clean. keeps_then a b c (p.kept (omega (arith, q.survives.clean))) (q.kept clean);
  survives = survives_then a b c _ _ (λ _. ⊥) (λ _ db none. none) (λ _ db none. none) p.survives q.survives;
}

pub keeps_itself : (a : State) → KeepsCommit a a
keeps_itself a = record { was_open = λ h. h; committed = λ h. refl }

looks_shown : (old new : State) (sql : List ℕ) (c : Compiled) (params : Row) (e : Error) (what : _) → FailsToShow old new sql c params e what → IsUnchanged old new ⊎ IsRolledBack old new
looks_shown old new sql c params e None h = inl h.3
looks_shown old new sql c params e (Some what) (inl h) = inl h.1
looks_shown old new sql c params e (Some what) (inr h) = inr h.3

looks_unrun : (old new : State) (sql : List ℕ) (params : Row) (e : Error) → IsNotRun old new sql params e → IsUnchanged old new ⊎ IsRolledBack old new
unfolding IsNotRun
looks_unrun old new sql params e (inl h) = inl h.1
looks_unrun old new sql params e (inr h) = inr h.3

-- a query that fails leaves all as it was, or the transaction is undone
pub query_fails : (old new : State) (sql : List ℕ) (params : Row) (e : Error) → FailsToQuery sql params old new e → IsUnchanged old new ⊎ IsRolledBack old new
unfolding FailsToQuery
query_fails old new sql params e (inl h) = looks_unrun old new sql params e h
query_fails old new sql params e (inr h) = looks_shown old new sql h.0 _ e _ h.2

pub query_stands : (old new : State) (sql : List ℕ) (params : Row) (rows : List Row) → IsPlain (understood old.now.schema sql) → Shown sql params old new rows → IsUnchanged old new
unfolding Shown
query_stands old new sql params rows plain h =
    let none = (subst IsPlain h.1.is plain).0 in
    (subst (ShowsRows old new sql h.0 _ rows) none h.2).3

rows_back : (old new : State) → IsUnchanged old new ⊎ IsRolledBack old new → IsTrue new.is_open → (new.now ≡ old.now) ⊎ (new.now ≡ old.committed)
rows_back old new (inl h) up = inl h.0.now_is
rows_back old new (inr h) up = inr (h.undone up).0

-- what a query leaves that ended in one of these two ways
pub looks : (old new : State) (sql : List ℕ) (params : Row) → IsPlain (understood old.now.schema sql) → (HasCleanDisk new → IsUnchanged old new ⊎ IsRolledBack old new)
    → (old.in_transaction ≡ false → new.in_transaction ≡ false) → Survives old new (CommitsShowing sql params old) → OnlyLooks old new
looks old new sql params plain ends mode survives = record {
  rows = λ clean. rows_back old new (ends clean);
  kept = λ clean. unchanged_keeps old new (ends clean);
  mode = mode;
  survives = survives_weaker old new _ (λ _. ⊥) (λ _ db h. never_commits sql params old db plain h) survives;
}

-- whatever the schema is, only an open connection answers
rows_shown_open : (old new : State) (sql : List ℕ) (c : Compiled) (params : Row) (rows : List Row) (what : _) → ShowsRows old new sql c params rows what → IsTrue old.is_open
rows_shown_open old new sql c params rows None h = h.3.0.was_open
rows_shown_open old new sql c params rows (Some what) h = h.1.shown.was_open

pub shown_open : (old new : State) (sql : List ℕ) (params : Row) (rows : List Row) → Shown sql params old new rows → IsTrue old.is_open
unfolding Shown
shown_open old new sql params rows h = rows_shown_open old new sql h.0 _ rows h.0.returning h.2

pub served : {X : Type 0} (old new : State) (sql : List ℕ) (params : Row) (r : Result X Error) (items : X → List Row) → IfOk r (λ x. Shown sql params old new (items x)) → OnOk r (IsTrue old.is_open)
served old new sql params (Ok x) items h = shown_open old new sql params (items x) h
served old new sql params (Err e) items h = tt

was_open : {X : Type 0} (old new : State) (sql : List ℕ) (params : Row) (r : Result X Error) (items : X → List Row) → IfOk r (λ x. Shown sql params old new (items x)) → IfErr r (FailsToQuery sql params old new)
    → IsTrue new.is_open → IsTrue old.is_open
was_open old new sql params (Ok x) items h fails up = shown_open old new sql params (items x) h
was_open old new sql params (Err e) items h fails up = (unchanged_keeps old new (query_fails old new sql params e fails)).was_open up

pub asks : {X : Type 0} (old new : State) (sql : List ℕ) (params : Row) (r : Result X Error) (items : X → List Row) → (HasCleanDisk new → IfOk r (λ x. Shown sql params old new (items x)))
    → (HasCleanDisk new → IfErr r (FailsToQuery sql params old new)) → (old.in_transaction ≡ false → new.in_transaction ≡ false) → Survives old new (CommitsShowing sql params old) → Asks old new
asks old new sql params r items shows fails mode survives = record {
  clean = λ clean. omega (arith, survives.clean);
  was_open = λ clean. was_open old new sql params r items (shows clean) (fails clean);
  mode = mode;
  limit = survives.limit;
}
