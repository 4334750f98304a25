-- What a query of a transaction leaves.
use Rattle.tables.proofs.Common.{AsksInside, Err, Error, FailsToQuery, HasCleanDisk, IfErr, IfOk, IsRolledBack, IsSome, IsTooLate, IsTrue, IsUnchanged, List, Ok, OnOk, Proceeds, Result, Row, Shown, State, Survives, inl, inr, subst, unchanged_keeps, understood, ℕ, ◌⊎◌}
use Rattle.sqlite.specs.Given.{IsPlain}
use Rattle.tables.proofs.Stays.{query_fails, query_stands, shown_open}

module _ {X : Type 0} (old new : State) (sql : List ℕ) (params : Row) where
  pub fails_inside : IsPlain (understood old.now.schema sql) → (r : Result X Error) → IfErr r (λ e. FailsToQuery sql params old new e ⊎ IsTooLate sql params old new e) → IfErr r (FailsToQuery sql params old new)
  fails_inside plain (Ok x) h = tt
  fails_inside plain (Err e) (inl h) = h
  fails_inside plain (Err e) (inr h) = absurd (let some = subst IsSome (subst IsPlain h.1.is plain).0 h.2 in cc)

  pub stood : IsPlain (understood old.now.schema sql) → (r : Result X Error) (items : X → List Row) → IfOk r (λ x. Shown sql params old new (items x)) → OnOk r (IsUnchanged old new)
  stood plain (Ok x) items h = query_stands old new sql params (items x) plain h
  stood plain (Err e) items h = tt

  either : (r : Result X Error) → OnOk r (IsUnchanged old new) → IfErr r (FailsToQuery sql params old new) → IsUnchanged old new ⊎ IsRolledBack old new
  either (Ok x) same h = inl same
  either (Err e) same h = query_fails old new sql params e h

  pub proceeds : IsPlain (understood old.now.schema sql) → (r : Result X Error) (items : X → List Row) → (HasCleanDisk new → IfOk r (λ x. Shown sql params old new (items x)))
      → (HasCleanDisk new → IfErr r (λ e. FailsToQuery sql params old new e ⊎ IsTooLate sql params old new e)) → Survives old new (λ _. ⊥) → Proceeds old new
  proceeds plain r items shows fails survives = record {
    kept = λ clean. unchanged_keeps old new (either r (stood plain r items (shows clean)) (fails_inside plain r (fails clean)));
    survives = survives;
  }

  was_open : (r : Result X Error) (items : X → List Row) → IfOk r (λ x. Shown sql params old new (items x)) → IfErr r (λ e. FailsToQuery sql params old new e ⊎ IsTooLate sql params old new e)
      → IsTrue new.is_open → IsTrue old.is_open
  was_open (Ok x) items shows fails up = shown_open old new sql params (items x) shows
  was_open (Err e) items shows (inl h) up = (unchanged_keeps old new (query_fails old new sql params e h)).was_open up
  was_open (Err e) items shows (inr h) up = h.5.0.was_open

  pub asks_inside : (r : Result X Error) (items : X → List Row) → (HasCleanDisk new → IfOk r (λ x. Shown sql params old new (items x)))
      → (HasCleanDisk new → IfErr r (λ e. FailsToQuery sql params old new e ⊎ IsTooLate sql params old new e)) → Survives old new (λ _. ⊥) → AsksInside old new
  asks_inside r items shows fails survives = record { was_open = λ clean. was_open r items (shows clean) (fails clean); survives = survives }
