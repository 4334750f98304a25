-- A store of which one call fails: which call that is, and what each call makes of it.
-- This project's own: so each call of a store can be tried failing, once.
use Rattle.std.specs.Prelude.{◌≡◌, ◌≢◌, ℕ, suc, zero, Result, Err}
use Rattle.store.specs.Causes.{HasFailed}
use Rattle.store.specs.declared.fail_store.FailStore.{FailStore}
use Rattle.store.specs.declared.fail_store.FailingCall.{FailingCall}
use Rattle.store.specs.declared.fail_store.FailingCall.TheVariants.{After, Never, Past}
use Rattle.store.specs.declared.fault.StoreFault.{StoreFault}
use Rattle.store.specs.declared.fault.StoreFault.TheVariants.{Failed}
use Rattle.store.specs.declared.store.Store.{Ghosts}

-- the k-th call, or none where k is 0
abbrev pub failing_call : ℕ → FailingCall
failing_call zero = Never
failing_call (suc others) = After others

-- which call fails, once one more was made
abbrev pub one_call_later : FailingCall → FailingCall
one_call_later (After zero) = Past
one_call_later (After (suc others)) = After others
one_call_later Past = Past
one_call_later Never = Never

-- the same, once so many more were made
abbrev pub calls_later : ℕ → FailingCall → FailingCall
calls_later zero failing = failing
calls_later (suc calls) failing = calls_later calls (one_call_later failing)

-- how many faults were counted of it
abbrev pub failures_of : FailingCall → ℕ
failures_of (After others) = 0
failures_of Past = 1
failures_of Never = 0

-- What a call makes of it: where the call is the one that fails, it answers `Failed`, and the store below is as it was; another
-- call answers `Failed` only where the store below counted a failure.
pub record TakesTurn {S X : Type 0} (g : Ghosts S) (old new : FailStore S) (result : Result X StoreFault) : Type 0 where
  pub later : new.failing ≡ one_call_later old.failing
  pub failed : old.failing ≡ After 0 → result ≡ Err Failed
  pub unchanged : old.failing ≡ After 0 → new.store ≡ old.store
  pub others : old.failing ≢ After 0 → result ≡ Err Failed → HasFailed (g.fault_count old.store) (g.fault_count new.store)
