-- What is left of the causes of a failure, where a store never lacks numbers.
use Rattle.std.proofs.Common.{◌≡◌, ◌+◌, ◌-◌, ◌^◌, ℕ, List, inl, inr, refl, arith}
use Rattle.std.specs.Prelude.{min}
use Rattle.store.specs.Causes.{HasFailed}
use Rattle.store.specs.Database.{DocumentWrite}
use Rattle.store.specs.Failing.{failures_of}
use Rattle.store.specs.declared.fail_store.FailingCall.{FailingCall}
use Rattle.store.specs.declared.fail_store.FailingCall.TheVariants.{After, Never, Past}
use Rattle.store.specs.declared.store.Store.{Ghosts}
use Rattle.node.specs.Answer.{Change, creation, inside, kept, removal}
use Rattle.node.specs.Causes.{IsFailure, LacksNumbers}
use Rattle.node.specs.Work.{appended, local_put, nothing, secured}

lacks_nothing : {S : Type 0} (g : Ghosts S) (s : S) (change : Change) → (g.lacks_number s → ⊥) → ((name : List ℕ) (ws : List DocumentWrite) → g.lacks_room s name ws → ⊥)
    → LacksNumbers g s change → ⊥
lacks_nothing g s kept numbers room h = h
lacks_nothing g s (creation name) numbers room h = numbers h
lacks_nothing g s (removal name) numbers room h = h
lacks_nothing g s (inside name nothing) numbers room h = h
lacks_nothing g s (inside name (appended ws)) numbers room h = room name ws h
lacks_nothing g s (inside name (secured v)) numbers room h = h
lacks_nothing g s (inside name (local_put id document)) numbers room h = h

pub failed_alone : {S : Type 0} (g : Ghosts S) (old new : S) (change : Change) → g.is_honest new → (g.lacks_number old → ⊥)
    → ((name : List ℕ) (ws : List DocumentWrite) → g.lacks_room old name ws → ⊥) → IsFailure g old new change → HasFailed (g.fault_count old) (g.fault_count new)
failed_alone g old new change honest numbers room (inl failed) = failed
failed_alone g old new change honest numbers room (inr lacks) = absurd (lacks_nothing g old change numbers room (lacks honest))

abbrev counted : FailingCall → ℕ
counted failing = min (0 + failures_of failing) (2 ^ 64 - 1)

pub counted_once : (old new : FailingCall) → HasFailed (counted old) (counted new) → (counted old ≡ 0) × (counted new ≡ 1)
counted_once (After n) Past h = (refl, refl)
counted_once Never Past h = (refl, refl)
counted_once (After n) (After m) (inl rose) = omega (arith, rose)
counted_once (After n) (After m) (inr full) = omega (arith, full)
counted_once (After n) Never (inl rose) = omega (arith, rose)
counted_once (After n) Never (inr full) = omega (arith, full)
counted_once Past (After m) (inl rose) = omega (arith, rose)
counted_once Past (After m) (inr full) = omega (arith, full)
counted_once Past Past (inl rose) = omega (arith, rose)
counted_once Past Past (inr full) = omega (arith, full)
counted_once Past Never (inl rose) = omega (arith, rose)
counted_once Past Never (inr full) = omega (arith, full)
counted_once Never (After m) (inl rose) = omega (arith, rose)
counted_once Never (After m) (inr full) = omega (arith, full)
counted_once Never Never (inl rose) = omega (arith, rose)
counted_once Never Never (inr full) = omega (arith, full)
