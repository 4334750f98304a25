-- Which call fails, and when it is counted, after any number of calls.
use Rattle.std.proofs.Common.{◌≡◌, ◌<◌, ℕ, suc, zero, refl, ap, arith, rules}
use Rattle.store.specs.Failing.{calls_later, failing_call, failures_of}
use Rattle.store.specs.declared.fail_store.FailingCall.TheVariants.{After, Never, Past}

past_stays : (n : ℕ) → calls_later n Past ≡ Past
past_stays zero = refl
past_stays (suc n) = past_stays n

never_stays : (n : ℕ) → calls_later n Never ≡ Never
never_stays zero = refl
never_stays (suc n) = never_stays n

pub call_fails : (n : ℕ) → calls_later n (failing_call (suc n)) ≡ After 0
call_fails zero = refl
call_fails (suc n) = call_fails n

fails_behind : (others n : ℕ) → calls_later n (After others) ≡ After 0 → others ≡ n
fails_behind zero zero e = refl
fails_behind (suc others) zero e = search rules
fails_behind zero (suc n) e = let past = past_stays n in search rules
fails_behind (suc others) (suc n) e = ap suc (fails_behind others n e)

pub fails_alone : (k n : ℕ) → calls_later n (failing_call k) ≡ After 0 → k ≡ suc n
fails_alone zero n e = let never = never_stays n in search rules
fails_alone (suc others) n e = ap suc (fails_behind others n e)

pub is_counted : (k n : ℕ) → k < n → failures_of (calls_later n (failing_call (suc k))) ≡ 1
is_counted k zero less = omega arith
is_counted zero (suc n) less = ap failures_of (past_stays n)
is_counted (suc k) (suc n) less = is_counted k n (omega arith)

is_ahead : (others n : ℕ) → n < suc others → failures_of (calls_later n (After others)) ≡ 0
is_ahead others zero less = refl
is_ahead zero (suc n) less = omega arith
is_ahead (suc others) (suc n) less = is_ahead others n (omega arith)

pub uncounted_before : (k n : ℕ) → n < k → failures_of (calls_later n (failing_call k)) ≡ 0
uncounted_before zero n less = omega arith
uncounted_before (suc others) n less = is_ahead others n less

pub never_counted : (n : ℕ) → failures_of (calls_later n (failing_call 0)) ≡ 0
never_counted n = ap failures_of (never_stays n)
