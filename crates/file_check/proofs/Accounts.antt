-- Each failure of a check is accounted for, one part after another.
use Rattle.std.proofs.Common.{◌≡◌, ◌≤◌, arith, inl, inr, Result, Ok, Err, refl, sym, subst, ap, ◌∙◌, IfErr, IfOk, OnOk}
use Rattle.std.specs.Prelude.{IsSome}
use Rattle.sqlite.specs.Effect.{Database}
use Rattle.sqlite.specs.Held.{Held, state}
use Rattle.sqlite.specs.State.{HasCause, HasCleanDisk, IsUnchanged, State}
use Rattle.sqlite.specs.declared.error.Error.{Error}
use Rattle.sqlite_trees.specs.Tree.{Trees}
use Rattle.sqlite_trees.specs.declared.error.StoreError.{StoreError}
use Rattle.sqlite_trees.specs.declared.error.StoreError.TheVariants.{Broken, Corrupt, Full, Io, OutOfMemory, Unstorable}
use Rattle.sqlite_trees.specs.declared.store.Store.{Ghosts}
use Rattle.tables.specs.Calls.{Reads}
use Rattle.file_check.specs.Refusals.{IsRefusal}
use Rattle.tables.specs.Schema.{schema}
use Rattle.tables.specs.Steps.{Asks}
use Rattle.file_check.specs.Checks.{Accounts, IsCause, IsSame}
use Rattle.file_check.specs.declared.finding.CheckFault.{CheckFault}
use Rattle.file_check.specs.declared.finding.CheckFault.TheVariants.{Memory, Sqlite}

-- ---- states

pub same_itself : (a : State) → IsSame a a
same_itself a = record { now = refl; committed = refl; mode = refl; is_open = refl }

pub same_then : (a b c : State) → IsSame a b → IsSame b c → IsSame a c
same_then a b c p q = record { now = q.now ∙ p.now; committed = q.committed ∙ p.committed; mode = q.mode ∙ p.mode; is_open = q.is_open ∙ p.is_open }

pub unchanged_same : (a b : State) → IsUnchanged a b → IsSame a b
unchanged_same a b u = record { now = u.0.now_is; committed = u.0.committed_is; mode = u.0.mode; is_open = u.0.is_open ∙ sym u.0.was_open }

-- ---- results

pub on_ok : {X E P Q : Type 0} (r : Result X E) → (P → Q) → OnOk r P → OnOk r Q
on_ok (Ok x) f p = f p
on_ok (Err e) f p = tt

pub if_ok : {X E : Type 0} {P Q : X → Type 0} (r : Result X E) → ((x : X) → P x → Q x) → IfOk r P → IfOk r Q
if_ok (Ok x) f p = f x p
if_ok (Err e) f p = tt

if_err : {X E : Type 0} {P Q : E → Type 0} (r : Result X E) → ((e : E) → P e → Q e) → IfErr r P → IfErr r Q
if_err (Ok x) f p = tt
if_err (Err e) f p = f e p

-- ---- a cause, seen from before

module _ (a b c : State) (open' : b.is_open ≡ a.is_open) (counts : a.faults ≤ b.faults) where
  caused_since : (cause : StoreError) → HasCause b c ⊥ cause → HasCause a c ⊥ cause
  caused_since OutOfMemory h = tt
  caused_since Io h = omega arith
  caused_since Corrupt h = omega arith
  caused_since Full h = omega arith
  caused_since Broken h = sym open' ∙ h
  caused_since Unstorable h = h

  cause_since : b.step_limit ≡ a.step_limit → (e : CheckFault) → IsCause b c e → IsCause a c e
  cause_since limit Memory h = tt
  cause_since limit (Sqlite e) (inl h) = inl (record { cause = h.cause; named = h.named; caused = caused_since h.cause h.caused; told = h.told })
  cause_since limit (Sqlite e) (inr h) = inr (h.0, subst IsSome limit h.1)

-- ---- parts

module _ {S : Type 0} (g : Ghosts S) where
  -- nothing is read
  pub accounts_none : {X : Type 0} (a : Held S) (x : X) → Accounts g a a (Ok x)
  accounts_none a x = record { failed = λ has clean. tt; same = λ has clean. same_itself (state g a); counts = λ has clean. omega arith }

  module _ {a b : Held S} where
    -- a statement
    pub accounts_read : {X : Type 0} {F : Database → Type 0} {A : Trees → X → Type 0} {x : X} → Reads {E = Error} g F a b A (Ok x) → Accounts g a b (Ok x)
    accounts_read h = record { failed = λ has clean. tt; same = λ has clean. unchanged_same (state g a) (state g b) (h.stands has clean); counts = λ has clean. (h.looks has).survives.counts }

    -- one that the library refuses
    pub accounts_refused : {X Y : Type 0} {F : Database → Type 0} {A : Trees → X → Type 0} {e : Error} → Reads g F a b A (Err e) → (a.schema ≡ schema → HasCleanDisk (state g b) → IsRefusal (state g a) (state g b) e) → Accounts {X = Y} g a b (Err (Sqlite e))
    accounts_refused h refuses = record { failed = refuses; same = λ has clean. tt; counts = λ has clean. (h.looks has).survives.counts }

    -- what is made of what was found
    pub accounts_so : {X Y : Type 0} {x : X} (y : Y) → Accounts g a b (Ok x) → Accounts g a b (Ok y)
    accounts_so y p = record { failed = λ has clean. tt; same = p.same; counts = p.counts }

    -- a failure is handed on
    pub accounts_stop : {X Y : Type 0} {e : CheckFault} → Accounts {X = X} g a b (Err e) → Accounts {X = Y} g a b (Err e)
    accounts_stop p = record { failed = p.failed; same = λ has clean. tt; counts = p.counts }

    -- memory runs out behind a part that ended well
    pub accounts_lost : {X Y : Type 0} {x : X} → Accounts g a b (Ok x) → Accounts {X = Y} g a b (Err Memory)
    accounts_lost p = record { failed = λ has clean. tt; same = λ has clean. tt; counts = p.counts }

  -- one part, and then another
  pub accounts_then : {X Y : Type 0} {a b c : Held S} {x : X} (r : Result Y CheckFault) → Asks (state g a) (state g b) → Asks (state g b) (state g c) → Accounts g a b (Ok x) → Accounts g b c r → Accounts g a c r
  accounts_then {a = a} {b = b} {c = c} r h k p q = record {
    failed = λ has clean.
        let was = k.clean clean in
        let same = p.same has was in
        let counts = p.counts has was in
        if_err r (cause_since (state g a) (state g b) (state g c) same.is_open counts h.limit) (q.failed (ap (λ (d : Database). d.schema) same.now ∙ has) clean);
    same = λ has clean.
        let same = p.same has (k.clean clean) in
        on_ok r (same_then (state g a) (state g b) (state g c) same) (q.same (ap (λ (d : Database). d.schema) same.now ∙ has) clean);
    counts = λ has clean.
        let was = k.clean clean in
        let one = p.counts has was in
        let two = q.counts (ap (λ (d : Database). d.schema) (p.same has was).now ∙ has) clean in
        omega (arith, one, two);
  }
