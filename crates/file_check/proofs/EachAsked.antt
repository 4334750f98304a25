-- A list of what is asked of the tables, one item after another, up to the first of which it does not hold.
use Rattle.std.proofs.Common.{◌≡◌, ℕ, zero, suc, ◌+◌, ◌≤◌, Bool, true, false, List, [], ◌∷◌, drop, length, Result, Ok, Err, sym, subst}
use Rattle.sqlite.specs.Effect.{Database}
use Rattle.sqlite.specs.Held.{Held, state}
use Rattle.sqlite_trees.specs.Tree.{Trees}
use Rattle.sqlite_trees.specs.declared.store.Store.{Ghosts}
use Rattle.std.proofs.lemmas.List.{drop_all}
use Rattle.std.specs.List.{AllByRecursion}
use Rattle.file_check.proofs.CheckSteps.{checks_none, checks_so, checks_stop, checks_then}
use Rattle.file_check.specs.Checks.{Checks}
use Rattle.file_check.specs.Indexes.{IsAnswer}
use Rattle.file_check.specs.declared.finding.CheckFault.{CheckFault}

-- what holds of all items holds of those that are left
all_left : {X : Type 0} (P : X → Type 0) (i : ℕ) (xs : List X) → AllByRecursion P xs → AllByRecursion P (drop i xs)
all_left P zero xs all = all
all_left P (suc i) [] all = tt
all_left P (suc i) (x ∷ xs) all = all_left P i xs all.1

-- what holds of the items that are left, of which this is the next, holds of it
pub of_next : {X : Type 0} (P : X → Type 0) (i : ℕ) (x : X) (xs rest : List X) → drop i xs ≡ x ∷ rest → AllByRecursion P xs → P x
of_next P i x xs rest next all = (subst (AllByRecursion P) next (all_left P i xs all)).0

module _ {S X : Type 0} (g : Ghosts S) (F : Database → Type 0) (P : Trees → X → Type 0) (xs : List X) where
  -- if it holds of what is left, it holds of all
  abbrev pub SoFar : ℕ → Held S → Held S → Type 0
  SoFar i a b = Checks {X = Unit {0}} {E = CheckFault} g F a b (λ trees done. AllByRecursion (P trees) (drop i xs) → AllByRecursion (P trees) xs) (Ok tt)

  abbrev pub AllAnswer : Trees → Bool → Type 0
  AllAnswer trees is = IsAnswer (AllByRecursion (P trees) xs) is

  pub each_begins : (a : Held S) → SoFar 0 a a
  each_begins a = checks_none g F (λ trees done. AllByRecursion (P trees) (drop 0 xs) → AllByRecursion (P trees) xs) a (Ok tt) (λ fit all. all)

  pub each_ends : (i : ℕ) {a b : Held S} → (F (state g a).now → length xs ≤ i) → SoFar i a b → Checks {E = CheckFault} g F a b AllAnswer (Ok true)
  each_ends i {a = a} none p = checks_so g F F AllAnswer p (λ fit. fit) (λ fit so. so (subst (AllByRecursion (P (state g a).now.trees)) (sym (drop_all i xs (none fit))) tt))

  module _ (i : ℕ) (x : X) (F' : Database → Type 0) {V : Type 0} (A : Trees → V → Type 0) {a b c : Held S} where
    -- it holds of the next item
    pub each_goes_on : (v : V) → SoFar i a b → Checks {E = CheckFault} g F' b c A (Ok v) → (F (state g a).now → F' (state g a).now) → (F (state g a).now → drop i xs ≡ x ∷ drop (i + 1) xs)
        → (F (state g a).now → A (state g a).now.trees v → P (state g a).now.trees x) → SoFar (i + 1) a c
    each_goes_on v p q fits next own =
        checks_so g F F (λ trees done. AllByRecursion (P trees) (drop (i + 1) xs) → AllByRecursion (P trees) xs)
        (checks_then g F F' {C = λ trees w. A trees w × (AllByRecursion (P trees) (drop i xs) → AllByRecursion (P trees) xs)} p q (λ fit so. fits fit) (λ fit so w told. (told, so))) (λ fit. fit)
        (λ fit told rest. told.1 (subst (AllByRecursion (P (state g a).now.trees)) (sym (next fit)) (own fit told.0, rest)))

    -- it does not
    pub each_refuted : (v : V) → SoFar i a b → Checks {E = CheckFault} g F' b c A (Ok v) → (F (state g a).now → F' (state g a).now) → (F (state g a).now → drop i xs ≡ x ∷ drop (i + 1) xs)
        → (F (state g a).now → A (state g a).now.trees v → ¬ P (state g a).now.trees x) → Checks {E = CheckFault} g F a c AllAnswer (Ok false)
    each_refuted v p q fits next out =
        checks_so g F F AllAnswer (checks_then g F F' {C = A} p q (λ fit so. fits fit) (λ fit so w told. told)) (λ fit. fit)
        (λ fit told all. out fit told (of_next (P (state g a).now.trees) i x xs (drop (i + 1) xs) (next fit) all))

    -- it is not told
    pub each_fails : (e : CheckFault) (r : Result Bool CheckFault) → r ≡ Err e → SoFar i a b → Checks {E = CheckFault} g F' b c A (Err e) → (F (state g a).now → F' (state g a).now) → Checks g F a c AllAnswer r
    each_fails e r is p q fits = checks_stop g e r is (checks_then g F F' {C = A} p q (λ fit so. fits fit) (λ fit so w told. told))
