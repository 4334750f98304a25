-- The steps of a look at one entry, one after another.
use Rattle.std.proofs.Common.{◌≡◌, ◌∙◌, ap, Bool, Err, List, [], Ok, Result, Some, map, subst, sym, ℕ}
use Rattle.std.specs.Prelude.{filter, find, slice_get, unwrap_or}
use Rattle.sqlite.specs.Effect.{Database}
use Rattle.sqlite.specs.Held.{Held, state}
use Rattle.sqlite_trees.specs.Tree.{Trees}
use Rattle.sqlite_trees.specs.declared.store.Store.{Ghosts}
use Rattle.sqlite_value.specs.Order.{Row}
use Rattle.index.specs.Layout.{HasIndexRows}
use Rattle.tables.specs.Layout.{IsStore}
use Rattle.file_check.proofs.CheckSteps.{checks_so, checks_then, checks_weaker}
use Rattle.file_check.proofs.FoundRows.{first_shown}
use Rattle.file_check.proofs.WalkedRows.{shown_there}
use Rattle.file_check.specs.Checks.{Checks}
use Rattle.file_check.specs.Indexes.{IsAnswer, IsOwnEntry}
use Rattle.file_check.specs.inner.IndexRows.{IsEntryUnder}

module _ {S : Type 0} (g : Ghosts S) where
  -- a step behind a check fails
  pub checks_lost : {X Y E D : Type 0} {F : Database → Type 0} {A : Trees → X → Type 0} {B : Trees → Y → Type 0} {a b : Held S} {x : X} (d : D) (r : Result Y D) → r ≡ Err d → Checks {E = E} g F a b A (Ok x) → Checks g F a b B r
  checks_lost {F = F} {B = B} {a = a} {b = b} d r is p =
      subst (Checks g F a b B) (sym is) (record { tells = λ clean fit. tt; stays = λ clean fit. tt; leaves = p.leaves; asks = p.asks })

  -- both of two checks tell
  pub checks_both : {X Y E D : Type 0} (F F₁ F₂ : Database → Type 0) {A : Trees → X → Type 0} {B : Trees → Y → Type 0} {a b c : Held S} {x : X} {r : Result Y D}
      → Checks {E = E} g F₁ a b A (Ok x) → Checks g F₂ b c B r → (F (state g a).now → F₁ (state g a).now) → (F (state g a).now → F₂ (state g a).now) → Checks g F a c (λ trees y. A trees x × B trees y) r
  checks_both F F₁ F₂ {A = A} {B = B} {x = x} p q one two =
      checks_then g F F₂ {A = A} {B = B} {C = λ trees y. A trees x × B trees y} (checks_weaker g F F₁ {A = A} {B = A} p one (λ fit x is. is)) q (λ fit is. two fit) (λ fit is y h. (is, h))

  -- the first row that is found is looked at
  pub first_looked : {X Y E D : Type 0} (F F' : Database → Type 0) (tree : ℕ) (items : X → List Row) (p : Row → Bool) (show : Row → Row) (row : Row) {B : Trees → Y → Type 0} {a b c : Held S} {v : X} {r : Result Y D}
      → Checks {E = E} g F a b (λ trees x. items x ≡ map show (filter p (trees tree))) (Ok v) → slice_get (items v) 0 ≡ Some row → Checks g F' b c B r
      → (F (state g a).now → find p ((state g a).now.trees tree) ≡ Some (unwrap_or (find p ((state g a).now.trees tree)) []) → row ≡ show (unwrap_or (find p ((state g a).now.trees tree)) []) → F' (state g a).now)
      → Checks g F a c B r
  first_looked F F' tree items p show row {B = B} {a = a} first at next fits =
      let rows = (state g a).now.trees tree in
      checks_then g F F' {A = λ trees x. items x ≡ map show (filter p (trees tree))} {B = B} {C = B} first next
      (λ fit is. let found = shown_there show (find p rows) row (sym (ap (λ l. slice_get l 0) is ∙ first_shown p show rows) ∙ at) in fits fit found.0 found.1)
      (λ fit is y h. h)

  -- what is told of an entry, where its index was looked for and its document was read
  pub entry_told : {X Y E E' D : Type 0} (index d shown e : Row) {A : Trees → X → Type 0} {B : Trees → Y → Type 0} {a b c : Held S} {x : X} {y : Y} {is : Bool} → Checks {E = E} g HasIndexRows a b A (Ok x) → Checks {E = E'} g IsStore b c B (Ok y)
      → (IsEntryUnder index d shown e (state g a).now → A (state g a).now.trees x × B (state g a).now.trees y → IsAnswer (IsOwnEntry (state g a).now.trees e) is)
      → Checks {E = D} g (IsEntryUnder index d shown e) a c (λ trees is. IsAnswer (IsOwnEntry trees e) is) (Ok is)
  entry_told index d shown e p q tells =
      let F = IsEntryUnder index d shown e in
      checks_so g F F (λ trees is. IsAnswer (IsOwnEntry trees e) is) (checks_both F HasIndexRows IsStore p q (λ fit. fit.entry.ready.rows) (λ fit. fit.entry.ready.store)) (λ fit. fit) tells
