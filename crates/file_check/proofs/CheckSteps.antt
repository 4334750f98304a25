-- Checks one after another, each of which leaves the connection as it was.
use Rattle.std.proofs.Common.{◌≡◌, ◌⊎◌, inl, inr, Result, Ok, Err, refl, sym, subst, ◌∙◌, IfOk, OnOk, IsTrue}
use Rattle.sqlite.specs.Effect.{Database}
use Rattle.sqlite.specs.Held.{Held, state}
use Rattle.sqlite.specs.State.{IsUnchanged, State}
use Rattle.sqlite_trees.specs.Tree.{Trees}
use Rattle.sqlite_trees.specs.declared.store.Store.{Ghosts}
use Rattle.tables.specs.Calls.{Reads}
use Rattle.tables.specs.Schema.{schema}
use Rattle.tables.specs.Steps.{Asks}
pub use Rattle.file_check.proofs.Accounts.{if_ok, on_ok, same_itself, same_then, unchanged_same}
use Rattle.file_check.specs.Checks.{Checks, LeavesRows}

-- ---- states

asks_itself : (a : State) → Asks a a
asks_itself a = record { clean = λ c. c; was_open = λ c up. up; mode = λ m. m; limit = refl }

asks_then : (a b c : State) → Asks a b → Asks b c → Asks a c
asks_then a b c p q = record {
  clean = λ now. p.clean (q.clean now);
  was_open = λ now up. p.was_open (q.clean now) (q.was_open now up);
  mode = λ m. q.mode (p.mode m);
  limit = q.limit ∙ p.limit;
}

leaves_itself : (a : State) → LeavesRows a a
leaves_itself a = record { rows = λ up. inl refl; kept = record { was_open = λ up. up; committed = λ up. refl } }

leaves_then : (a b c : State) → LeavesRows a b → LeavesRows b c → LeavesRows a c
leaves_then a b c p q = record {
  rows = λ up. rows up (q.rows up);
  kept = record { was_open = λ up. p.kept.was_open (q.kept.was_open up); committed = λ up. q.kept.committed up ∙ p.kept.committed (q.kept.was_open up) };
}
  where
    at : IsTrue b.is_open → (b.now ≡ a.now) ⊎ (b.now ≡ a.committed) → c.now ≡ b.now → (c.now ≡ a.now) ⊎ (c.now ≡ a.committed)
    at up (inl is) same = inl (same ∙ is)
    at up (inr is) same = inr (same ∙ is)

    rows : IsTrue c.is_open → (c.now ≡ b.now) ⊎ (c.now ≡ b.committed) → (c.now ≡ a.now) ⊎ (c.now ≡ a.committed)
    rows up (inl is) = let was = q.kept.was_open up in at was (p.rows was) is
    rows up (inr is) = inr (is ∙ p.kept.committed (q.kept.was_open up))

-- ---- checks

on_all : {X E P : Type 0} (r : Result X E) → P → OnOk r P
on_all (Ok x) p = p
on_all (Err e) p = tt

module _ {S : Type 0} (g : Ghosts S) where
  -- a statement that reads
  pub checks_read : {X E : Type 0} {F : Database → Type 0} {A : Trees → X → Type 0} {a b : Held S} {r : Result X E} → (F (state g a).now → a.schema ≡ schema) → Reads g F a b A r → Checks g F a b A r
  checks_read {a = a} {b = b} {r = r} ours h = record {
    tells = h.found;
    stays = λ clean fit. on_ok r (unchanged_same (state g a) (state g b)) (h.stands (ours fit) clean);
    leaves = λ clean fit. record { rows = (h.looks (ours fit)).rows clean; kept = (h.looks (ours fit)).kept clean };
    asks = h.asks;
  }

  -- nothing is read
  pub checks_none : {X E : Type 0} (F : Database → Type 0) (A : Trees → X → Type 0) (a : Held S) (r : Result X E) → (F (state g a).now → IfOk r (A (state g a).now.trees)) → Checks g F a a A r
  checks_none F A a r tells = record {
    tells = λ clean fit. tells fit;
    stays = λ clean fit. on_all r (same_itself (state g a));
    leaves = λ clean fit. leaves_itself (state g a);
    asks = asks_itself (state g a);
  }

  -- what ends with an error may be told in another way
  pub checks_err : {X Y E D : Type 0} (F F' : Database → Type 0) {A : Trees → X → Type 0} {B : Trees → Y → Type 0} {a b : Held S} {e : E} (d : D) (r : Result Y D) → r ≡ Err d → (F (state g a).now → F' (state g a).now) → Checks g F' a b A (Err e) → Checks g F a b B r
  checks_err F F' {B = B} {a = a} {b = b} d r is fits p =
      subst (Checks g F a b B) (sym is) (record { tells = λ clean fit. tt; stays = λ clean fit. tt; leaves = λ clean fit. p.leaves clean (fits fit); asks = p.asks })

  pub checks_stop : {X Y E D : Type 0} {F : Database → Type 0} {A : Trees → X → Type 0} {B : Trees → Y → Type 0} {a b : Held S} {e : E} (d : D) (r : Result Y D) → r ≡ Err d → Checks g F a b A (Err e) → Checks g F a b B r
  checks_stop {F = F} d r is p = checks_err F F d r is (λ fit. fit) p

  -- a check, and then another
  pub checks_then : {X Y E D : Type 0} (F F' : Database → Type 0) {A : Trees → X → Type 0} {B C : Trees → Y → Type 0} {a b c : Held S} {x : X} {r : Result Y D}
      → Checks {E = E} g F a b A (Ok x) → Checks g F' b c B r
      → (F (state g a).now → A (state g a).now.trees x → F' (state g a).now)
      → (F (state g a).now → A (state g a).now.trees x → (y : Y) → B (state g a).now.trees y → C (state g a).now.trees y) → Checks g F a c C r
  checks_then F F' {B = B} {C = C} {a = a} {b = b} {c = c} {x = x} {r = r} p q next joins = record {
    tells = λ clean fit.
        let was = q.asks.clean clean in
        let first = p.tells was fit in
        let same = p.stays was fit in
        if_ok r (joins fit first) (subst (λ (e : Database). IfOk r (B e.trees)) same.now (q.tells clean (subst F' (sym same.now) (next fit first))));
    stays = λ clean fit.
        let was = q.asks.clean clean in
        let same = p.stays was fit in
        on_ok r (same_then (state g a) (state g b) (state g c) same) (q.stays clean (subst F' (sym same.now) (next fit (p.tells was fit))));
    leaves = λ clean fit.
        let was = q.asks.clean clean in
        let same = p.stays was fit in
        leaves_then (state g a) (state g b) (state g c) (p.leaves was fit) (q.leaves clean (subst F' (sym same.now) (next fit (p.tells was fit))));
    asks = asks_then (state g a) (state g b) (state g c) p.asks q.asks;
  }

  -- what is told follows from what was told
  pub checks_so : {X Y E D : Type 0} (F F' : Database → Type 0) {A : Trees → X → Type 0} (B : Trees → Y → Type 0) {a b : Held S} {x : X} {y : Y} → Checks {E = E} g F' a b A (Ok x)
      → (F (state g a).now → F' (state g a).now) → (F (state g a).now → A (state g a).now.trees x → B (state g a).now.trees y) → Checks {E = D} g F a b B (Ok y)
  checks_so F F' B p fits so = record {
    tells = λ clean fit. so fit (p.tells clean (fits fit));
    stays = λ clean fit. p.stays clean (fits fit);
    leaves = λ clean fit. p.leaves clean (fits fit);
    asks = p.asks;
  }

  -- where more is known, and less is told
  pub checks_weaker : {X E : Type 0} (F F' : Database → Type 0) {A B : Trees → X → Type 0} {a b : Held S} {r : Result X E} → Checks g F' a b A r → (F (state g a).now → F' (state g a).now)
      → (F (state g a).now → (x : X) → A (state g a).now.trees x → B (state g a).now.trees x) → Checks g F a b B r
  checks_weaker F F' {r = r} p fits so = record {
    tells = λ clean fit. if_ok r (so fit) (p.tells clean (fits fit));
    stays = λ clean fit. p.stays clean (fits fit);
    leaves = λ clean fit. p.leaves clean (fits fit);
    asks = p.asks;
  }
