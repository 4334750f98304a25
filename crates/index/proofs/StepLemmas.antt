-- Steps of a change, one after another.
use Rattle.index.proofs.Common.{Alters, AreEntriesOf, AsksInside, Changes, Database, Entries, Err, Ghosts, StaysOpen, HasCleanDisk, HasEntries, Held, List, Ok, OnOk, Option, Proceeds, ReplacesKey, Result, Row, State, ap, arith, entries_tree, inl, is_key, keeps_itself, refl, schema, state, subst, sym, with_key, ℕ, ℤ, ⊤, ◌∙◌, ◌≡◌}
use Rattle.index.proofs.Going.{on_ok, went_on}
use Rattle.index.specs.Steps.{Steps}
use Rattle.sqlite.proofs.InsideLemmas.{keeps_then}
use Rattle.sqlite.proofs.StateLemmas.{survives_then}
use Rattle.tables.specs.Calls.{KeepsSchema, LooksInside, KeepsConnection}
use Rattle.tables.specs.Calls as calls

asks_itself : (a : State) → AsksInside a a
asks_itself a = record {
  was_open = λ clean up. up;
  survives = record { clean = omega arith; shield = λ h. h; counts = omega arith; limit = refl; closes = λ clean up. inl up; crash = λ clean db may. inl may };
}

asks_then : (a b c : State) → AsksInside a b → AsksInside b c → AsksInside a c
asks_then a b c p q = record {
  was_open = λ clean up. p.was_open (omega (arith, q.survives.clean, clean)) (q.was_open clean up);
  survives = survives_then a b c _ _ (λ _. ⊥) (λ _ db none. none) (λ _ db none. none) p.survives q.survives;
}

asks_changed : (a b : State) → Proceeds a b → AsksInside a b
asks_changed a b p = record { was_open = λ clean up. (p.kept clean).was_open up; survives = p.survives }

module _ {S : Type 0} (g : Ghosts S) where
  -- nothing is done
  pub steps_none : {X E : Type 0} (F : Database → Type 0) (G : Database → Database → Type 0) (a : Held S) (r : Result X E) → (F (state g a).now → OnOk r (G (state g a).now (state g a).now)) → OnOk r ⊤ → Steps g F G a a r
  steps_none F G a r gives well = record {
    ok = λ clean fit. gives fit;
    keeps = λ clean has. on_ok r (λ u. has) well;
    kept = λ clean has. keeps_itself (state g a);
    goes_on = λ clean has up inside. on_ok r (λ u. (up, inside)) well;
    asks = asks_itself (state g a);
  }

  -- what ends with an error may be told in another way
  pub steps_stop : {X Y E D : Type 0} (F : Database → Type 0) (G H : Database → Database → Type 0) (a b : Held S) (e : E) (d : D) (r : Result Y D) → r ≡ Err d → Steps {X = X} g F G a b (Err e) → Steps g F H a b r
  steps_stop F G H a b e d r is p = subst (Steps g F H a b) (sym is) (record { ok = λ clean fit. tt; keeps = λ clean has. tt; kept = p.kept; goes_on = λ clean has up inside. tt; asks = p.asks })

  -- what ended well ended so, whatever else it might have told
  pub steps_well : {X Y E D : Type 0} (F : Database → Type 0) (G : Database → Database → Type 0) (a b : Held S) (x : X) (y : Y) → Steps {E = E} g F G a b (Ok x) → Steps {E = D} g F G a b (Ok y)
  steps_well F G a b x y p = record { ok = p.ok; keeps = p.keeps; kept = p.kept; goes_on = p.goes_on; asks = p.asks }

  -- a step, and then another
  pub steps_then : {X Y E D : Type 0} (F F' : Database → Type 0) (G G' H : Database → Database → Type 0) (a b c : Held S) (x : X) (r : Result Y D) → Steps {E = E} g F G a b (Ok x) → Steps g F' G' b c r
      → (HasCleanDisk (state g b) → F (state g a).now → G (state g a).now (state g b).now → F' (state g b).now)
      → (HasCleanDisk (state g b) → F (state g a).now → G (state g a).now (state g b).now → G' (state g b).now (state g c).now → H (state g a).now (state g c).now) → Steps g F H a c r
  steps_then F F' G G' H a b c x r p q next joins = record {
    ok = λ clean fit.
        let was : HasCleanDisk (state g b) = omega (arith, q.asks.survives.clean, clean) in
        let first = p.ok was fit in
        on_ok r (joins was fit first) (q.ok clean (next was fit first));
    keeps = λ clean has.
        let was : HasCleanDisk (state g b) = omega (arith, q.asks.survives.clean, clean) in
        q.keeps clean (p.keeps was has);
    kept = λ clean has.
        let was : HasCleanDisk (state g b) = omega (arith, q.asks.survives.clean, clean) in
        keeps_then (state g a) (state g b) (state g c) (p.kept was has) (q.kept clean (p.keeps was has));
    goes_on = λ clean has up inside.
        let was : HasCleanDisk (state g b) = omega (arith, q.asks.survives.clean, clean) in
        let before = p.goes_on was has up inside in
        q.goes_on clean (p.keeps was has) before.0 before.1;
    asks = asks_then (state g a) (state g b) (state g c) p.asks q.asks;
  }

  -- a step, and then one that fails, whose error is told in another way
  pub steps_failed : {X Y Z E E' D : Type 0} (F F' : Database → Type 0) (G G' H : Database → Database → Type 0) (a b c : Held S) (x : X) (e : E') (d : D) (r : Result Z D) → r ≡ Err d → Steps {E = E} g F G a b (Ok x)
      → Steps {X = Y} g F' G' b c (Err e) → (HasCleanDisk (state g b) → F (state g a).now → G (state g a).now (state g b).now → F' (state g b).now) → Steps g F H a c r
  steps_failed {X} {Y} {Z} {E} {E'} F F' G G' H a b c x e d r is p q next =
      steps_stop {X = Y} F (λ p q. ⊤) H a c e d r is (steps_then {E = E} {D = E'} F F' G G' (λ p q. ⊤) a b c x (Err e) p q next (λ was fit made got. tt))

  -- an error that comes before anything is done
  pub steps_err : {X E : Type 0} (F : Database → Type 0) (G : Database → Database → Type 0) (a : Held S) (e : E) (r : Result X E) → r ≡ Err e → Steps g F G a a r
  steps_err F G a e r is = subst (Steps g F G a a) (sym is) (steps_none F G a (Err e) (λ fit. tt) tt)

  -- what is read changes nothing
  pub steps_read : {X E : Type 0} (F : Database → Type 0) (a b : Held S) (r : Result X E) → KeepsConnection g a b r → LooksInside g a b → calls.AsksInside g a b → (F (state g a).now → a.schema ≡ schema) → Steps g F (λ d e. e ≡ d) a b r
  steps_read F a b r stands looks asks has = record {
    ok = λ clean fit. on_ok r (λ u. u.0.now_is) (stands (has fit) clean);
    keeps = λ clean is. on_ok r (λ u. ap (λ (d : Database). d.schema) u.0.now_is ∙ is) (stands is clean);
    kept = λ clean is. (looks is).kept clean;
    goes_on = λ clean is up inside. on_ok r (λ u. (u.0.is_open, u.0.mode ∙ inside)) (stands is clean);
    asks = asks;
  }

  -- a document gets another key in an index
  pub steps_key : {X E : Type 0} (due : Entries) (n : ℤ) (id : List ℕ) (before after : Option (List ℕ)) (a b : Held S) (r : Result X E) → ReplacesKey g n id before after a b r → StaysOpen g a b r → KeepsSchema g a b r → Proceeds (state g a) (state g b)
      → Steps g (λ d. (d.schema ≡ schema) × AreEntriesOf due (d.trees entries_tree) × ((k : List ℕ) → due n k id ≡ is_key before k)) (HasEntries (with_key due n id after)) a b r
  steps_key due n id before after a b r replaces goes_on keeps proceeds = record {
    ok = λ clean fit. replaces clean fit.0 due fit.1 fit.2;
    keeps = keeps;
    kept = λ clean has. proceeds.kept clean;
    goes_on = λ clean has up inside. goes_on clean up inside;
    asks = asks_changed (state g a) (state g b) proceeds;
  }

  -- what is given follows from what was given
  pub steps_so : {X E : Type 0} (F : Database → Type 0) (G H : Database → Database → Type 0) (a b : Held S) (r : Result X E) → Steps g F G a b r → (F (state g a).now → G (state g a).now (state g b).now → H (state g a).now (state g b).now) → Steps g F H a b r
  steps_so F G H a b r p so = record { ok = λ clean fit. on_ok r (so fit) (p.ok clean fit); keeps = p.keeps; kept = p.kept; goes_on = p.goes_on; asks = p.asks }

  -- one statement that changes one table
  pub steps_alter : {X E : Type 0} (F : Database → Type 0) (tree : ℕ) (IsFit : List Row → Type 0) (change : List Row → List Row) (a b : Held S) (r : Result X E) → Alters g tree IsFit change a b r
      → (F (state g a).now → (a.schema ≡ schema) × IsFit ((state g a).now.trees tree)) → Steps g F (λ p q. Changes tree (change (p.trees tree)) p q) a b r
  steps_alter F tree IsFit change a b r h fits = record {
    ok = λ clean fit. let it = fits fit in h.ok clean it.0 it.1;
    keeps = h.keeps;
    kept = λ clean has. h.proceeds.kept clean;
    goes_on = λ clean has up inside. went_on r (state g a) (state g b) (h.inside clean);
    asks = asks_changed (state g a) (state g b) h.proceeds;
  }

  -- where more is known, and less is said
  pub steps_weaker : {X E : Type 0} (F F' : Database → Type 0) (G G' : Database → Database → Type 0) (a b : Held S) (r : Result X E) → Steps g F' G' a b r → (F (state g a).now → F' (state g a).now)
      → (F (state g a).now → G' (state g a).now (state g b).now → G (state g a).now (state g b).now) → Steps g F G a b r
  steps_weaker F F' G G' a b r p fits so = record {
    ok = λ clean fit. on_ok r (so fit) (p.ok clean (fits fit));
    keeps = p.keeps;
    kept = p.kept;
    goes_on = p.goes_on;
    asks = p.asks;
  }
