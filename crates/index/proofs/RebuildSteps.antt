-- The indexes of one design document are rebuilt: taken out, declared and filled, one step after another.
use Rattle.index.proofs.Common.{AsksInside, Database, Declarations, Documents, Entries, Err, Ghosts, HasCleanDisk, HasEntries, Held, IfErr, IndexFault, IsRefused, IsTrue, List, Ok, Option, Result, [], ap, arith, declared_by, decls_tree, is_due, map, state, subst, sym, with_declared, ℕ, ℤ, ◌∙◌, ◌∷◌, ◌+◌, ◌<◌, ◌++◌, ◌≡◌, drop, get_or, length}
use Rattle.couch_json.specs.Value.{Value}
use Rattle.index.proofs.Declared.{bare, filled}
use Rattle.index.proofs.Designs.{cleared_to_declare, design_rebuilt}
use Rattle.index.proofs.Going.{if_err}
use Rattle.index.proofs.Rebuilt.{cleared_fit, cleared_more, indexes_then}
use Rattle.index.proofs.Refusals.{refused_as, refused_then}
use Rattle.index.proofs.ShownDeclarations.{refused_of}
use Rattle.index.proofs.StepLemmas.{steps_failed, steps_then}
use Rattle.index.specs.Declaring.{ArePartly, ArePartlySet, IsCleared, IsRebuildable, IsRebuilt}
use Rattle.index.specs.Filling.{AreBare}
use Rattle.index.specs.Meaning.{declared_if}
use Rattle.index.specs.Rebuilding.{AreCleared, AreLeftUnfilled, IsDesignCleared, IsToDeclare}
use Rattle.index.specs.Shown.{Declared}
use Rattle.index.specs.Steps.{AreFit, Steps, WasFit}
use Rattle.std.proofs.lemmas.List.{drop_more}

-- ---- a design document

module _ {S : Type 0} (g : Ghosts S) (declares : Declarations) (sees : Documents) (db : ℤ) (design : List ℕ) (body : Option Value) (a m : Held S) where
  abbrev A : Database
  A = (state g a).now

  abbrev M : Database
  M = (state g m).now

  abbrev f : List ℕ → Option (List (List ℕ))
  f = declared_if body

  abbrev F : Database → Type 0
  F = IsRebuildable declares sees db

  abbrev mid : Declarations
  mid = declared_by (M.trees decls_tree)

  abbrev all : Declarations
  all = with_declared declares db design f

  abbrev later : Declarations
  later = with_declared mid db design f

  abbrev Cleared : Database → Database → Type 0
  Cleared = IsDesignCleared declares sees db design f

  module _ (clears : Steps {X = Unit {0}} {E = IndexFault} g F Cleared a m (Ok tt)) (n : Held S) (before after : List Declared) (none : before ≡ []) where
    abbrev N : Database
    N = (state g n).now

    abbrev ToDeclare : Database → Type 0
    ToDeclare = IsToDeclare mid sees db design f before

    abbrev Left : Database → Database → Type 0
    Left = AreLeftUnfilled later sees db after

    next : HasCleanDisk (state g m) → F A → Cleared A M → ToDeclare M
    next was fit made = subst (λ xs. IsToDeclare mid sees db design f xs M) (sym none) (cleared_to_declare declares sees db design f A M fit made)

    pub declaring_failed : (why : IndexFault) (r : Result (Unit {0}) IndexFault) → r ≡ Err why → Steps {X = Unit {0}} g ToDeclare Left m n (Err why) → Steps g F (IsRebuilt all sees) a n r
    declaring_failed why r is p = steps_failed g F ToDeclare Cleared Left (IsRebuilt all sees) a m n tt why why r is clears p next

    pub declaring_refused : (HasCleanDisk (state g m) → IsTrue (state g a).is_open) → (why : IndexFault) (r : Result (Unit {0}) IndexFault) → r ≡ Err why → AsksInside (state g m) (state g n) → IsRefused (AreFit g ToDeclare m n) why
        → IfErr r (IsRefused (WasFit g F a n))
    declaring_refused served why r is asks err =
        refused_as (WasFit g F a n) r why is
        (refused_of (AreFit g F a n) (WasFit g F a n) why
        (λ it. let was : HasCleanDisk (state g m) = omega (arith, asks.survives.clean, it.0) in (it.0, it.1 (served was)))
        (refused_then g {E = IndexFault} F ToDeclare Cleared a m n tt why clears asks next err))

    module _ (declaring : Steps {X = Unit {0}} {E = IndexFault} g ToDeclare Left m n (Ok tt)) (e : Held S) (fresh : List Declared) (fresh_is : fresh ≡ after) where
      abbrev E : Database
      E = (state g e).now

      abbrev due : Entries
      due = is_due sees (N.trees decls_tree)

      abbrev Between : Database → Database → Type 0
      Between p q = Cleared p M × Left M q

      both : Steps {X = Unit {0}} {E = IndexFault} g F Between a n (Ok tt)
      both = steps_then g {E = IndexFault} F ToDeclare Cleared Left Between a m n tt (Ok tt) clears declaring next (λ was fit made got. (made, got))

      empty : HasCleanDisk (state g n) → F A → Between A N → AreBare db fresh due N
      empty was fit made = subst (λ xs. AreBare db xs due N) (sym fresh_is) (bare later sees db after N made.1.now)

      pub all_rebuilt : (r : Result (Unit {0}) IndexFault) → Steps g (AreBare db fresh due) (HasEntries due) n e r → Steps g F (IsRebuilt all sees) a e r
      all_rebuilt r p =
          steps_then g {E = IndexFault} F (AreBare db fresh due) Between (HasEntries due) (IsRebuilt all sees) a n e tt r both p empty
          (λ was fit made got.
          let it = filled later sees db after N made.1.now E got in
          design_rebuilt declares sees db design f A M fit made.0 E (record { indexed = it.indexed; only = indexes_then M N E made.1.only it.only }))

      pub filling_refused : (HasCleanDisk (state g m) → IsTrue (state g a).is_open) → (r : Result (Unit {0}) IndexFault) → AsksInside (state g n) (state g e) → IfErr r (IsRefused (AreFit g (AreBare db fresh due) n e))
          → IfErr r (IsRefused (WasFit g F a e))
      filling_refused served r asks err =
          if_err r
          (λ why h.
          refused_of (AreFit g F a e) (WasFit g F a e) why
          (λ it.
          let late : HasCleanDisk (state g n) = omega (arith, asks.survives.clean, it.0) in
          let was : HasCleanDisk (state g m) = omega (arith, declaring.asks.survives.clean, late) in
          (it.0, it.1 (served was)))
          (refused_then g {E = IndexFault} F (AreBare db fresh due) Between a n e tt why both asks empty h)) err

-- ---- one name after another is cleared

module _ {S : Type 0} (g : Ghosts S) (declares : Declarations) (sees : Documents) (db : ℤ) (design : List ℕ) (f : List ℕ → Option (List (List ℕ))) (done : List (List ℕ)) (a b e : Held S) (name : List ℕ)
    (so_far : Steps {X = Unit {0}} {E = IndexFault} g (IsRebuildable declares sees db) (AreCleared declares sees db design f done) a b (Ok tt)) where
  abbrev now : Declarations
  now = declared_by ((state g b).now.trees decls_tree)

  abbrev Fit : Database → Type 0
  Fit = IsRebuildable declares sees db

  abbrev Done : List (List ℕ) → Database → Database → Type 0
  Done = AreCleared declares sees db design f

  abbrev One : Database → Database → Type 0
  One = IsCleared now sees db design name (f name)

  clears_next : HasCleanDisk (state g b) → Fit (state g a).now → Done done (state g a).now (state g b).now → IsRebuildable now sees db (state g b).now
  clears_next was fit made = cleared_fit declares sees db design f done (state g a).now (state g b).now fit made

  pub name_cleared : (more : List (List ℕ)) (own : List ℕ) → name ≡ own → more ≡ done ++ own ∷ [] → Steps {X = Unit {0}} {E = IndexFault} g (IsRebuildable now sees db) One b e (Ok tt) → Steps {X = Unit {0}} {E = IndexFault} g Fit (Done more) a e (Ok tt)
  name_cleared more own is cut p =
      steps_then g {E = IndexFault} Fit (IsRebuildable now sees db) (Done done) One (Done more) a b e tt (Ok tt) so_far p clears_next
      (λ was fit made got.
      subst (λ ns. Done ns (state g a).now (state g e).now) (sym cut)
      (cleared_more declares sees db design f done own (state g a).now (state g b).now (state g e).now made (subst (λ n. IsCleared now sees db design n (f n) (state g b).now (state g e).now) is got)))

  pub clearing_failed : (names : List (List ℕ)) (why : IndexFault) (r : Result (Unit {0}) IndexFault) → r ≡ Err why → Steps {X = Unit {0}} g (IsRebuildable now sees db) One b e (Err why) → Steps g Fit (Done names) a e r
  clearing_failed names why r is p = steps_failed g Fit (IsRebuildable now sees db) (Done done) One (Done names) a b e tt why why r is so_far p clears_next

  pub clearing_refused : (why : IndexFault) (r : Result (Unit {0}) IndexFault) → r ≡ Err why → AsksInside (state g b) (state g e) → IsRefused (AreFit g (IsRebuildable now sees db) b e) why → IfErr r (IsRefused (AreFit g Fit a e))
  clearing_refused why r is asks err = refused_as (AreFit g Fit a e) r why is (refused_then g {E = IndexFault} Fit (IsRebuildable now sees db) (Done done) a b e tt why so_far asks clears_next err)

-- ---- one name after another is declared

module _ {S T : Type 0} (g : Ghosts S) (declares : Declarations) (sees : Documents) (db : ℤ) (design : List ℕ) (f : List ℕ → Option (List (List ℕ))) (read : T → List ℕ) (names : List T) (i : ℕ) (below : i < length names) (item : T)
    (is : item ≡ get_or names i item) (name : List ℕ) (named : name ≡ read item) (first before after : List Declared) (a b e : Held S)
    (so_far : Steps {X = Unit {0}} {E = IndexFault} g (ArePartly declares sees db design f (map read names) first) (ArePartlySet declares sees db design f (map read (drop i names)) before) a b (Ok tt)) where
  abbrev behind : List (List ℕ)
  behind = map read (drop (i + 1) names)

  abbrev Partly : List (List ℕ) → List Declared → Database → Type 0
  Partly = ArePartly declares sees db design f

  abbrev Set : List (List ℕ) → List Declared → Database → Database → Type 0
  Set = ArePartlySet declares sees db design f

  cut : map read (drop i names) ≡ name ∷ behind
  cut = ap (map read) (drop_more names i item below ∙ (λ j. sym is j ∷ drop (i + 1) names)) ∙ (λ j. sym named j ∷ behind)

  declares_next : HasCleanDisk (state g b) → Partly (map read names) first (state g a).now → Set (map read (drop i names)) before (state g a).now (state g b).now → Partly (name ∷ behind) before (state g b).now
  declares_next was fit made = subst (λ l. Partly l before (state g b).now) cut made.now

  pub name_declared : Steps {X = Unit {0}} {E = IndexFault} g (Partly (name ∷ behind) before) (Set behind after) b e (Ok tt) → Steps {X = Unit {0}} {E = IndexFault} g (Partly (map read names) first) (Set behind after) a e (Ok tt)
  name_declared p =
      steps_then g {E = IndexFault} (Partly (map read names) first) (Partly (name ∷ behind) before) (Set (map read (drop i names)) before) (Set behind after) (Set behind after) a b e tt (Ok tt) so_far p declares_next
      (λ was fit made got. record { now = got.now; only = indexes_then (state g a).now (state g b).now (state g e).now made.only got.only })

  pub name_failed : (why : IndexFault) (r : Result (Unit {0}) IndexFault) → r ≡ Err why → Steps {X = Unit {0}} g (Partly (name ∷ behind) before) (Set behind after) b e (Err why) → Steps g (Partly (map read names) first) (Set [] after) a e r
  name_failed why r failed p =
      steps_failed g (Partly (map read names) first) (Partly (name ∷ behind) before) (Set (map read (drop i names)) before) (Set behind after) (Set [] after) a b e tt why why r failed so_far p declares_next

  pub name_refused : (why : IndexFault) (r : Result (Unit {0}) IndexFault) → r ≡ Err why → AsksInside (state g b) (state g e) → IsRefused (AreFit g (Partly (name ∷ behind) before) b e) why → IfErr r (IsRefused (AreFit g (Partly (map read names) first) a e))
  name_refused why r failed asks err =
      refused_as (AreFit g (Partly (map read names) first) a e) r why failed
      (refused_then g {E = IndexFault} (Partly (map read names) first) (Partly (name ∷ behind) before) (Set (map read (drop i names)) before) a b e tt why so_far asks declares_next err)
