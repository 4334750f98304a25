-- Postponed design documents in turn: each has its indexes taken out, or declared.
use Rattle.transactions.proofs.Common.{CommitFault, Database, Err, HasCleanDisk, Held, List, Ok, Result, [], ap, state, subst, sym, true, ℕ, ℤ, ◌∙◌, ◌∷◌, ◌≡◌}
use Rattle.std.specs.List.{list_any}
use Rattle.std.specs.Prelude.{bytes_eq}
use Rattle.sqlite_trees.specs.declared.store.Store.{Ghosts}
use Rattle.tables.specs.Schema.{decls_tree}
use Rattle.index.proofs.StepLemmas.{steps_failed, steps_none, steps_then}
use Rattle.index.specs.Declaring.{IsRebuildable}
use Rattle.index.specs.Meaning.{Declarations, Documents}
use Rattle.index.specs.Rows.{declared_by}
use Rattle.index.specs.Shown.{Declared}
use Rattle.index.specs.Steps.{AreFit, Steps}
use Rattle.transactions.proofs.Postponed.{cleared_next, cleared_one, declare_next, declared_one, first_among, later_among, none_cleared, none_declared_yet}
use Rattle.transactions.proofs.Redeclared.{unwritten_as, unwritten_then}
use Rattle.transactions.specs.inner.Calls.{MakesStep}
use Rattle.transactions.specs.inner.Postponing.{AreClearedAsStored, AreDeclaredAsStored, AreToDeclare, IsClearedAsStored, IsDeclaredAsStored, IsToDeclareAsStored}

-- ---- before the first

module _ {S : Type 0} (g : Ghosts S) (db : ℤ) (ids now : List (List ℕ)) (is : now ≡ ids) (first : Held S) where
  pub within_all : (id : List ℕ) → list_any (bytes_eq id) now ≡ true → list_any (bytes_eq id) ids ≡ true
  within_all id among = sym (ap (list_any (bytes_eq id)) is) ∙ among

  pub clearing_begins : (declares : Declarations) (sees : Documents) → Steps {X = Unit {0}} {E = CommitFault} g (IsRebuildable declares sees db) (AreClearedAsStored declares sees db ids now) first first (Ok tt)
  clearing_begins declares sees =
      subst (λ l. Steps {X = Unit {0}} {E = CommitFault} g (IsRebuildable declares sees db) (AreClearedAsStored declares sees db ids l) first first (Ok tt)) (sym is)
      (steps_none g (IsRebuildable declares sees db) (AreClearedAsStored declares sees db ids ids) first (Ok tt) (λ fit. none_cleared declares sees db ids (state g first).now fit) tt)

  pub declaring_begins : (fresh : List Declared) (sees : Documents) → Steps {X = Unit {0}} {E = CommitFault} g (AreToDeclare sees db ids fresh) (AreDeclaredAsStored sees db ids now fresh) first first (Ok tt)
  declaring_begins fresh sees =
      subst (λ l. Steps {X = Unit {0}} {E = CommitFault} g (AreToDeclare sees db ids fresh) (AreDeclaredAsStored sees db ids l fresh) first first (Ok tt)) (sym is)
      (steps_none g (AreToDeclare sees db ids fresh) (AreDeclaredAsStored sees db ids ids fresh) first (Ok tt) (λ fit. none_declared_yet sees db ids fresh (state g first).now fit) tt)

-- ---- the next one

module _ {S : Type 0} (g : Ghosts S) (db : ℤ) (ids now : List (List ℕ)) (x : List ℕ) (left : List (List ℕ)) (cut : now ≡ x ∷ left) (within : (id : List ℕ) → list_any (bytes_eq id) now ≡ true → list_any (bytes_eq id) ids ≡ true)
    (first between last : Held S) where
  abbrev a : Database
  a = (state g first).now

  abbrev b : Database
  b = (state g between).now

  abbrev e : Database
  e = (state g last).now

  among : list_any (bytes_eq x) ids ≡ true
  among = within x (ap (list_any (bytes_eq x)) cut ∙ first_among x left)

  pub still_within : (id : List ℕ) → list_any (bytes_eq id) left ≡ true → list_any (bytes_eq id) ids ≡ true
  still_within id is = within id (ap (list_any (bytes_eq id)) cut ∙ later_among id x left is)

  -- what is promised of one that is cleared
  abbrev ClearsOne : Result (Unit {0}) CommitFault → Type 0
  ClearsOne r = (declares : Declarations) (sees : Documents) → MakesStep g (IsRebuildable declares sees db) (IsClearedAsStored declares sees db x) between last r

  module _ (so_far : (declares : Declarations) (sees : Documents) → Steps {X = Unit {0}} {E = CommitFault} g (IsRebuildable declares sees db) (AreClearedAsStored declares sees db ids now) first between (Ok tt))
      (declares : Declarations) (sees : Documents) where
    abbrev Fit : Database → Type 0
    Fit = IsRebuildable declares sees db

    abbrev then : Declarations
    then = declared_by (b.trees decls_tree)

    abbrev Cleared : List (List ℕ) → Database → Database → Type 0
    Cleared = AreClearedAsStored declares sees db ids

    clears_next : HasCleanDisk (state g between) → Fit a → Cleared now a b → IsRebuildable then sees db b
    clears_next was fit made = cleared_next declares sees db ids now a b fit made

    pub one_more_cleared : ClearsOne (Ok tt) → Steps {X = Unit {0}} {E = CommitFault} g Fit (Cleared left) first last (Ok tt)
    one_more_cleared p =
        steps_then g {E = CommitFault} Fit (IsRebuildable then sees db) (Cleared now) (IsClearedAsStored then sees db x) (Cleared left) first between last tt (Ok tt) (so_far declares sees) (p then sees).steps clears_next
        (λ was fit made got. cleared_one declares sees db ids x left a b e among fit (subst (λ l. Cleared l a b) cut made) got)

    pub clearing_one_stopped : (fault : CommitFault) (r : Result (Unit {0}) CommitFault) → r ≡ Err fault → ClearsOne (Err fault) → MakesStep g Fit (Cleared []) first last r
    clearing_one_stopped fault r is p = record {
      steps = steps_failed g Fit (IsRebuildable then sees db) (Cleared now) (IsClearedAsStored then sees db x) (Cleared []) first between last tt fault fault r is (so_far declares sees) (p then sees).steps clears_next;
      err = unwritten_as (AreFit g Fit first last) r fault is
          (unwritten_then g Fit (IsRebuildable then sees db) (Cleared now) first between last tt fault (so_far declares sees) (p then sees).steps.asks clears_next (p then sees).err);
    }

  module _ (from before : List Declared) (so_far : (sees : Documents) → Steps {X = Unit {0}} {E = CommitFault} g (AreToDeclare sees db ids from) (AreDeclaredAsStored sees db ids now before) first between (Ok tt)) (after : List Declared)
      (sees : Documents) where
    abbrev Due : Database → Type 0
    Due = AreToDeclare sees db ids from

    abbrev known : Declarations
    known = declared_by (b.trees decls_tree)

    abbrev Done : List (List ℕ) → List Declared → Database → Database → Type 0
    Done = AreDeclaredAsStored sees db ids

    -- what is promised of one that is declared
    abbrev DeclaresOne : Result (Unit {0}) CommitFault → Type 0
    DeclaresOne r = (declares : Declarations) (sees : Documents) → MakesStep g (IsToDeclareAsStored declares sees db x before) (IsDeclaredAsStored declares sees db x after) between last r

    declares_next : HasCleanDisk (state g between) → Due a → Done now before a b → IsToDeclareAsStored known sees db x before b
    declares_next was fit made = declare_next sees db ids x left from before a b fit (subst (λ l. Done l before a b) cut made)

    pub one_more_declared : DeclaresOne (Ok tt) → Steps {X = Unit {0}} {E = CommitFault} g Due (Done left after) first last (Ok tt)
    one_more_declared p =
        steps_then g {E = CommitFault} Due (IsToDeclareAsStored known sees db x before) (Done now before) (IsDeclaredAsStored known sees db x after) (Done left after) first between last tt (Ok tt) (so_far sees) (p known sees).steps declares_next
        (λ was fit made got. declared_one sees db ids x left from before after a b e among fit (subst (λ l. Done l before a b) cut made) got)

    pub declaring_one_stopped : (fault : CommitFault) (r : Result (Unit {0}) CommitFault) → r ≡ Err fault → DeclaresOne (Err fault) → MakesStep g Due (Done [] after) first last r
    declaring_one_stopped fault r is p = record {
      steps =
          steps_failed g Due (IsToDeclareAsStored known sees db x before) (Done now before) (IsDeclaredAsStored known sees db x after) (Done [] after) first between last tt fault fault r is (so_far sees) (p known sees).steps declares_next;
      err = unwritten_as (AreFit g Due first last) r fault is
          (unwritten_then g Due (IsToDeclareAsStored known sees db x before) (Done now before) first between last tt fault (so_far sees) (p known sees).steps.asks declares_next (p known sees).err);
    }
