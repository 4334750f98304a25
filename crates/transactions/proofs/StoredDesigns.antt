-- A design document is read as it is stored, and then its indexes are changed.
use Rattle.transactions.proofs.Common.{CommitFault, Database, Err, HasCleanDisk, Held, HistoryContent, IsSound, IsStore, List, Ok, Option, Result, ap, arith, history_in_rows, revs_tree, state, subst, sym, ℕ, ℤ, ⊤, ◌∙◌, ◌≡◌, Trees}
use Rattle.couch_json.specs.Value.{Value}
use Rattle.sqlite_trees.specs.declared.store.Store.{Ghosts}
use Rattle.store.proofs.Winnings.{body_alone}
use Rattle.store.specs.Indexes.{winning_body}
use Rattle.store.specs.Winning.{winner_alone}
use Rattle.index.proofs.StepLemmas.{steps_failed, steps_read, steps_stop, steps_then, steps_well}
use Rattle.index.specs.Calls.{IsRefused}
use Rattle.index.specs.Declaring.{IsRebuildable}
use Rattle.index.specs.Meaning.{Declarations, Documents, declared_if, with_declared}
use Rattle.index.specs.Rebuilding.{AreLeftUnfilled, IsDesignCleared, IsToDeclare}
use Rattle.index.specs.Shown.{Declared}
use Rattle.index.specs.Steps.{AreFit, Steps}
use Rattle.index.specs.declared.fault.IndexFault.{IndexFault}
use Rattle.transactions.proofs.Committing.{unwritten_of}
use Rattle.transactions.proofs.IndexRests.{refused_of}
use Rattle.transactions.proofs.Postponed.{cleared_as, left_as, to_declare_as}
use Rattle.transactions.proofs.Redeclared.{unwritten_as}
use Rattle.transactions.specs.Indexing.{of_index_fault}
use Rattle.transactions.specs.inner.Calls.{Finds, MakesStep}
use Rattle.transactions.specs.inner.Postponing.{IsClearedAsStored, IsDeclaredAsStored, IsToDeclareAsStored, stored_fields}

-- ---- something is read

module _ {S : Type 0} (g : Ghosts S) (F : Database → Type 0) (store : (d : Database) → F d → IsStore d) (first between : Held S) where
  abbrev a : Database
  a = (state g first).now

  abbrev b : Database
  b = (state g between).now

  pub reading_stopped : {X : Type 0} {Is : Trees → X → Type 0} (H : Database → Database → Type 0) (fault : CommitFault) (r : Result (Unit {0}) CommitFault) → r ≡ Err fault → Finds g {X = X} (λ _. ⊤) Is first between (Err fault)
      → MakesStep g F H first between r
  reading_stopped {X} H fault r is read = record {
    steps = steps_stop g {X = X} F (λ p q. q ≡ p) H first between fault fault r is (steps_read g F first between (Err fault) read.stands read.looks read.asks (λ fit. (store a fit).schema_is));
    err = unwritten_as (AreFit g F first between) r fault is (unwritten_of (IsSound g (λ _. ⊤) first between) (AreFit g F first between) fault (λ it. (it.0, λ up. (store a it.1, tt))) read.err);
  }

  -- and then the indexes are changed
  module _ {X : Type 0} {Is : Trees → X → Type 0} {x : X} (read : Finds g {X = X} (λ _. ⊤) Is first between (Ok x)) (last : Held S) (F' : Database → Type 0)
      (next : HasCleanDisk (state g between) → F a → b ≡ a → F' b) where
    abbrev e : Database
    e = (state g last).now

    reads : Steps {E = CommitFault} g F (λ p q. q ≡ p) first between (Ok x)
    reads = steps_read g F first between (Ok x) read.stands read.looks read.asks (λ fit. (store a fit).schema_is)

    pub change_stopped : (G H : Database → Database → Type 0) (W : Type 0) → (AreFit g F' between last → W) → (fault : IndexFault) (r : Result (Unit {0}) CommitFault) → r ≡ Err (of_index_fault fault)
        → Steps {X = Unit {0}} g F' G between last (Err fault) → IsRefused W fault → MakesStep g F H first last r
    change_stopped G H W so fault r is p err = record {
      steps = steps_failed g F F' (λ p q. q ≡ p) G H first between last x fault (of_index_fault fault) r is reads p next;
      err = unwritten_as (AreFit g F first last) r (of_index_fault fault) is
          (refused_of W (AreFit g F first last) fault
          (λ it. let was : HasCleanDisk (state g between) = omega (arith, p.asks.survives.clean, it.0) in so (it.0, next was it.1 (read.stands (store a it.1).schema_is was).0.now_is)) err);
    }

    pub changed : (G H : Database → Database → Type 0) → Steps {X = Unit {0}} {E = IndexFault} g F' G between last (Ok tt) → (HasCleanDisk (state g between) → F a → b ≡ a → G b e → H a e)
        → MakesStep g {X = Unit {0}} F H first last (Ok tt)
    changed G H p joins = record { steps = steps_well g F H first last tt tt (steps_then g {E = CommitFault} F F' (λ p q. q ≡ p) G H first between last x (Ok tt) reads p next joins); err = tt }

-- ---- the body that wins is read

module _ {S : Type 0} (g : Ghosts S) (declares : Declarations) (sees : Documents) (db : ℤ) (bytes id : List ℕ) (named : bytes ≡ id) (body : Option Value) (first between : Held S)
    (h : HistoryContent) (wins : body ≡ winning_body h) (read : HasCleanDisk (state g between) → IsStore (state g first).now → h ≡ winner_alone (history_in_rows ((state g first).now.trees revs_tree) db id)) where
  abbrev old : Database
  old = (state g first).now

  abbrev mid : Database
  mid = (state g between).now

  says : HasCleanDisk (state g between) → IsStore old → (n : List ℕ) → declared_if body n ≡ stored_fields db id old n
  says was store n = ap (λ (b : Option Value). declared_if b n) (wins ∙ ap winning_body (read was store) ∙ body_alone (history_in_rows (old.trees revs_tree) db id))

  pub cleared_as_read : (end : Database) → HasCleanDisk (state g between) → IsRebuildable declares sees db old → mid ≡ old → IsDesignCleared declares sees db bytes (declared_if body) mid end → IsClearedAsStored declares sees db id old end
  cleared_as_read end was fit same got =
      cleared_as declares sees db bytes id (declared_if body) (stored_fields db id old) named (says was fit.store) old end (subst (λ p. IsDesignCleared declares sees db bytes (declared_if body) p end) same got)

  pub to_declare_as_read : (fresh : List Declared) → HasCleanDisk (state g between) → IsToDeclareAsStored declares sees db id fresh old → mid ≡ old → IsToDeclare declares sees db bytes (declared_if body) fresh mid
  to_declare_as_read fresh was fit same =
      subst (IsToDeclare declares sees db bytes (declared_if body) fresh) (sym same) (to_declare_as declares sees db bytes id (declared_if body) (stored_fields db id old) named (says was fit.unfilled.store) fresh old fit)

  pub declared_as_read : (before after : List Declared) (end : Database) → HasCleanDisk (state g between) → IsToDeclareAsStored declares sees db id before old → mid ≡ old
      → AreLeftUnfilled (with_declared declares db bytes (declared_if body)) sees db after mid end → IsDeclaredAsStored declares sees db id after old end
  declared_as_read before after end was fit same got =
      left_as declares sees db bytes id (declared_if body) (stored_fields db id old) named (says was fit.unfilled.store) after old end
      (subst (λ p. AreLeftUnfilled (with_declared declares db bytes (declared_if body)) sees db after p end) same got)
