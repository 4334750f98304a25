-- Postponed design documents catch up: their indexes are taken out, declared and filled, one step after another.
use Rattle.transactions.proofs.Common.{CommitFault, Database, Err, HasCleanDisk, Held, List, Ok, Result, [], arith, state, subst, sym, ℕ, ℤ, ◌≡◌}
use Rattle.sqlite_trees.specs.declared.store.Store.{Ghosts}
use Rattle.tables.specs.Schema.{decls_tree}
use Rattle.index.proofs.Declared.{bare, filled}
use Rattle.index.proofs.StepLemmas.{steps_failed, steps_stop, steps_then, steps_weaker}
use Rattle.index.specs.Calls.{HasEntries, IsRefused}
use Rattle.index.specs.Declaring.{IsRebuildable}
use Rattle.index.specs.Filling.{AreBare}
use Rattle.index.specs.Indexed.{Entries, is_due}
use Rattle.index.specs.Meaning.{Declarations, Documents, sees_in}
use Rattle.index.specs.Rows.{declared_by}
use Rattle.index.specs.Shown.{Declared}
use Rattle.index.specs.Steps.{AreFit, Steps}
use Rattle.index.specs.declared.fault.IndexFault.{IndexFault}
use Rattle.transactions.proofs.Committing.{unwritten_of}
use Rattle.transactions.proofs.IndexRests.{refused_of}
use Rattle.transactions.proofs.Postponed.{all_to_declare, caught_up, postponed_rebuildable}
use Rattle.transactions.proofs.Redeclared.{unwritten_as, unwritten_then}
use Rattle.transactions.specs.Indexing.{IsIndexedStoreBut, of_index_fault}
use Rattle.transactions.specs.inner.Calls.{MakesStep}
use Rattle.transactions.specs.inner.Postponing.{AreClearedAsStored, AreDeclaredAsStored, AreToDeclare, IsCaughtUp}

-- what the calls give one after another, from the first state
module _ {S : Type 0} (g : Ghosts S) (db : ℤ) (ids : List (List ℕ)) (first m : Held S) where
  abbrev a : Database
  a = (state g first).now

  abbrev b : Database
  b = (state g m).now

  abbrev seen : Documents
  seen = sees_in a.trees

  abbrev had : Declarations
  had = declared_by (a.trees decls_tree)

  abbrev Fit : Database → Type 0
  Fit = IsIndexedStoreBut db ids

  abbrev Cleared : Database → Database → Type 0
  Cleared = AreClearedAsStored had seen db ids []

  -- what is promised of the call that takes indexes out
  abbrev Clears : Result (Unit {0}) CommitFault → Type 0
  Clears r = (declares : Declarations) (sees : Documents) → MakesStep g (IsRebuildable declares sees db) (AreClearedAsStored declares sees db ids []) first m r

  clearing : (r : Result (Unit {0}) CommitFault) → Clears r → Steps g Fit Cleared first m r
  clearing r p = steps_weaker g Fit (IsRebuildable had seen db) Cleared Cleared first m r (p had seen).steps (λ fit. postponed_rebuildable db ids a fit) (λ fit made. made)

  pub clearing_stopped : (fault : CommitFault) (r : Result (Unit {0}) CommitFault) → r ≡ Err fault → Clears (Err fault) → MakesStep g Fit IsCaughtUp first m r
  clearing_stopped fault r is p = record {
    steps = steps_stop g {X = Unit {0}} Fit Cleared IsCaughtUp first m fault fault r is (clearing (Err fault) p);
    err = unwritten_as (AreFit g Fit first m) r fault is
        (unwritten_of (AreFit g (IsRebuildable had seen db) first m) (AreFit g Fit first m) fault (λ it. (it.0, postponed_rebuildable db ids a it.1)) (p had seen).err);
  }

  module _ (clears : Clears (Ok tt)) (n : Held S) (before after : List Declared) (none : before ≡ []) where
    abbrev d : Database
    d = (state g n).now

    abbrev ToDeclare : Database → Type 0
    ToDeclare = AreToDeclare seen db ids before

    abbrev Done : Database → Database → Type 0
    Done = AreDeclaredAsStored seen db ids [] after

    -- what is promised of the call that declares them
    abbrev Declares : Result (Unit {0}) CommitFault → Type 0
    Declares r = (sees : Documents) → MakesStep g (AreToDeclare sees db ids before) (AreDeclaredAsStored sees db ids [] after) m n r

    next : HasCleanDisk (state g m) → Fit a → Cleared a b → ToDeclare b
    next was fit made = subst (λ xs. AreToDeclare seen db ids xs b) (sym none) (all_to_declare db ids a fit b made)

    pub declaring_stopped : (fault : CommitFault) (r : Result (Unit {0}) CommitFault) → r ≡ Err fault → Declares (Err fault) → MakesStep g Fit IsCaughtUp first n r
    declaring_stopped fault r is p = record {
      steps = steps_failed g Fit ToDeclare Cleared Done IsCaughtUp first m n tt fault fault r is (clearing (Ok tt) clears) (p seen).steps next;
      err = unwritten_as (AreFit g Fit first n) r fault is (unwritten_then g Fit ToDeclare Cleared first m n tt fault (clearing (Ok tt) clears) (p seen).steps.asks next (p seen).err);
    }

    module _ (declares : Declares (Ok tt)) (last : Held S) (fresh : List Declared) (fresh_is : fresh ≡ after) where
      abbrev e : Database
      e = (state g last).now

      abbrev due : Entries
      due = is_due seen (d.trees decls_tree)

      abbrev Between : Database → Database → Type 0
      Between p q = Cleared p b × Done b q

      -- what is promised of the call that fills them
      abbrev Fills : Result (Unit {0}) IndexFault → Type 0
      Fills r = (due : Entries) → Steps g (AreBare db fresh due) (HasEntries due) n last r

      both : Steps {X = Unit {0}} {E = CommitFault} g Fit Between first n (Ok tt)
      both = steps_then g {E = CommitFault} Fit ToDeclare Cleared Done Between first m n tt (Ok tt) (clearing (Ok tt) clears) (declares seen).steps next (λ was fit made got. (made, got))

      empty : HasCleanDisk (state g n) → Fit a → Between a d → AreBare db fresh due d
      empty was fit made = subst (λ xs. AreBare db xs due d) (sym fresh_is) (bare (declared_by (d.trees decls_tree)) seen db after d made.1.unfilled)

      pub filling_stopped : (fault : IndexFault) (r : Result (Unit {0}) CommitFault) → r ≡ Err (of_index_fault fault) → Fills (Err fault) → ((due : Entries) → IsRefused (AreFit g (AreBare db fresh due) n last) fault)
          → MakesStep g Fit IsCaughtUp first last r
      filling_stopped fault r is p err = record {
        steps = steps_failed g Fit (AreBare db fresh due) Between (HasEntries due) IsCaughtUp first n last tt fault (of_index_fault fault) r is both (p due) empty;
        err = unwritten_as (AreFit g Fit first last) r (of_index_fault fault) is
            (refused_of (AreFit g (AreBare db fresh due) n last) (AreFit g Fit first last) fault
            (λ it. let was : HasCleanDisk (state g n) = omega (arith, (p due).asks.survives.clean, it.0) in (it.0, empty was it.1 (both.ok was it.1))) (err due));
      }

      -- the indexes follow what is stored
      pub all_followed : Fills (Ok tt) → MakesStep g {X = Unit {0}} Fit IsCaughtUp first last (Ok tt)
      all_followed p =
          let made =
          steps_then g {E = CommitFault} Fit (AreBare db fresh due) Between (HasEntries due) IsCaughtUp first n last tt (Ok tt) both (p due) empty
          (λ was fit made got. caught_up db ids a fit b made.0 after d e made.1 (filled (declared_by (d.trees decls_tree)) seen db after d made.1.unfilled e got)) in
          record { steps = record { ok = made.ok; keeps = made.keeps; kept = made.kept; goes_on = made.goes_on; asks = made.asks }; err = tt }
