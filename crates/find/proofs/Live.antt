-- A winner that is not deleted is held by an honest store.
use Rattle.std.proofs.Common.{◌≡◌, ℕ, Bool, true, false, cond, List, Option, Some, None, Result, Err, refl, sym, ap, subst, ◌∙◌}
use Rattle.std.specs.FinMap as finite
use Rattle.std.specs.Prelude.{IfErr, option_and_then, option_map}
use Rattle.tree.proofs.Shown.{inside}
use Rattle.tree.specs.History.{HistoryContent, held_of, is_deleted, winner}
use Rattle.tree.specs.Outline.{marked_revision, marked_winner}
use Rattle.tree.specs.Revision.{Revision}
use Rattle.tree.specs.declared.entry.Entry.{Entry}
use Rattle.tree.specs.declared.marked_rev.MarkedRev.{MarkedRev}
use Rattle.store.proofs.HeldWinners.{held_there}
use Rattle.store.specs.Contents.{Contents}
use Rattle.store.specs.Database.{Database, history_at}
use Rattle.store.specs.Lawful.{AreLawful}
use Rattle.store.specs.Pages.{live_rev, live_rev_by}
use Rattle.store.specs.Winning.{IsHeldSo}
use Rattle.store.specs.declared.fault.StoreFault.{StoreFault}
use Rattle.store.specs.declared.fault.StoreFault.TheVariants.{Damaged}
use Rattle.store.specs.declared.store.Store.{Ghosts}
use Rattle.read.specs.Answers.{Stops, fault_of_store}
use Rattle.read.specs.declared.fault.ReadFault.{ReadFault}

abbrev not_deleted : Revision → MarkedRev
not_deleted r = record { rev = r; deleted = false }

live_marked : (h : HistoryContent) (r : Revision) → live_rev h ≡ Some r → marked_winner h ≡ Some (not_deleted r)
live_marked h r e = by (winner h) e
  where
    marked : (w : Revision) (b : Bool) → is_deleted (held_of h w) ≡ b → cond b None (Some w) ≡ Some r → Some (marked_revision h w) ≡ Some (not_deleted r)
    marked w true is e = absurd cc
    marked w false is e = let same = inside w r e in λ i. Some (record { rev = same i; deleted = is i })

    by : (o : Option Revision) → live_rev_by h o ≡ Some r → option_map (marked_revision h) o ≡ Some (not_deleted r)
    by None e = absurd cc
    by (Some w) e = marked w (is_deleted (held_of h w)) refl e

-- what is known of it holds a body, under the mark that it is not deleted
pub live_held : (id : List ℕ) (rev : Revision) (known : Option Entry) (c : Contents) (name : List ℕ) → AreLawful c
    → ((d : Database) → finite.get c name ≡ Some d → live_rev (history_at d id) ≡ Some rev) → option_map (λ (d : Database). finite.get (history_at d id) rev) (finite.get c name) ≡ Some known
    → IsHeldSo false (option_and_then (λ (e : Entry). e.held) known)
live_held id rev known c name lawful live at = by (finite.get c name) refl
  where
    by : (o : Option Database) → finite.get c name ≡ o → IsHeldSo false (option_and_then (λ (e : Entry). e.held) known)
    by None none = let never = sym (ap (option_map (λ (d : Database). finite.get (history_at d id) rev)) none) ∙ at in absurd cc
    by (Some d) is =
        held_there id (not_deleted rev) known c name lawful (ap (option_map (λ (x : Database). marked_winner (history_at x id))) is ∙ ap Some (live_marked (history_at d id) rev (live d is))) at

-- a reader that tells of damage, where an honest store has none
pub stopped_damaged : {S X : Type 0} (g : Ghosts S) (old new : S) (absent : Type 0) (r : Result X ReadFault) (fault : StoreFault) → r ≡ Err (fault_of_store fault) → fault ≡ Damaged → ¬ (g.is_honest new)
    → IfErr r (Stops g old new absent)
stopped_damaged g old new absent r fault is damaged dishonest = subst (λ x. IfErr x (Stops g old new absent)) (sym (is ∙ ap (λ f. Err (fault_of_store f)) damaged)) dishonest
