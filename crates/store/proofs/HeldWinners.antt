-- What a lawful database holds of the winner of a document.
use Rattle.std.proofs.Common.{◌≡◌, Err, ℕ, List, Option, Some, None, Result, option_map, refl, sym, ap, subst, ◌∙◌}
use Rattle.std.specs.Prelude.{IsTrue, MatchOption, is_some, option_and_then, ◌⊎◌}
use Rattle.std.specs.FinMap as map
use Rattle.tree.specs.Revision.{Revision}
use Rattle.tree.specs.History.{HistoryContent, IsBetter, held_of, is_deleted, is_leaf, winner}
use Rattle.tree.specs.Outline.{marked_revision, marked_winner}
use Rattle.tree.specs.declared.entry.Entry.{Entry}
use Rattle.tree.specs.declared.entry.Held.{Held}
use Rattle.tree.specs.declared.marked_rev.MarkedRev.{MarkedRev}
use Rattle.tree.proofs.Leaves.{leaf_is_held, winner_is_best}
use Rattle.tree.proofs.Shown.{inside}
use Rattle.store.specs.Calls.{Answers}
use Rattle.store.specs.Contents.{Contents}
use Rattle.store.specs.Database.{Database, history_at}
use Rattle.store.specs.Lawful.{AreLawful, IsLawfulDatabase}
use Rattle.store.specs.Winning.{IsHeldSo}
use Rattle.store.specs.declared.fault.StoreFault.{StoreFault}
use Rattle.store.specs.declared.fault.StoreFault.TheVariants.{Damaged}
use Rattle.store.specs.declared.store.Store.{Ghosts}
use Rattle.store.proofs.Lawfuls.{writes_behind}

module _ (h : HistoryContent) (m : MarkedRev) where
  pub winner_marked : marked_winner h ≡ Some m → winner h ≡ Some m.rev
  winner_marked won = by (winner h) refl won
    where
      by : (w : Option Revision) → winner h ≡ w → option_map (marked_revision h) w ≡ Some m → winner h ≡ Some m.rev
      by None at up = absurd (cc)
      by (Some r) at up = at ∙ ap (λ (x : MarkedRev). Some x.rev) (inside (marked_revision h r) m up)

  pub mark_of : marked_winner h ≡ Some m → m.deleted ≡ is_deleted (held_of h m.rev)
  mark_of won = by (winner h) won
    where
      by : (w : Option Revision) → option_map (marked_revision h) w ≡ Some m → m.deleted ≡ is_deleted (held_of h m.rev)
      by None up = absurd (cc)
      by (Some r) up = subst (λ (x : MarkedRev). x.deleted ≡ is_deleted (held_of h x.rev)) (inside (marked_revision h r) m up) refl

  -- where something is held of the winner, its mark is that one
  pub marked_held : marked_winner h ≡ Some m → IsTrue (is_some (held_of h m.rev)) → IsHeldSo m.deleted (held_of h m.rev)
  marked_held won some = subst (λ b. IsHeldSo b (held_of h m.rev)) (sym (mark_of won)) (so (held_of h m.rev) some)
    where
      so : (o : Option Held) → IsTrue (is_some o) → IsHeldSo (is_deleted o) o
      so None s = absurd (cc)
      so (Some d) s = (d.body, refl)

winner_leaf : (h : HistoryContent) (o : Option Revision) (r : Revision) → o ≡ Some r
    → MatchOption o ((s : Revision) → IsTrue (is_leaf h s) → ⊥) (λ w. IsTrue (is_leaf h w) × ((s : Revision) → IsTrue (is_leaf h s) → (s ≡ w) ⊎ IsBetter h w s)) → IsTrue (is_leaf h r)
winner_leaf h None r is best = absurd (cc)
winner_leaf h (Some w) r is best = subst (λ s. IsTrue (is_leaf h s)) (inside w r is) best.0

-- something is held of the winner in a lawful database, with its mark
pub lawful_held : (db : Database) (id : List ℕ) (m : MarkedRev) → IsLawfulDatabase db → marked_winner (history_at db id) ≡ Some m → IsHeldSo m.deleted (held_of (history_at db id) m.rev)
lawful_held db id m lawful won =
    let h = history_at db id in
    let past = writes_behind db id lawful in
    let leaf = winner_leaf h (winner h) m.rev (winner_marked h m won) (winner_is_best h) in
    marked_held h m won
    (subst (λ (g : HistoryContent). IsTrue (is_some (held_of g m.rev))) (sym past.2)
    (leaf_is_held past.0 past.1 m.rev (subst (λ (g : HistoryContent). IsTrue (is_leaf g m.rev)) past.2 leaf)))

module _ (id : List ℕ) (m : MarkedRev) (known : Option Entry) where
  -- so it is in the contents of an honest store
  pub held_there : (c : Contents) (name : List ℕ) → AreLawful c → option_map (λ (d : Database). marked_winner (history_at d id)) (map.get c name) ≡ Some (Some m)
      → option_map (λ (d : Database). map.get (history_at d id) m.rev) (map.get c name) ≡ Some known → IsHeldSo m.deleted (option_and_then (λ (e : Entry). e.held) known)
  held_there c name lawful won at = by (map.get c name) refl won at
    where
      by : (o : Option Database) → map.get c name ≡ o → option_map (λ (d : Database). marked_winner (history_at d id)) o ≡ Some (Some m)
          → option_map (λ (d : Database). map.get (history_at d id) m.rev) o ≡ Some known → IsHeldSo m.deleted (option_and_then (λ (e : Entry). e.held) known)
      by None is won at = absurd (cc)
      by (Some d) is won at =
          subst (λ o. IsHeldSo m.deleted (option_and_then (λ (e : Entry). e.held) o)) (inside _ known at) (lawful_held d id m (lawful name d is) (inside _ (Some m) won))

-- an answer that tells of damage, where an honest store has none
pub told_damaged : {S X A : Type 0} (g : Ghosts S) (old new : S) (shown : X → A) (defined : Option A) (r : Result X StoreFault) (fault : StoreFault) → r ≡ Err fault → fault ≡ Damaged → ¬ (g.is_honest new) → Answers g old new shown defined r
told_damaged {X} g old new shown defined r fault is damaged dishonest = subst (Answers g old new shown defined) (sym (is ∙ ap (λ f. Err f) damaged)) dishonest
