-- The row of the winner's revision holds something, under the mark that the document's row has.
use Rattle.transactions.proofs.Common.{None, Some, AllByRecursion, Bool, Damaged, IsWellFormed, List, Option, Revision, Row, StoreFault, Trees, [], all-filter, all_map, ap, filter, history_in_rows, map, option_map, refl, revs_tree, shown_revision, slice_get, subst, sym, true, false, ℕ, ℤ, ◌∙◌, ◌∷◌, ◌≡◌}
use Rattle.std.specs.FinMap as finite
use Rattle.std.specs.Prelude.{if◌then◌else◌, is_some, option_and_then}
use Rattle.couch_json.specs.Value as json
use Rattle.sqlite_value.specs.Order.{column}
use Rattle.store.specs.declared.fault.StoreFault.TheVariants as store
use Rattle.store.specs.Winning.{IsHeldSo}
use Rattle.tables.proofs.HeldWinners.{winner_is_held}
use Rattle.tables.proofs.Laid.{shown_outlines}
use Rattle.tables.specs.Rows.{is_revision_of, is_set, json_in_cell, shown_outline}
use Rattle.tables.specs.Shown.{IsShownOutline, held_shown, mark_shown}
use Rattle.tree.proofs.Revisions.{same}
use Rattle.tree.proofs.Shown.{inside}
use Rattle.tree.specs.History.{HistoryContent, held_of, names, winner}
use Rattle.tree.specs.Outline.{marked_revision, marked_winner}
use Rattle.tree.specs.declared.entry.Entry.{Entry}
use Rattle.tree.specs.declared.entry.Held.{Held}
use Rattle.tree.specs.declared.marked_rev.MarkedRev.{MarkedRev}
use Rattle.transactions.proofs.OneRevision.{revision_found}
use Rattle.transactions.specs.Reading.{HasMark, IsLost, known_shown}

-- ---- what is told

-- a fault tells the same of what another fact follows from
pub lost_of : (intact sound : Type 0) (fault : StoreFault) → (sound → intact) → IsLost intact fault → IsLost sound fault
lost_of intact sound store.Memory f h = tt
lost_of intact sound store.Damaged f h = λ s. h (f s)
lost_of intact sound fault f h = absurd h

-- what is told to be damaged is not sound
pub lost_damaged : (sound : Type 0) (fault : StoreFault) → fault ≡ Damaged → ¬ sound → IsLost sound fault
lost_damaged sound fault is not = subst (IsLost sound) (sym is) not

-- ---- the row of the winner

mark_of_held : (r : Row) → mark_shown (shown_outline r) ≡ option_map (λ (h : Bool × json.Value). h.0) (held_shown (shown_revision r))
mark_of_held r = by (is_set (column r 6))
  where
    by : (b : Bool) → (if b then Some (is_set (column r 7)) else None) ≡ option_map (λ (h : Bool × json.Value). h.0) (if b then Some (is_set (column r 7), json_in_cell (column r 8)) else None)
    by true = refl
    by false = refl

held_mark : (o : Option (Bool × json.Value)) (deleted : Bool) (body : json.Value) → option_map {U = Held} (λ (d : Bool × json.Value). record { deleted = d.0; body = d.1 }) o ≡ Some (record { deleted = deleted; body = body })
    → option_map (λ (h : Bool × json.Value). h.0) o ≡ Some deleted
held_mark None deleted body is = absurd (cc)
held_mark (Some h) deleted body is = ap (λ (d : Held). Some d.deleted) (inside _ (record { deleted = deleted; body = body }) is)

marked_row : (rows : List Row) (deleted : Bool) (body : json.Value) → option_and_then (λ (e : Entry). e.held) (option_map known_shown (slice_get (map shown_revision rows) 0)) ≡ Some (record { deleted = deleted; body = body })
    → HasMark deleted (map shown_outline rows)
marked_row [] deleted body is = absurd (cc)
marked_row (r ∷ rows) deleted body is = record { row = shown_outline r; first = refl; mark = mark_of_held r ∙ held_mark (held_shown (shown_revision r)) deleted body is }

pub outlines_intact : (trees : Trees) (p : Row → Bool) (rows : List Row) → IsWellFormed trees → rows ≡ map shown_outline (filter p (trees revs_tree)) → AllByRecursion IsShownOutline rows
outlines_intact trees p rows l is = subst (AllByRecursion IsShownOutline) (sym is) (all_map IsShownOutline shown_outline _ (all-filter _ p _ (shown_outlines trees l)))

module _ (trees : Trees) (db : ℤ) (id : List ℕ) (l : IsWellFormed trees) where
  abbrev H : HistoryContent
  H = history_in_rows (trees revs_tree) db id

  pub winner_has_mark : (w : MarkedRev) → marked_winner H ≡ Some w → HasMark w.deleted (map shown_outline (filter (is_revision_of db id w.rev) (trees revs_tree)))
  winner_has_mark w won =
      let held = winner_is_held trees l db id w won in
      marked_row (filter (is_revision_of db id w.rev) (trees revs_tree)) w.deleted held.0 (ap (option_and_then (λ (e : Entry). e.held)) (revision_found trees db id w.rev) ∙ held.1)

  -- something is held of the revision of the winner, as it is found
  pub winner_known : (w : MarkedRev) (known : Option Entry) → marked_winner H ≡ Some w → known ≡ finite.get H w.rev → IsHeldSo w.deleted (option_and_then (λ (e : Entry). e.held) known)
  winner_known w known won is = subst (λ o. IsHeldSo w.deleted (option_and_then (λ (e : Entry). e.held) o)) (sym is) (winner_is_held trees l db id w won)

  -- of the winner something is held
  pub winner_not_bare : (r : Revision) (known : Option Entry) → names (winner H) r ≡ true → known ≡ finite.get H r → is_some (option_and_then (λ (e : Entry). e.held) known) ≡ false → ⊥
  winner_not_bare r known named is bare = by (winner H) refl named
    where
      by : (o : Option Revision) → winner H ≡ o → names o r ≡ true → ⊥
      by None at on = absurd (cc)
      by (Some q) at on =
          let one : q ≡ r = same q r on in
          let held = winner_is_held trees l db id (marked_revision H q) (ap (option_map (marked_revision H)) at) in
          let here : is_some (held_of H r) ≡ true = ap (λ x. is_some (held_of H x)) (sym one) ∙ ap is_some held.1 in
          let both : true ≡ false = sym here ∙ ap (λ o. is_some (option_and_then (λ (e : Entry). e.held) o)) (sym is) ∙ bare in
          cc
