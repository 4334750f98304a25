-- What the row of one revision says, and the history of the winner alone.
use Rattle.transactions.proofs.Common.{None, Some, AllByRecursion, Bool, Coded-set, IsWellFormed, List, Option, Revision, Row, Trees, [], all-filter, all_map, ap, coded_option, filter, history_in_rows, is_row_of_document, map, option_map, refl, revs_tree, shown_revision, slice_get, subst, sym, ℕ, ℤ, ◌∙◌, ◌∷◌, ◌≡◌}
use Rattle.std.specs.FinMap as finite
use Rattle.std.specs.Prelude.{option_and_then}
use Rattle.couch_json.specs.Value.{Value}
use Rattle.couch_json.specs.View.{view}
use Rattle.couch_json.specs.declared.value.Json.{Json}
use Rattle.store.specs.Winning.{single, single_by, winner_alone}
use Rattle.tree.proofs.Shown.{inside}
use Rattle.tree.specs.History.{HistoryContent, held_of, entry_of_row, winner, with_new}
use Rattle.tree.specs.Outline.{marked_revision, marked_winner}
use Rattle.tree.specs.declared.entry.Held.{Held}
use Rattle.tree.specs.declared.marked_rev.MarkedRev.{MarkedRev}
use Rattle.std.specs.Ordering.{eq_by_cmp}
use Rattle.tables.proofs.Laid.{shown_revisions}
use Rattle.tables.proofs.RowMaps.{filter_both, get_filtered}
use Rattle.tables.specs.Rows.{entry_of, is_revision_of, revision_of_row}
use Rattle.tables.specs.Shown.{IsShownRevision}
use Rattle.tree.proofs.Kept.{revision_cmp_total}
use Rattle.tree.proofs.Revisions.{revision_cmp_exact}
use Rattle.tree.specs.Revision.{revision_cmp}
use Rattle.tree.specs.declared.entry.Entry.{Entry}
use Rattle.tree.specs.HistoryCode.{entry_code}
use Rattle.transactions.specs.Reading.{known_shown}

pub entry_set : IsSet (Option (Option Entry))
entry_set = Coded-set (coded_option (coded_option entry_code))

first_of : {A : Type 0} (show : Row → Row) (value : Row → A) (rows : List Row) → option_map value (slice_get (map show rows) 0) ≡ option_map (λ r. value (show r)) (slice_get rows 0)
first_of show value [] = refl
first_of show value (r ∷ rows) = refl

-- ---- one revision

pub revision_found : (trees : Trees) (db : ℤ) (id : List ℕ) (q : Revision) → option_map known_shown (slice_get (map shown_revision (filter (is_revision_of db id q) (trees revs_tree))) 0) ≡ finite.get (history_in_rows (trees revs_tree) db id) q
revision_found trees db id q =
    first_of shown_revision known_shown (filter (is_revision_of db id q) (trees revs_tree))
    ∙ sym (get_filtered revision_cmp_total revision_cmp_exact revision_of_row (λ p r. eq_by_cmp revision_cmp p (revision_of_row r)) (λ p r. refl) entry_of (filter (is_row_of_document db id) (trees revs_tree)) q
    ∙ ap (λ rs. option_map entry_of (slice_get rs 0)) (filter_both (λ r. eq_by_cmp revision_cmp q (revision_of_row r)) (is_row_of_document db id) (trees revs_tree)))

pub revision_intact : (trees : Trees) (p : Row → Bool) (rows : List Row) → IsWellFormed trees → rows ≡ map shown_revision (filter p (trees revs_tree)) → AllByRecursion IsShownRevision rows
revision_intact trees p rows l is = subst (AllByRecursion IsShownRevision) (sym is) (all_map IsShownRevision shown_revision _ (all-filter _ p _ (shown_revisions trees l)))

-- ---- the winner alone

-- the winner with what is known of it is the winner alone
pub alone_is : (h : HistoryContent) (m : MarkedRev) (known : Option Entry) (e : Option (Bool × Value)) → marked_winner h ≡ Some m → known ≡ finite.get h m.rev
    → option_map (λ d. record { deleted = d.0; body = d.1 }) e ≡ option_and_then (λ (x : Entry). x.held) known → with_new finite.empty m.rev (entry_of_row None e) ≡ winner_alone h
alone_is h m known e won is held = by (winner h) refl won
  where
    by : (w : Option Revision) → winner h ≡ w → option_map (marked_revision h) w ≡ Some m → with_new finite.empty m.rev (entry_of_row None e) ≡ single_by h w
    by None at up = absurd (cc)
    by (Some r) at up =
        let rev : m.rev ≡ r = ap (λ (x : MarkedRev). x.rev) (sym (inside _ _ up)) in
        ap (λ (d : Option Held). with_new finite.empty m.rev (record { parent = None; held = d })) (held ∙ ap (option_and_then (λ (x : Entry). x.held)) is)
        ∙ ap (λ (q : Revision). single q (held_of h q)) rev

-- what is held of what was taken out
pub held_both : (o : Option (Bool × Json)) → option_map {U = Held} (λ (d : Bool × Value). record { deleted = d.0; body = d.1 }) (option_map {U = Bool × Value} (λ (d : Bool × Json). (d.0, view d.1)) o) ≡ option_map {U = Held} (λ (d : Bool × Json). record { deleted = d.0; body = view d.1 }) o
held_both None = refl
held_both (Some d) = refl
