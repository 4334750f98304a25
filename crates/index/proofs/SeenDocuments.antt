-- What queries see of a document is what the row of its winner shows.
use Rattle.index.proofs.Common.{AllByRecursion, Bool, List, None, Option, Row, Some, Trees, [], ap, false, filter, if◌then◌else◌, map, option_map, refl, slice_get, subst, sym, true, ℕ, ℤ, ◌∙◌, ◌∷◌, ◌≡◌}
use Rattle.couch_json.specs.Value.{Value}
use Rattle.index.specs.inner.Seen.{HasLive, ShowsLive, shown_by_row, shown_by_rows}
use Rattle.sqlite_keyed.proofs.ListLemmas.{all-filter, all_map}
use Rattle.std.specs.FinMap as finite
use Rattle.std.specs.Ordering.{eq_by_cmp}
use Rattle.std.specs.Prelude.{option_and_then}
use Rattle.store.specs.Indexes.{queried_document, shown_by}
use Rattle.store.specs.Pages.{live_rev, live_rev_by}
use Rattle.tables.proofs.HeldWinners.{winner_is_held}
use Rattle.tables.proofs.Laid.{shown_revisions, stored_winner}
use Rattle.tables.proofs.ListingRows.{won}
use Rattle.tables.proofs.RowMaps.{filter_both, get_filtered}
use Rattle.tables.specs.Layout.{IsDocumentRow, IsWellFormed}
use Rattle.tables.specs.Rows.{db_of, entry_of, history_in_rows, id_of, is_gone_row, is_row_of_document, is_revision_of, revision_of_row, shown_revision, winner_text}
use Rattle.tables.specs.Schema.{revs_tree}
use Rattle.tables.specs.Shown.{IsShownRevision, held_shown, parent_shown}
use Rattle.tree.proofs.Kept.{revision_cmp_total}
use Rattle.tree.proofs.Revisions.{revision_cmp_exact}
use Rattle.tree.specs.DocumentId.{is_design_id}
use Rattle.tree.specs.History.{HistoryContent, held_of, is_deleted, entry_of_row, winner}
use Rattle.tree.proofs.Shown.{inside}
use Rattle.tree.specs.Outline.{marked_revision, marked_winner}
use Rattle.tree.specs.Revision.{Revision, revision_cmp, revision_read}
use Rattle.tree.specs.ShownDocument.{document_at_revision}
use Rattle.tree.specs.declared.entry.Entry.{Entry}
use Rattle.tree.specs.declared.entry.Held.{Held}

-- ---- one revision

abbrev known_by_row : Row → Entry
known_by_row s = entry_of_row (parent_shown s) (held_shown s)

pub first_of : {A : Type 0} (show : Row → Row) (value : Row → A) (rows : List Row) → option_map value (slice_get (map show rows) 0) ≡ option_map (λ r. value (show r)) (slice_get rows 0)
first_of show value [] = refl
first_of show value (r ∷ rows) = refl

revision_found : (trees : Trees) (db : ℤ) (id : List ℕ) (q : Revision) → option_map known_by_row (slice_get (map shown_revision (filter (is_revision_of db id q) (trees revs_tree))) 0) ≡ finite.get (history_in_rows (trees revs_tree) db id) q
revision_found trees db id q =
    first_of shown_revision known_by_row (filter (is_revision_of db id q) (trees revs_tree))
    ∙ sym (get_filtered revision_cmp_total revision_cmp_exact revision_of_row (λ p r. eq_by_cmp revision_cmp p (revision_of_row r)) (λ p r. refl) entry_of (filter (is_row_of_document db id) (trees revs_tree)) q
    ∙ ap (λ rs. option_map entry_of (slice_get rs 0)) (filter_both (λ r. eq_by_cmp revision_cmp q (revision_of_row r)) (is_row_of_document db id) (trees revs_tree)))

pub revision_intact : (trees : Trees) (p : Row → Bool) (rows : List Row) → IsWellFormed trees → rows ≡ map shown_revision (filter p (trees revs_tree)) → AllByRecursion IsShownRevision rows
revision_intact trees p rows l is = subst (AllByRecursion IsShownRevision) (sym is) (all_map IsShownRevision shown_revision _ (all-filter _ p _ (shown_revisions trees l)))

-- what is held of the row's revision, as its document
held_shown_by : (id : List ℕ) (q : Revision) (o : Option (Bool × Value)) → option_map (λ held. document_at_revision id q held) (option_map (λ (d : Bool × Value). record { deleted = d.0; body = d.1 }) o)
    ≡ option_map (λ h. document_at_revision id q (record { deleted = h.0; body = h.1 })) o
held_shown_by id q None = refl
held_shown_by id q (Some h) = refl

first_shown : (id : List ℕ) (q : Revision) (o : Option Row) → option_map (λ held. document_at_revision id q held) (option_and_then (λ (e : Entry). e.held) (option_map known_by_row o)) ≡ option_and_then (shown_by_row id q) o
first_shown id q None = refl
first_shown id q (Some s) = held_shown_by id q (held_shown s)

-- ---- what the first row holds

held_as : (o : Option (Bool × Value)) (body : Value) → option_map {U = Held} (λ (d : Bool × Value). record { deleted = d.0; body = d.1 }) o ≡ Some (record { deleted = false; body = body }) → o ≡ Some (false, body)
held_as None body is = absurd (cc)
held_as (Some h) body is = ap (λ (d : Held). Some (d.deleted, d.body)) (inside _ (record { deleted = false; body = body }) is)

pub first_live : (rows : List Row) (body : Value) → option_and_then (λ (e : Entry). e.held) (option_map known_by_row (slice_get rows 0)) ≡ Some (record { deleted = false; body = body }) → HasLive rows
first_live [] body is = absurd (cc)
first_live (s ∷ rows) body is = record { row = s; first = refl; body = body; held = held_as (held_shown s) body is }

pub live_is : (id : List ℕ) (q : Revision) (rows : List Row) (document : Value) → ShowsLive id q rows document → Some document ≡ shown_by_rows id q rows
live_is id q rows document s =
    ap Some s.shown
    ∙ sym (ap (option_and_then (shown_by_row id q)) s.live.first ∙ ap (option_map (λ (h : Bool × Value). document_at_revision id q (record { deleted = h.0; body = h.1 }))) s.live.held)

module _ (trees : Trees) (l : IsWellFormed trees) (r : Row) (k : IsDocumentRow trees r) where
  abbrev own : HistoryContent
  own = history_in_rows (trees revs_tree) (db_of r) (id_of r)

  hidden : (b : Bool) → ◌≡◌ {A = Option Value} (if b then None else None) None
  hidden true = refl
  hidden false = refl

  -- of a deleted document nothing is seen
  pub gone_unseen : is_gone_row r ≡ true → queried_document (id_of r) own ≡ None
  gone_unseen gone =
      let w = stored_winner trees l.revs r k in
      let none : live_rev own ≡ None = ap (live_rev_by own) w.1 ∙ ap (λ b. if b then None else Some w.0) (sym (k.gone w.0 w.1) ∙ gone) in
      ap (λ v. if is_design_id (id_of r) then None else shown_by (id_of r) own v) none ∙ hidden (is_design_id (id_of r))

  -- of a design document neither
  pub design_unseen : is_design_id (id_of r) ≡ true → queried_document (id_of r) own ≡ None
  design_unseen is = ap (λ b. if b then None else shown_by (id_of r) own (live_rev own)) is

  -- of each other the winner
  pub winner_seen : (q : Revision) → revision_read (winner_text r) ≡ Some q → is_gone_row r ≡ false → is_design_id (id_of r) ≡ false
      → shown_by_rows (id_of r) q (map shown_revision (filter (is_revision_of (db_of r) (id_of r) q) (trees revs_tree))) ≡ queried_document (id_of r) own
  winner_seen q spelled live plain =
      let best : winner own ≡ Some q = won trees l.revs r k ∙ spelled in
      let alive : is_deleted (held_of own q) ≡ false = sym (k.gone q best) ∙ live in
      let seen : live_rev own ≡ Some q = ap (live_rev_by own) best ∙ ap (λ b. if b then None else Some q) alive in
      sym (ap (λ b. if b then None else shown_by (id_of r) own (live_rev own)) plain ∙ ap (shown_by (id_of r) own) seen
      ∙ ap (λ o. option_map (λ (held : Held). document_at_revision (id_of r) q held) (option_and_then (λ (e : Entry). e.held) o)) (sym (revision_found trees (db_of r) (id_of r) q))
      ∙ first_shown (id_of r) q (slice_get (map shown_revision (filter (is_revision_of (db_of r) (id_of r) q) (trees revs_tree))) 0))

  -- which the row of that revision holds, under no mark of deletion
  pub winner_live : (q : Revision) → revision_read (winner_text r) ≡ Some q → is_gone_row r ≡ false → HasLive (map shown_revision (filter (is_revision_of (db_of r) (id_of r) q) (trees revs_tree)))
  winner_live q spelled live =
      let rows = map shown_revision (filter (is_revision_of (db_of r) (id_of r) q) (trees revs_tree)) in
      let best : winner own ≡ Some q = won trees l.revs r k ∙ spelled in
      let marked : marked_winner own ≡ Some (record { rev = q; deleted = false }) =
      ap (option_map (marked_revision own)) best ∙ ap (λ b. Some (record { rev = q; deleted = b })) (sym (k.gone q best) ∙ live) in
      let held = winner_is_held trees l (db_of r) (id_of r) (record { rev = q; deleted = false }) marked in
      first_live rows held.0 (ap (option_and_then (λ (e : Entry). e.held)) (revision_found trees (db_of r) (id_of r) q) ∙ held.1)
