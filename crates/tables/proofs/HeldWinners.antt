-- Something is held of the winner of each document that laid tables hold, with its mark.
use Rattle.tables.proofs.Common.{Bool, IsWellFormed, List, None, Option, Row, Some, Trees, [], any_is_found, ap, bytes_eq-Decides, cond, contents_in, database_of_row, dbs_tree, docs_tree, db_of, false, filter, find, has_number, history_at, history_in_rows, inside, is_named, is_row_of_document, is_some, name_of, number_of, option_map, refl, revs_tree, same_int, slice_get, slice_get-filter, subst, sym, true, ℕ, ℤ, ◌||◌, ◌∙◌, ◌∷◌, ◌≡◌}
use Rattle.std.proofs.Math.Bool.{Bool-set}
use Rattle.std.proofs.Math.Logic.{∥∥₁_elim}
use Rattle.std.specs.FinMap as finite
use Rattle.std.specs.List.{list_any}
use Rattle.store.proofs.HeldWinners.{lawful_held, marked_held}
use Rattle.store.proofs.Winnings.{no_winner}
use Rattle.store.specs.Lawful.{AreLawful}
use Rattle.store.specs.Winning.{IsHeldSo}
use Rattle.tables.proofs.Lookups.{database_there, document_found, unwritten}
use Rattle.tables.proofs.RowMaps.{find_found, find_passes, only_found}
use Rattle.tables.proofs.Tables.{of_these, one_named}
use Rattle.tables.specs.Layout.{IsDocumentRow}
use Rattle.tree.specs.History.{HistoryContent, held_of}
use Rattle.tree.specs.Outline.{marked_revision, marked_winner}
use Rattle.tree.specs.declared.marked_rev.MarkedRev.{MarkedRev}

or_right : (a b : Bool) → b ≡ true → (a || b) ≡ true
or_right true b on = refl
or_right false b on = on

-- some row passes a test that a row passes which is found
passes_in : (p q : Row → Bool) (rows : List Row) (d : Row) → find q rows ≡ Some d → p d ≡ true → list_any p rows ≡ true
passes_in p q [] d is on = absurd (cc)
passes_in p q (r ∷ rows) d is on = by (λ at. passes_in p q rows d at on) (q r) is
  where
    by : (find q rows ≡ Some d → list_any p rows ≡ true) → (b : Bool) → cond b (Some r) (find q rows) ≡ Some d → (p r || list_any p rows) ≡ true
    by rest true at = ap (λ b. b || list_any p rows) (ap p (inside r d at) ∙ on)
    by rest false at = or_right (p r) (list_any p rows) (rest at)

module _ (trees : Trees) (h : IsWellFormed trees) where
  -- the row of a database is the first of its name
  own_row : (q : Row → Bool) (d : Row) → find q (trees dbs_tree) ≡ Some d → slice_get (filter (is_named (name_of d)) (trees dbs_tree)) 0 ≡ Some d
  own_row q d is = by (find (is_named (name_of d)) (trees dbs_tree)) refl (sym (any_is_found (is_named (name_of d)) (trees dbs_tree)) ∙ passes_in (is_named (name_of d)) q (trees dbs_tree) d is own)
    where
      own : is_named (name_of d) d ≡ true
      own = (bytes_eq-Decides (name_of d) (name_of d)).1 refl

      by : (o : Option Row) → find (is_named (name_of d)) (trees dbs_tree) ≡ o → is_some o ≡ true → slice_get (filter (is_named (name_of d)) (trees dbs_tree)) 0 ≡ Some d
      by None at some = absurd (cc)
      by (Some e) at some =
          let only = only_found (is_named (name_of d)) e (trees dbs_tree) (one_named (trees dbs_tree) h.names_apart (name_of d)) at in
          let same : d ≡ e = (find_found (λ r. is_named (name_of d) r ≡ true → r ≡ e) q (trees dbs_tree) d only is).0 own in
          slice_get-filter (is_named (name_of d)) (trees dbs_tree) ∙ at ∙ ap Some (sym same)

  module _ (db : ℤ) (id : List ℕ) (m : MarkedRev) where
    abbrev H : HistoryContent
    H = history_in_rows (trees revs_tree) db id

    in_database : (d : Row) (q : Row → Bool) → find q (trees dbs_tree) ≡ Some d → number_of d ≡ db → marked_winner H ≡ Some m → AreLawful (contents_in trees) → is_some (held_of H m.rev) ≡ true
    in_database d q is numbered won lawful =
        let same : history_at (database_of_row trees d) id ≡ H = document_found trees d id h ∙ ap (λ n. history_in_rows (trees revs_tree) n id) numbered in
        let held = lawful_held (database_of_row trees d) id m (lawful (name_of d) (database_of_row trees d) (database_there trees h (name_of d) d (own_row q d is))) (ap marked_winner same ∙ won) in
        ap (λ (k : HistoryContent). is_some (held_of k m.rev)) (sym same) ∙ ap is_some held.1

    of_document : (r : Row) → find (is_row_of_document db id) (trees docs_tree) ≡ Some r → marked_winner H ≡ Some m → AreLawful (contents_in trees) → is_some (held_of H m.rev) ≡ true
    of_document r is won lawful = by (find (has_number (db_of r)) (trees dbs_tree)) refl (sym (any_is_found (has_number (db_of r)) (trees dbs_tree)) ∙ row.0.there)
      where
        row : IsDocumentRow trees r × (is_row_of_document db id r ≡ true)
        row = find_found (IsDocumentRow trees) (is_row_of_document db id) (trees docs_tree) r h.docs is

        by : (o : Option Row) → find (has_number (db_of r)) (trees dbs_tree) ≡ o → is_some o ≡ true → is_some (held_of H m.rev) ≡ true
        by None at some = absurd (cc)
        by (Some d) at some =
            in_database d (has_number (db_of r)) at (same_int (number_of d) (db_of r) (find_passes (has_number (db_of r)) (trees dbs_tree) d at) ∙ (of_these db id r row.1).0) won lawful

    some_held : marked_winner H ≡ Some m → AreLawful (contents_in trees) → is_some (held_of H m.rev) ≡ true
    some_held won lawful = by (find (is_row_of_document db id) (trees docs_tree)) refl
      where
        by : (o : Option Row) → find (is_row_of_document db id) (trees docs_tree) ≡ o → is_some (held_of H m.rev) ≡ true
        by None at = absurd (let none : Some m ≡ None = sym won ∙ ap marked_winner (unwritten trees db id h at) ∙ ap (option_map (marked_revision finite.empty)) no_winner in cc)
        by (Some r) at = of_document r at won lawful

    pub winner_is_held : marked_winner H ≡ Some m → IsHeldSo m.deleted (held_of H m.rev)
    winner_is_held won = marked_held H m won (∥∥₁_elim h.lawful (Bool-set _ _) (some_held won))
