-- Rows of revisions that are sound are read.
use Rattle.tables.proofs.Common.{AllByRecursion, Bool, Err, IsCount, IsPermutation, IsRevisionRow, IsShownRevision, List, None, Ok, Option, Result, Revision, Row, Some, SpellsJson, SpellsParentOf, Text, Trees, Value, all-filter, all_map, all_weaker, and_parts, ap, arith, body_cell, bytes, canonical, column, cond, count_in_cell, db_of, entry_of, filter, flag, greatest_number, id_of, inl, inr, is_held, is_held_deleted, is_set, json_in_cell, map, nat_le, nat_tests, option_map, parent_cell, refl, revision_of_row, revs_tree, shown_revision, sym, true, false, ℕ, ◌<◌, ◌^◌, ◌∙◌, ◌≡◌}
use Rattle.couch_json.specs.Reading.{reading}
use Rattle.couch_json.specs.Value as json
use Rattle.couch_json.specs.declared.fault.JsonFault.{JsonFault}
use Rattle.sqlite_trees.proofs.ListLemmas.{all-permutation}
use Rattle.tables.proofs.Laid.{known_lawful}
use Rattle.file_check.proofs.Assembled.{parent_number}
use Rattle.file_check.proofs.RowForms.{unspelled}

small : (n : ℕ) → nat_le n greatest_number ≡ true → n < 2 ^ 32
small n h = grind (arith, nat_tests)

counted : (v : Value) (b : Bool) → v ≡ flag b → IsCount v
counted v true is = (1, is)
counted v false is = (0, is)

-- a cell with the canonical text of what it says spells that
spells : (v : Value) → v ≡ Text (canonical (json_in_cell v)) → SpellsJson v
spells v is = by (reading (bytes v)) refl
  where
    own : v ≡ Text (bytes v)
    own = is ∙ ap Text (sym (ap bytes is))

    by : (r : Result json.Value JsonFault) → reading (bytes v) ≡ r → SpellsJson v
    by (Ok w) read = (bytes v, w, own, read)
    by (Err fault) read = absurd (unspelled (bytes v) fault read (ap bytes is ∙ ap (λ x. canonical (json_in_cell x)) own))

module _ (trees : Trees) (sound : AllByRecursion (IsRevisionRow trees) (trees revs_tree)) (r : Row) (k : IsRevisionRow trees r) where
  shown_parent : (o : Option Revision) → (entry_of r).parent ≡ o → SpellsParentOf (count_in_cell (column r 3)) (column r 5)
  shown_parent None is = inl (ap (λ x. column x 5) k.is ∙ ap parent_cell is)
  shown_parent (Some p) is = inr (p, known_lawful trees (trees revs_tree) (db_of r) (id_of r) p sound (k.follows p is), parent_number (count_in_cell (column r 3)) (column r 5) p is, ap (λ x. column x 5) k.is ∙ ap parent_cell is)

  shown_body : is_set (column r 6) ≡ true → SpellsJson (column r 8)
  shown_body set =
      spells (column r 8)
      (ap (λ x. column x 8) k.is ∙ ap (λ b. body_cell (option_map (λ (d : Bool × json.Value). record { deleted = d.0; body = d.1 }) (cond b (Some (is_set (column r 7), json_in_cell (column r 8))) None))) set)

  shown : IsShownRevision (shown_revision r)
  shown = record {
    width = refl;
    number = ((revision_of_row r).number, ap (λ x. column x 3) k.is, small (revision_of_row r).number (and_parts _ _ (and_parts _ _ k.lawful).0).1);
    hash = (revision_of_row r, k.lawful, refl, ap (λ x. column x 4) k.is);
    parent = shown_parent (entry_of r).parent refl;
    held = record { held = counted (column r 6) (is_held (entry_of r).held) (ap (λ x. column x 6) k.is); mark = λ set. counted (column r 7) (is_held_deleted (entry_of r).held) (ap (λ x. column x 7) k.is); body = shown_body };
  }

pub rows_intact : (trees : Trees) (p : Row → Bool) (rows : List Row) → AllByRecursion (IsRevisionRow trees) (trees revs_tree) → IsPermutation (map shown_revision (filter p (trees revs_tree))) rows → AllByRecursion IsShownRevision rows
rows_intact trees p rows sound same =
    all-permutation IsShownRevision _ rows same
    (all_map IsShownRevision shown_revision _ (all-filter _ p _ (all_weaker (IsRevisionRow trees) (λ r. IsShownRevision (shown_revision r)) (shown trees sound) (trees revs_tree) sound)))
