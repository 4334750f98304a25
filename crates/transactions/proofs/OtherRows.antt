-- The rows of the databases that a commit doesn't write.
use Rattle.transactions.proofs.Common.{AllByRecursion, Bool, Changes, Database, List, Row, [], ap, bytes_eq-Decides, cond, dbs_tree, false, filter, has_number, map, not, number_of, pos, refl, rows_at_sequence, schema, subst, sym, true, ℕ, ℤ, ◌+◌, ◌∙◌, ◌∷◌, ◌≡◌, ◌≢◌}
use Rattle.std.proofs.lemmas.Bool.{false_from_ne_true}
use Rattle.std.specs.Ordering.{int_eq}
use Rattle.std.specs.Prelude.{◌&&◌, if◌then◌else◌}
use Rattle.sqlite_keyed.proofs.ListLemmas.{all_weaker}
use Rattle.sqlite_trees.proofs.ListLemmas.{filter_same as filter_on}
use Rattle.index.specs.Calls.{ChangesIndexes}
use Rattle.store.specs.Database.{DocumentWrite}
use Rattle.tables.proofs.Common.{is_named, name_of, row_at_sequence}
use Rattle.tables.proofs.RowMaps.{filter_both}
use Rattle.tables.proofs.DocumentWriteSteps.{revisions_changed}
use Rattle.tables.specs.Edits.{IsWrite, history_before, new_entries}
use Rattle.tables.specs.Rows.{sequence_of_database}
use Rattle.transactions.proofs.Ahead.{placed_dbs}
use Rattle.transactions.proofs.IndexSteps.{same_tables}
use Rattle.transactions.specs.Commits.{KeepsOthers}
use Rattle.transactions.specs.Indexing.{IsFollowed}
use Rattle.transactions.specs.inner.Placed.{IsPlacedWrite}

-- the row has another number
abbrev is_other : ℤ → Row → Bool
is_other n r = not (has_number n r)

-- a row in the place of another, both of which are left out or are one
left_out : (p : Row → Bool) (x y : Row) (l m : List Row) → p x ≡ false → p y ≡ false → filter p l ≡ filter p m → filter p (x ∷ l) ≡ filter p (y ∷ m)
left_out p x y l m out off h = ap (λ b. cond b (x ∷ filter p l) (filter p l)) out ∙ h ∙ sym (ap (λ b. cond b (y ∷ filter p m) (filter p m)) off)

-- the row of the database becomes another of its number, and no other row does
pub changed_others : (n : ℤ) (f : Row → Row) → ((r : Row) → number_of (f r) ≡ number_of r) → (rows : List Row) → filter (is_other n) (map (λ r. if has_number n r then f r else r) rows) ≡ filter (is_other n) rows
changed_others n f numbers [] = refl
changed_others n f numbers (r ∷ rows) = by (has_number n r) refl (changed_others n f numbers rows)
  where
    rest : List Row
    rest = map (λ x. if has_number n x then f x else x) rows

    by : (b : Bool) → has_number n r ≡ b → filter (is_other n) rest ≡ filter (is_other n) rows → filter (is_other n) ((if has_number n r then f r else r) ∷ rest) ≡ filter (is_other n) (r ∷ rows)
    by true is same =
        left_out (is_other n) (if has_number n r then f r else r) r rest rows
        (ap (λ b. is_other n (if b then f r else r)) is ∙ ap (λ (k : ℤ). not (int_eq k n)) (numbers r) ∙ ap not is) (ap not is) same
    by false is same =
        ap (λ b. filter (is_other n) ((if b then f r else r) ∷ rest)) is
        ∙ ap (λ l. cond (is_other n r) (r ∷ l) l) same

moved_others : (n s : ℤ) (rows : List Row) → filter (is_other n) (rows_at_sequence n s rows) ≡ filter (is_other n) rows
moved_others n s = changed_others n (row_at_sequence s) (λ r. refl)

-- a write leaves the schema
written_schema : (r : Row) (w : DocumentWrite) (old new : Database) → old.schema ≡ schema → IsWrite r w old new → new.schema ≡ schema
written_schema r w old new is h =
    let one = revisions_changed (new_entries (history_before old.trees r w) w.write) (number_of r) w.id old h.inserted h.revisions in
    h.advances.schema ∙ h.places.schema ∙ one.schema ∙ is

-- one write that the rows of indexes follow
pub others_followed : (n : ℤ) (ids : List (List ℕ)) (r : Row) (w : DocumentWrite) (old new : Database) → n ≡ number_of r → old.schema ≡ schema → IsFollowed n ids r w old new → KeepsOthers n old new
others_followed n ids r w old new numbered is h =
    let write = h.write in
    let placed : IsPlacedWrite (number_of r) (pos (sequence_of_database r + 1)) w old write.placed =
    record { inserted = write.inserted; best = write.best; revisions = write.revisions; best_is = write.best_is; places = write.places } in
    let rows : new.trees dbs_tree ≡ rows_at_sequence (number_of r) (pos (sequence_of_database r + 1)) (old.trees dbs_tree) =
    (same_tables h.written new (written_schema r w old h.written is write) h.only).dbs ∙ write.advances.rows
    ∙ ap (rows_at_sequence (number_of r) (pos (sequence_of_database r + 1))) (placed_dbs (number_of r) (pos (sequence_of_database r + 1)) w old write.placed is placed) in
    subst (λ k. KeepsOthers k old new) (sym numbered) (ap (filter (is_other (number_of r))) rows ∙ moved_others (number_of r) (pos (sequence_of_database r + 1)) (old.trees dbs_tree))

-- the rows of indexes alone are changed
pub others_still : (n : ℤ) (old mid new : Database) → mid.schema ≡ schema → ChangesIndexes mid new → KeepsOthers n old mid → KeepsOthers n old new
others_still n old mid new is only h = ap (filter (is_other n)) (same_tables mid new is only).dbs ∙ h

-- the sequence of the database is moved
pub others_moved : (n s : ℤ) (old new : Database) → Changes dbs_tree (rows_at_sequence n s (old.trees dbs_tree)) old new → KeepsOthers n old new
others_moved n s old new change = ap (filter (is_other n)) change.rows ∙ moved_others n s (old.trees dbs_tree)

-- a write that doesn't move it
pub others_placed : (n s : ℤ) (w : DocumentWrite) (old new : Database) → old.schema ≡ schema → IsPlacedWrite n s w old new → KeepsOthers n old new
others_placed n s w old new is h = ap (filter (is_other n)) (placed_dbs n s w old new is h)

-- ---- the row of another name

-- a row of one name is not of another
other_name : (name other : List ℕ) → other ≢ name → (r : Row) → is_named name r ≡ true → is_named other r ≡ false
other_name name other apart r here = false_from_ne_true (is_named other r) (λ there. apart (sym ((bytes_eq-Decides (name_of r) other).0 there) ∙ (bytes_eq-Decides (name_of r) name).0 here))

-- where the rows of a name are those of a number, the rows of another name have another number
named_apart : (n : ℤ) (name other : List ℕ) (rows : List Row) → other ≢ name → AllByRecursion (λ r. is_named name r ≡ has_number n r) rows → filter (is_named other) (filter (is_other n) rows) ≡ filter (is_named other) rows
named_apart n name other rows apart all =
    filter_both (is_named other) (is_other n) rows
    ∙ filter_on (λ r. is_other n r && is_named other r) (is_named other) rows (all_weaker (λ r. is_named name r ≡ has_number n r) (λ r. (is_other n r && is_named other r) ≡ is_named other r) (λ r same. one r (is_named name r) refl (sym same)) rows all)
  where
    one : (r : Row) (b : Bool) → is_named name r ≡ b → has_number n r ≡ is_named name r → (is_other n r && is_named other r) ≡ is_named other r
    one r true here same = ap (λ c. not c && is_named other r) (same ∙ here) ∙ sym (other_name name other apart r here)
    one r false here same = ap (λ c. not c && is_named other r) (same ∙ here)

-- So where the rows of all other numbers are as they were, those of each other name are.
pub other_rows : (n : ℤ) (name other : List ℕ) (old new : List Row) → other ≢ name → AllByRecursion (λ r. is_named name r ≡ has_number n r) old → AllByRecursion (λ r. is_named name r ≡ has_number n r) new
    → filter (is_other n) new ≡ filter (is_other n) old → filter (is_named other) new ≡ filter (is_named other) old
other_rows n name other old new apart was is kept = sym (named_apart n name other new apart is) ∙ ap (filter (is_named other)) kept ∙ named_apart n name other old apart was
