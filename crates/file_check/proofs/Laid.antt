-- Tables that are laid out have rows that are sound, and are kept as SQLite keeps them.
use Rattle.tables.proofs.Common.{AllByRecursion, AllEndAtLast, Bool, EndsAtLast, HasLast, IsDatabaseRow, [], and_parts, column, false, inl, inr, is_row_of_database, list_any, pos, sequence_of_database, sequence_of_row, ◌∷◌, ◌||◌, ◌&&◌, ℕ, AreLawful, AreNumbered, Int, IsDocumentRow, IsWellFormed, IsRevisionRow, IsTrue, List, None, Null, Option, Real, Revision, Row, Some, Text, Blob, Trees, Value, all_both, all_weaker, any_is_found, ap, ap₂, bytes_eq-Decides, contents_in, database_of_row, db_of, dbs_tree, docs_tree, document_of_row, Decides-int_eq, find, has_number, history_in_rows, id_of, is_leaf, is_named, is_row_of_document, is_some, held_of, length, name_of, number_of, option_map, refl, revs_tree, rowid, same_int, slice_get-filter, subst, sym, true, value_cmp, value_cmp-Int, whole_in_cell, ℤ, ◌<ℤ◌, ◌∙◌, ◌≡◌, Less}
use Rattle.std.proofs.Math.Bool.{Bool-set}
use Rattle.std.proofs.Math.Logic.{∥∥₁_elim}
use Rattle.std.specs.FinMap as finite
use Rattle.std.specs.Ordering.{int_eq}
use Rattle.std.proofs.lemmas.Bool.{false≢true}
use Rattle.sqlite_keyed.proofs.KeyedLemmas.{lt_from_Less}
use Rattle.sqlite_trees.specs.View.{IsShaped as IsShapedTree, is_int}
use Rattle.sqlite_trees.specs.declared.store.Shape.TheVariants.{Table}
use Rattle.store.specs.Database.{Document}
use Rattle.store.specs.Lawful.{IsWritten}
use Rattle.tables.proofs.Lookups.{database_found, get_id}
use Rattle.tables.proofs.RowMaps.{find_found, mapped_some}
use Rattle.tables.proofs.Sorted.{both_in}
use Rattle.tables.proofs.Tables.{one_named, one_of}
use Rattle.tree.proofs.Leaves.{leaf_is_held}
use Rattle.tree.specs.History.{HistoryContent}
use Rattle.file_check.specs.Tables.{AreKept, HasSoundLocals, IsSoundDatabase, IsSoundDocument, has_last_row, is_at_sequence}
use Rattle.file_check.proofs.Assembled.{In, all_at, each_in, found_one}

module _ (trees : Trees) (h : IsWellFormed trees) where
  database_there : (d : Row) → In (trees dbs_tree) d → finite.get (contents_in trees) (name_of d) ≡ Some (database_of_row trees d)
  database_there d i =
      database_found trees (name_of d)
      ∙ ap (option_map (database_of_row trees)) (slice_get-filter (is_named (name_of d)) (trees dbs_tree) ∙ found_one (is_named (name_of d)) (trees dbs_tree) d (one_named (trees dbs_tree) h.names_apart (name_of d)) i ((bytes_eq-Decides (name_of d) (name_of d)).1 refl))

  own_id : (n : ℤ) (r : Row) → db_of r ≡ n → is_row_of_document n (id_of r) r ≡ true
  own_id n r is = rw ((Decides-int_eq (db_of r) n).1 is, (bytes_eq-Decides (id_of r) (id_of r)).1 refl) refl

  document_there : (d r : Row) → In (trees docs_tree) r → db_of r ≡ number_of d → finite.get (database_of_row trees d).documents (id_of r) ≡ Some (document_of_row (trees revs_tree) r)
  document_there d r i is =
      get_id (number_of d) (id_of r) (document_of_row (trees revs_tree)) (trees docs_tree)
      ∙ ap (option_map (document_of_row (trees revs_tree))) (slice_get-filter (is_row_of_document (number_of d) (id_of r)) (trees docs_tree) ∙ found_one (is_row_of_document (number_of d) (id_of r)) (trees docs_tree) r (one_of (trees docs_tree) h.ids_apart (number_of d) (id_of r)) i (own_id (number_of d) r is))

  history_written : AreLawful (contents_in trees) → (r : Row) → In (trees docs_tree) r → IsDocumentRow trees r → IsWritten (history_in_rows (trees revs_tree) (db_of r) (id_of r))
  history_written lawful r i k = by (find (has_number (db_of r)) (trees dbs_tree)) refl (sym (any_is_found (has_number (db_of r)) (trees dbs_tree)) ∙ k.there)
    where
      by : (o : Option Row) → find (has_number (db_of r)) (trees dbs_tree) ≡ o → is_some o ≡ true → IsWritten (history_in_rows (trees revs_tree) (db_of r) (id_of r))
      by None is some = absurd cc
      by (Some d) is some =
          let at = find_found (In (trees dbs_tree)) (has_number (db_of r)) (trees dbs_tree) d (each_in (trees dbs_tree)) is in
          (lawful (name_of d) (database_of_row trees d) (database_there d at.0)).documents (id_of r) (document_of_row (trees revs_tree) r) (document_there d r i (sym (same_int (number_of d) (db_of r) at.1)))

  leaf_held : (r : Row) → In (trees docs_tree) r → IsDocumentRow trees r → (s : Revision) → IsTrue (is_leaf (history_in_rows (trees revs_tree) (db_of r) (id_of r)) s) → AreLawful (contents_in trees) → is_some (held_of (history_in_rows (trees revs_tree) (db_of r) (id_of r)) s) ≡ true
  leaf_held r i k s leaf lawful =
      let w = history_written lawful r i k in
      subst (λ (x : HistoryContent). is_some (held_of x s) ≡ true) (sym w.content) (leaf_is_held _ w.lawful s (subst (λ (x : HistoryContent). IsTrue (is_leaf x s)) w.content leaf))

  sound_document : (r : Row) → In (trees docs_tree) r → IsDocumentRow trees r → IsSoundDocument trees r
  sound_document r i k = record { row = k; leaves = λ s leaf. ∥∥₁_elim h.lawful (Bool-set _ _) (leaf_held r i k s leaf) }

  -- ---- where databases end

  sequence_of_cell : (d : Row) → IsDatabaseRow d → whole_in_cell (column d 4) ≡ pos (sequence_of_database d)
  sequence_of_cell d k = ap (λ x. whole_in_cell (column x 4)) k.is

  document_sequence : (r : Row) → IsDocumentRow trees r → whole_in_cell (column r 3) ≡ pos (sequence_of_row r)
  document_sequence r k = ap (λ x. whole_in_cell (column x 3)) k.is

  same_count : (m n : ℕ) → pos m ≡ pos n → m ≡ n
  same_count m n is = cc

  -- the row of a document at a database's sequence is that of its last one
  last_document : (d r : Row) → IsDatabaseRow d → In (trees docs_tree) r → is_at_sequence (number_of d) (whole_in_cell (column d 4)) r ≡ true → HasLast (database_of_row trees d)
  last_document d r k i at =
      let parts = and_parts (is_row_of_database (number_of d) r) _ at in
      let there = document_there d r i (same_int (db_of r) (number_of d) parts.0) in
      let sequence = same_int (whole_in_cell (column r 3)) (whole_in_cell (column d 4)) parts.1 in
      record {
        id = id_of r;
        document = document_of_row (trees revs_tree) r;
        there = there;
        sequence = same_count _ _ (sym (document_sequence r (all_at (IsDocumentRow trees) (trees docs_tree) r h.docs i)) ∙ sequence ∙ sequence_of_cell d k);
      }

  ends_where_sound : (d : Row) → IsSoundDatabase trees d → EndsAtLast (database_of_row trees d)
  ends_where_sound d k = by (int_eq (whole_in_cell (column d 4)) (pos 0)) refl (find at (trees docs_tree)) refl (ap (λ b. int_eq (whole_in_cell (column d 4)) (pos 0) || b) (sym (any_is_found at (trees docs_tree))) ∙ k.ends)
    where
      at : Row → Bool
      at = is_at_sequence (number_of d) (whole_in_cell (column d 4))

      by : (b : Bool) → int_eq (whole_in_cell (column d 4)) (pos 0) ≡ b → (o : Option Row) → find at (trees docs_tree) ≡ o → (int_eq (whole_in_cell (column d 4)) (pos 0) || is_some (find at (trees docs_tree))) ≡ true → EndsAtLast (database_of_row trees d)
      by true none o is ends = inl (same_count _ _ (sym (sequence_of_cell d k.row) ∙ same_int (whole_in_cell (column d 4)) (pos 0) none))
      by false some None is ends = absurd (false≢true (sym ((λ i. some i || is_some (is i))) ∙ ends))
      by false some (Some r) is ends = let found = find_found (In (trees docs_tree)) at (trees docs_tree) r (each_in (trees docs_tree)) is in inr (last_document d r k.row found.0 found.1)

  -- the databases of sound rows end at their last documents
  pub all_end : AllByRecursion (IsSoundDatabase trees) (trees dbs_tree) → AllEndAtLast (contents_in trees)
  all_end sound name db got =
      let found = mapped_some (database_of_row trees) _ db (sym (database_found trees name) ∙ got) in
      let it = find_found (IsSoundDatabase trees) (is_named name) (trees dbs_tree) found.0 sound (sym (slice_get-filter (is_named name) (trees dbs_tree)) ∙ found.1) in
      subst EndsAtLast found.2 (ends_where_sound found.0 it.0)

  any_at : (p : Row → Bool) (rows : List Row) (x : Row) → In rows x → p x ≡ true → list_any p rows ≡ true
  any_at p [] x i is = absurd i
  any_at p (r ∷ rows) x (inl e) is = ap (λ b. b || list_any p rows) (ap p e ∙ is)
  any_at p (r ∷ rows) x (inr i) is = ap (λ b. p r || b) (any_at p rows x i is) ∙ or_true (p r)
    where
      or_true : (b : Bool) → (b || true) ≡ true
      or_true true = refl
      or_true false = refl

  last_row : (d : Row) → IsDatabaseRow d → EndsAtLast (database_of_row trees d) → has_last_row trees d ≡ true
  last_row d k (inl none) = ap (λ b. b || list_any (is_at_sequence (number_of d) (whole_in_cell (column d 4))) (trees docs_tree)) ((Decides-int_eq (whole_in_cell (column d 4)) (pos 0)).1 (sequence_of_cell d k ∙ ap pos none))
  last_row d k (inr l) =
      let found = mapped_some (document_of_row (trees revs_tree)) _ l.document (sym (get_id (number_of d) l.id (document_of_row (trees revs_tree)) (trees docs_tree)) ∙ l.there) in
      let it = find_found (In (trees docs_tree)) (is_row_of_document (number_of d) l.id) (trees docs_tree) found.0 (each_in (trees docs_tree)) (sym (slice_get-filter (is_row_of_document (number_of d) l.id) (trees docs_tree)) ∙ found.1) in
      let own = and_parts (is_row_of_database (number_of d) found.0) _ it.1 in
      let sequence = document_sequence found.0 (all_at (IsDocumentRow trees) (trees docs_tree) found.0 h.docs it.0) ∙ ap pos (ap (λ (x : Document). x.sequence) found.2 ∙ l.sequence) ∙ sym (sequence_of_cell d k) in
      let there = any_at (is_at_sequence (number_of d) (whole_in_cell (column d 4))) (trees docs_tree) found.0 it.0 (λ i. own.0 i && (Decides-int_eq (whole_in_cell (column found.0 3)) (whole_in_cell (column d 4))).1 sequence i) in
      ap (λ b. int_eq (whole_in_cell (column d 4)) (pos 0) || b) there ∙ or_true (int_eq (whole_in_cell (column d 4)) (pos 0))
    where
      or_true : (b : Bool) → (b || true) ≡ true
      or_true true = refl
      or_true false = refl

  sound_database : ∥ AllEndAtLast (contents_in trees) ∥₁ → (d : Row) → In (trees dbs_tree) d → IsDatabaseRow d → IsSoundDatabase trees d
  sound_database ends d i k = record { row = k; ends = ∥∥₁_elim ends (Bool-set _ _) (λ all. last_row d k (all (name_of d) (database_of_row trees d) (database_there d i))) }

  -- each row is sound
  pub sound_where_laid : ∥ AllEndAtLast (contents_in trees) ∥₁ → HasSoundLocals trees
  sound_where_laid ends = record {
    before = record {
      before = record {
        before = record { version = h.version; dbs = all_both (In (trees dbs_tree)) IsDatabaseRow (IsSoundDatabase trees) (sound_database ends) (trees dbs_tree) (each_in (trees dbs_tree)) h.dbs };
        revs = h.revs;
      };
      docs = all_both (In (trees docs_tree)) (IsDocumentRow trees) (IsSoundDocument trees) sound_document (trees docs_tree) (each_in (trees docs_tree)) h.docs;
    };
    locals = h.locals;
  }

  -- and kept so
  pub kept_where_laid : AreKept trees
  kept_where_laid = record {
    meta = subst AreNumbered (sym h.version) (record { numbers = (refl, tt); rising = (tt, tt) });
    dbs = h.dbs_numbered;
    docs = h.docs_numbered;
    revs = h.revs_numbered;
    locals = h.locals_numbered;
    whole = all_weaker (IsRevisionRow trees) (λ r. length r ≡ 9) (λ r k. ap length k.is) (trees revs_tree) h.revs;
  }

-- ---- trees of tables

int_is : (v : Value) → IsTrue (is_int v) → v ≡ Int (whole_in_cell v)
int_is Null is = absurd cc
int_is (Int n) is = refl
int_is (Real x) is = absurd cc
int_is (Text t) is = absurd cc
int_is (Blob b) is = absurd cc

-- the numbers of the rows of a table rise in its tree
pub numbered_where_shaped : (rows : List Row) → IsShapedTree Table rows → AreNumbered rows
numbered_where_shaped rows h =
    let numbers = all_weaker (λ r. IsTrue (is_int (rowid r))) (λ r. rowid r ≡ Int (number_of r)) (λ r is. int_is (rowid r) is) rows h.1 in
    record {
      numbers = numbers;
      rising =
          both_in (λ r. rowid r ≡ Int (number_of r)) (λ a b. value_cmp (rowid a) (rowid b) ≡ Less) (λ a b. number_of a <ℤ number_of b)
          (λ a b k l below. lt_from_Less (number_of a) (number_of b) (sym (ap₂ value_cmp k l ∙ value_cmp-Int (number_of a) (number_of b)) ∙ below)) rows numbers h.0;
    }
