-- The databases that the tables hold after one is removed with all its rows.
use Rattle.tables.proofs.Common.{AllByRecursion, AreLawful, Changes, IsDatabaseRow, IsDocumentRow, IsWellFormed, IsLocalRow, IsRevisionRow, IsStore, List, Row, Some, Trees, all-filter, all_of, all_weaker, and_parts, ap, ap₂, ascending-filter, bytes_eq, contents_in, database_of_row, db_of, dbs_tree, docs_tree, document_of_row, documents_in_rows, entry_of, false, filter, has_number, history_in_rows, id_of, is_row_of_database, is_named, is_row_of_document, lawful_remove, sequence_of_database, list_any, local_of, locals_tree, map, name_of, nat_list_cmp_total, not, not_from_false, number_of, option_map, refl, revision_of_row, revs_tree, same_int, security_of, slice_get, subst, sym, true, ℕ, ℤ, ∥∥₁_map, ◌∙◌, ◌≡◌, ◌≢◌}
use Rattle.std.specs.FinMap as finite
use Rattle.std.specs.Ordering.{int_eq}
use Rattle.sqlite.specs.Effect as sqlite
use Rattle.tables.proofs.Kept.{numbered-filter}
use Rattle.tables.proofs.Lookups.{by_number}
use Rattle.std.proofs.lemmas.Map.Views.{any-filter_same}
use Rattle.sqlite_trees.proofs.ListLemmas.{filter_same as filter_on}
use Rattle.tables.proofs.RowMaps.{all_left, filter_apart, find_apart, passing, rows_alike, rows_removed, text_exact, text_tests}
use Rattle.tables.proofs.Rests.{contents_same, document_kept, length_at, local_kept, after_change, revision_kept, store_of, unchanged, with_rows}

module _ (n : ℤ) where
  -- the rows that aren't the database's
  abbrev outside : List Row → List Row
  outside rows = filter (λ r. not (is_row_of_database n r)) rows

  module _ (m : ℤ) (apart : int_eq m n ≡ false) where
    in_other : (r : Row) → is_row_of_database m r ≡ true → is_row_of_database n r ≡ false
    in_other r here = ap (λ k. int_eq k n) (same_int (db_of r) m here) ∙ apart

    of_other : (id : List ℕ) (r : Row) → is_row_of_document m id r ≡ true → is_row_of_database n r ≡ false
    of_other id r here = in_other r (and_parts (is_row_of_database m r) (bytes_eq (id_of r) id) here).0

    -- of another database they are all there
    others_in : (rows : List Row) → filter (is_row_of_database m) (outside rows) ≡ filter (is_row_of_database m) rows
    others_in = filter_apart (is_row_of_database m) (is_row_of_database n) in_other

    others_of : (id : List ℕ) (rows : List Row) → filter (is_row_of_document m id) (outside rows) ≡ filter (is_row_of_document m id) rows
    others_of id = filter_apart (is_row_of_document m id) (is_row_of_database n) (of_other id)

    any_other : (id : List ℕ) (rows : List Row) → list_any (is_row_of_document m id) (outside rows) ≡ list_any (is_row_of_document m id) rows
    any_other id rows = any-filter_same (is_row_of_document m id) (λ r. not (is_row_of_database n r)) true (λ r here. not_from_false (is_row_of_database n r) (of_other id r here)) rows

    other_length : (rows : List Row) → length_at (filter (λ r. not (has_number n r)) rows) m ≡ length_at rows m
    other_length rows = ap (option_map sequence_of_database) (find_apart (λ r. int_eq (number_of r) m) (has_number n) (λ r here. ap (λ k. int_eq k n) (same_int (number_of r) m here) ∙ apart) rows)

    other_history : (id : List ℕ) (rows : List Row) → history_in_rows (outside rows) m id ≡ history_in_rows rows m id
    other_history id rows = ap (λ l. finite.from_entries (map (λ r. (revision_of_row r, entry_of r)) l)) (others_of id rows)

    other_document : (revs : List Row) (r : Row) → is_row_of_database m r ≡ true → document_of_row (outside revs) r ≡ document_of_row revs r
    other_document revs r here =
        let own : db_of r ≡ m = same_int (db_of r) m here in
        ap (λ h. record (document_of_row revs r) { history = h }) (subst (λ k. history_in_rows (outside revs) k (id_of r) ≡ history_in_rows revs k (id_of r)) (sym own) (other_history (id_of r) revs))

    other_documents : (docs revs : List Row) → documents_in_rows (outside docs) (outside revs) m ≡ documents_in_rows docs revs m
    other_documents docs revs =
        ap (λ l. finite.from_entries (map (λ r. (id_of r, document_of_row (outside revs) r)) l)) (others_in docs)
        ∙ rows_alike nat_list_cmp_total text_exact id_of (λ q r. bytes_eq (id_of r) q) (text_tests id_of) (document_of_row (outside revs)) (document_of_row revs) (filter (is_row_of_database m) docs)
        (all_weaker (λ r. is_row_of_database m r ≡ true) (λ r. document_of_row (outside revs) r ≡ document_of_row revs r) (other_document revs) (filter (is_row_of_database m) docs) (passing (is_row_of_database m) docs))

module _ (a b c d e : sqlite.Database) (name : List ℕ) (w : Row) (h : IsStore a) (is : slice_get (filter (is_named name) (a.trees dbs_tree)) 0 ≡ Some w)
    (docs : Changes docs_tree (filter (λ r. not (is_row_of_database (number_of w) r)) (a.trees docs_tree)) a b) (revs : Changes revs_tree (filter (λ r. not (is_row_of_database (number_of w) r)) (b.trees revs_tree)) b c)
    (locals : Changes locals_tree (filter (λ r. not (is_row_of_database (number_of w) r)) (c.trees locals_tree)) c d) (dbs : Changes dbs_tree (filter (λ r. not (has_number (number_of w) r)) (d.trees dbs_tree)) d e) where
  abbrev n : ℤ
  n = number_of w

  abbrev rows : List Row
  rows = filter (λ r. not (has_number (number_of w) r)) (a.trees dbs_tree)

  abbrev removed : Trees
  removed = with_rows (with_rows (with_rows (with_rows a.trees docs_tree (outside n (a.trees docs_tree))) revs_tree (outside n (a.trees revs_tree))) locals_tree (outside n (a.trees locals_tree))) dbs_tree rows

  -- ---- contents

  same_database : (r : Row) → has_number n r ≡ false → database_of_row removed r ≡ database_of_row a.trees r
  same_database r apart =
      ap₂ (λ locals documents. record { length = sequence_of_database r; security = security_of r; locals = locals; documents = documents })
      (ap (λ l. finite.from_entries (map (λ s. (id_of s, local_of s)) l)) (others_in n (number_of r) apart (a.trees locals_tree)))
      (other_documents n (number_of r) apart (a.trees docs_tree) (a.trees revs_tree))

  removed_contents : contents_in removed ≡ finite.remove (contents_in a.trees) name
  removed_contents =
      rows_alike nat_list_cmp_total text_exact name_of (λ q r. bytes_eq (name_of r) q) (text_tests name_of) (database_of_row removed) (database_of_row a.trees) rows
      (all_left (λ r. database_of_row removed r ≡ database_of_row a.trees r) (has_number n) (a.trees dbs_tree) (all_of (λ r. has_number n r ≡ false → database_of_row removed r ≡ database_of_row a.trees r) same_database (a.trees dbs_tree)))
      ∙ ap (λ l. finite.from_entries (map (λ r. (name_of r, database_of_row a.trees r)) l))
      (filter_on (λ r. not (has_number n r)) (λ r. not (is_named name r)) (a.trees dbs_tree)
      (all_weaker (λ r. is_named name r ≡ has_number n r) (λ r. not (has_number n r) ≡ not (is_named name r)) (λ r same. ap not (sym same)) (a.trees dbs_tree) (by_number a.trees h.laid name w is)))
      ∙ rows_removed nat_list_cmp_total text_exact name_of (λ q r. bytes_eq (name_of r) q) (text_tests name_of) (database_of_row a.trees) name (a.trees dbs_tree)

  -- ---- layout

  outside_all : (P Q : Row → Type 0) (all : List Row) → ((r : Row) → P r → int_eq (db_of r) n ≡ false → Q r) → AllByRecursion P all → AllByRecursion Q (outside n all)
  outside_all P Q all keeps each =
      all_left Q (is_row_of_database n) all (all_weaker P (λ r. is_row_of_database n r ≡ false → Q r) keeps all each)

  removed_laid : IsWellFormed removed
  removed_laid = record {
    version = h.laid.version;
    dbs_numbered = numbered-filter (λ r. not (has_number n r)) (a.trees dbs_tree) h.laid.dbs_numbered;
    docs_numbered = numbered-filter (λ r. not (is_row_of_database n r)) (a.trees docs_tree) h.laid.docs_numbered;
    revs_numbered = numbered-filter (λ r. not (is_row_of_database n r)) (a.trees revs_tree) h.laid.revs_numbered;
    locals_numbered = numbered-filter (λ r. not (is_row_of_database n r)) (a.trees locals_tree) h.laid.locals_numbered;
    dbs = all-filter IsDatabaseRow (λ r. not (has_number n r)) (a.trees dbs_tree) h.laid.dbs;
    names_apart = ascending-filter (λ a b. name_of a ≢ name_of b) (λ r. not (has_number n r)) (a.trees dbs_tree) h.laid.names_apart;
    docs = outside_all (IsDocumentRow a.trees) (IsDocumentRow removed) (a.trees docs_tree)
        (λ r k out. document_kept a.trees removed r (other_length n (db_of r) out (a.trees dbs_tree)) (other_history n (db_of r) out (id_of r) (a.trees revs_tree)) k) h.laid.docs;
    ids_apart = ascending-filter _ (λ r. not (is_row_of_database n r)) (a.trees docs_tree) h.laid.ids_apart;
    sequences_apart = ascending-filter _ (λ r. not (is_row_of_database n r)) (a.trees docs_tree) h.laid.sequences_apart;
    revs = outside_all (IsRevisionRow a.trees) (IsRevisionRow removed) (a.trees revs_tree)
        (λ r k out. revision_kept a.trees removed r (any_other n (db_of r) out (id_of r) (a.trees docs_tree)) (other_history n (db_of r) out (id_of r) (a.trees revs_tree)) k) h.laid.revs;
    revisions_apart = ascending-filter _ (λ r. not (is_row_of_database n r)) (a.trees revs_tree) h.laid.revisions_apart;
    locals = outside_all (IsLocalRow a.trees) (IsLocalRow removed) (a.trees locals_tree) (λ r k out. local_kept a.trees removed r (other_length n (db_of r) out (a.trees dbs_tree)) k) h.laid.locals;
    local_ids_apart = ascending-filter _ (λ r. not (is_row_of_database n r)) (a.trees locals_tree) h.laid.local_ids_apart;
    lawful = ∥∥₁_map h.laid.lawful (λ l. subst AreLawful (sym removed_contents) (lawful_remove (contents_in a.trees) name l));
  }

  pub removed_store : IsStore e × (contents_in e.trees ≡ finite.remove (contents_in a.trees) name)
  removed_store =
      let has_b = docs.schema ∙ h.schema_is in
      let has_c = revs.schema ∙ has_b in
      let has_d = locals.schema ∙ has_c in
      let one = after_change a.trees a b docs_tree _ _ h.schema_is (unchanged a.trees) docs refl in
      let two = after_change _ b c revs_tree _ _ has_b one revs (ap (outside n) one.revs) in
      let three = after_change _ c d locals_tree _ _ has_c two locals (ap (outside n) two.locals) in
      let same = after_change _ d e dbs_tree _ _ has_d three dbs (ap (filter (λ r. not (has_number n r))) three.dbs) in
      (store_of removed e (dbs.schema ∙ has_d) same removed_laid, contents_same removed e.trees same ∙ removed_contents)
