-- The databases that the tables hold after one is made.
use Rattle.tables.proofs.Common.{AllByRecursion, AreLawful, Bool, Changes, IsDatabaseNumber, IsDatabaseRow, IsWellFormed, IsLawful, IsStore, IsTrue, List, None, Row, Trees, [], admins_only, all-append, all_weaker, any_is_found, ap, arith, ascending-append, both_ways, bytes_eq, bytes_eq-Decides, canonical, closed_security, codes, contents_in, database_cells, database_of_row, database_row, db_of, dbs_tree, docs_tree, document_of_row, false, filter, filter_none, find, has_number, id_of, is_database_name, is_row_of_database, is_security, is_some, lawful_empty, lawful_insert, sequence_of_database, list_any, local_of, locals_tree, map, name_of, nat_list_cmp_total, new_database, next_number, none_from_any, number_of, option_map, pos, refl, revs_tree, security_of, subst, sym, with_cells, ℕ, ℤ, ∥∥₁_map, ◌++◌, ◌∙◌, ◌∷◌, ◌≡◌, ◌≢◌}
use Rattle.std.specs.FinMap as finite
use Rattle.sqlite.specs.Effect as sqlite
use Rattle.sqlite_keyed.proofs.KeyedLemmas.{int_eq_apart, next_key_is_free}
use Rattle.sqlite_keyed.proofs.SliceLemmas.{is_some-map}
use Rattle.tables.proofs.Kept.{numbered-with_cells}
use Rattle.tables.proofs.RowMaps.{find_push, get_rows, rows_pushed, text_exact, text_tests}
use Rattle.tables.proofs.Rests.{contents_same, dbs_laid, after_change, spelled, store_of, unchanged, with_rows}

abbrev named : List ℕ → Row → Bool
named q r = bytes_eq (name_of r) q

-- no row has the name, where there is no database of this name
unnamed : (trees : Trees) (name : List ℕ) → finite.get (contents_in trees) name ≡ None → AllByRecursion (λ r. named name r ≡ false) (trees dbs_tree)
unnamed trees name none =
    none_from_any (named name) (trees dbs_tree)
    (any_is_found (named name) (trees dbs_tree) ∙ sym (is_some-map (database_of_row trees) (find (named name) (trees dbs_tree)))
    ∙ ap is_some (sym (get_rows nat_list_cmp_total text_exact name_of named (text_tests name_of) (database_of_row trees) (trees dbs_tree) name) ∙ none))

group_is_lawful : IsLawful admins_only
unfolding lib.Utf8.encode
group_is_lawful = ((tt, tt), ((codes "roles", (refl, refl)), ((codes "_admin", (refl, refl)), tt), tt))

closed_is_lawful : IsLawful closed_security
unfolding lib.Utf8.encode
closed_is_lawful = (((refl, tt), (tt, tt)), ((codes "admins", (refl, refl)), group_is_lawful, ((codes "members", (refl, refl)), group_is_lawful, tt)))

-- ---- a new database

module _ (old new : sqlite.Database) (name : List ℕ) (h : IsStore old) (is_name : IsTrue (is_database_name name)) (none : finite.get (contents_in old.trees) name ≡ None)
    (c : Changes dbs_tree (with_cells (old.trees dbs_tree) (database_cells name (canonical closed_security) (pos 0))) old new) where
  abbrev rows : List Row
  rows = old.trees dbs_tree

  abbrev next : ℤ
  next = next_number rows

  abbrev new_row : Row
  new_row = database_row next name (canonical closed_security) (pos 0)

  abbrev made : Trees
  made = with_rows old.trees dbs_tree (rows ++ new_row ∷ [])

  is_closed : security_of new_row ≡ closed_security
  is_closed = spelled closed_security closed_is_lawful (omega arith)

  -- a known number is not the next, so no row of another table has that
  none_in : {P : Row → Type 0} (all : List Row) → ((r : Row) → P r → IsDatabaseNumber old.trees (db_of r)) → AllByRecursion P all → filter (is_row_of_database next) all ≡ []
  none_in {P} all there each = filter_none (is_row_of_database next) all (all_weaker P (λ r. is_row_of_database next r ≡ false) (λ r k.
      int_eq_apart (db_of r) next (λ same.
      both_ways (list_any (has_number next) rows) (any_is_found (has_number next) rows ∙ next_key_is_free number_of rows h.laid.dbs_numbered.rising) (subst (IsDatabaseNumber old.trees) same (there r k)))) all each)

  database_is : database_of_row made new_row ≡ new_database
  database_is =
      let none_local = none_in (old.trees locals_tree) (λ r k. k.there) h.laid.locals in
      let none_document = none_in (old.trees docs_tree) (λ r k. k.there) h.laid.docs in
      λ i. record {
        length = 0;
        security = is_closed i;
        locals = finite.from_entries (map (λ r. (id_of r, local_of r)) (none_local i));
        documents = finite.from_entries (map (λ r. (id_of r, document_of_row (old.trees revs_tree) r)) (none_document i));
      }

  made_contents : contents_in made ≡ finite.insert (contents_in old.trees) name new_database
  made_contents =
      rows_pushed nat_list_cmp_total text_exact name_of named (text_tests name_of) (database_of_row made) rows new_row (unnamed old.trees name none) ∙ ap (finite.insert (contents_in old.trees) name) database_is

  made_laid : IsWellFormed made
  made_laid =
      dbs_laid old.trees (rows ++ new_row ∷ []) h.laid (numbered-with_cells rows _ h.laid.dbs_numbered)
      (all-append IsDatabaseRow rows (new_row ∷ []) h.laid.dbs
      (record { is = ap (λ v. database_row next name (canonical v) (pos 0)) (sym is_closed); named = is_name; security = subst (λ v. IsTrue (is_security v)) (sym is_closed) refl; bounded = omega arith }, tt))
      (ascending-append (λ a b. name_of a ≢ name_of b) rows (new_row ∷ []) h.laid.names_apart (tt, tt)
      (all_weaker (λ r. named name r ≡ false) (λ r. AllByRecursion (λ b. name_of r ≢ name_of b) (new_row ∷ []))
      (λ r apart. (λ same. both_ways (named name r) apart ((bytes_eq-Decides (name_of r) name).1 same), tt)) rows (unnamed old.trees name none)))
      (λ n there. ap (option_map sequence_of_database) (find_push (has_number n) rows new_row there))
      (∥∥₁_map h.laid.lawful (λ l. subst AreLawful (sym made_contents) (lawful_insert (contents_in old.trees) name new_database l (lawful_empty closed_security))))

  pub new_store : IsStore new × (contents_in new.trees ≡ finite.insert (contents_in old.trees) name new_database)
  new_store =
      let same = after_change old.trees old new dbs_tree _ _ h.schema_is (unchanged old.trees) c refl in
      (store_of made new (c.schema ∙ h.schema_is) same made_laid, contents_same made new.trees same ∙ made_contents)
