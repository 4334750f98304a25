-- The databases that the tables hold after a local document of one is written.
use Rattle.tables.proofs.Common.{AreLawful, Changes, IsDocumentRow, IsWellFormed, IsLawful, IsLocalDocument, IsLocalRow, IsRevisionRow, IsStore, IsTrue, List, LocalDocument, Row, Some, Trees, [], all-append, all-filter, all_weaker, ap, arith, canonical, contents_in, database_of_row, dbs_tree, docs_tree, filter, is_document_id, is_named, is_row_of_document, lawful_insert, lawful_local, local_cells, local_of, local_row, locals_in, locals_tree, next_number, not, number_of, option_map, refl, revs_tree, slice_get, subst, sym, with_cells, with_local, ℕ, ℤ, ∥∥₁_map, ◌++◌, ◌∙◌, ◌∷◌, ◌≡◌}
use Rattle.std.specs.FinMap as finite
use Rattle.sqlite.specs.Effect as sqlite
use Rattle.tables.proofs.Kept.{numbered-filter, numbered-with_cells}
use Rattle.tables.proofs.Lookups.{database_there, number_there, one_changed}
use Rattle.tables.proofs.ReplacedRows.{ids_stay_apart, other_values, own_values}
use Rattle.tables.proofs.Rests.{contents_same, document_kept, local_kept, after_change, revision_kept, spelled, store_of, unchanged, with_rows}

module _ (a b c : sqlite.Database) (name : List ℕ) (d : Row) (id : List ℕ) (document : LocalDocument) (h : IsStore a) (is : slice_get (filter (is_named name) (a.trees dbs_tree)) 0 ≡ Some d)
    (is_id : IsTrue (is_document_id id)) (local : IsLocalDocument id document) (lawful : IsLawful document.body)
    (first : Changes locals_tree (filter (λ r. not (is_row_of_document (number_of d) id r)) (a.trees locals_tree)) a b)
    (second : Changes locals_tree (with_cells (b.trees locals_tree) (local_cells (number_of d) id document.number (canonical document.body))) b c) where
  abbrev n : ℤ
  n = number_of d

  abbrev rows : List Row
  rows = a.trees locals_tree

  abbrev kept : List Row
  kept = filter (λ r. not (is_row_of_document n id r)) rows

  abbrev new_row : Row
  new_row = local_row (next_number kept) n id document.number (canonical document.body)

  abbrev written : Trees
  written = with_rows (with_rows a.trees locals_tree kept) locals_tree (kept ++ new_row ∷ [])

  document_is : local_of new_row ≡ document
  document_is = ap (λ v. record { number = document.number; body = v }) (spelled document.body lawful (omega (arith, local.body.shallow)))

  written_contents : contents_in written ≡ finite.insert (contents_in a.trees) name (with_local (database_of_row a.trees d) id document)
  written_contents =
      one_changed a.trees h.laid name d is (database_of_row written) (with_local (database_of_row a.trees d) id document)
      (ap (λ l. record (database_of_row a.trees d) { locals = l }) (own_values rows n id new_row refl refl local_of local_of (λ r out. refl) ∙ ap (finite.insert (locals_in rows n) id) document_is))
      (λ r apart. ap (λ l. record (database_of_row a.trees r) { locals = finite.from_entries l }) (other_values rows n id new_row refl refl local_of (number_of r) apart))

  -- ---- layout

  row_is : IsLocalRow written new_row
  row_is = record {
    is = ap (λ (x : LocalDocument). local_row (next_number kept) n id x.number (canonical x.body)) (sym document_is);
    there = number_there a.trees h.laid name d is;
    named = is_id;
    local = subst (λ (x : LocalDocument). IsLocalDocument id x) (sym document_is) local;
  }

  written_laid : IsWellFormed written
  written_laid =
      let l = h.laid in
      record {
        version = l.version;
        dbs_numbered = l.dbs_numbered;
        docs_numbered = l.docs_numbered;
        revs_numbered = l.revs_numbered;
        locals_numbered = numbered-with_cells kept _ (numbered-filter (λ r. not (is_row_of_document n id r)) rows l.locals_numbered);
        dbs = l.dbs;
        names_apart = l.names_apart;
        docs = all_weaker (IsDocumentRow a.trees) (IsDocumentRow written) (λ r. document_kept a.trees written r refl refl) (a.trees docs_tree) l.docs;
        ids_apart = l.ids_apart;
        sequences_apart = l.sequences_apart;
        revs = all_weaker (IsRevisionRow a.trees) (IsRevisionRow written) (λ r. revision_kept a.trees written r refl refl) (a.trees revs_tree) l.revs;
        revisions_apart = l.revisions_apart;
        locals = all-append (IsLocalRow written) kept (new_row ∷ [])
            (all-filter (IsLocalRow written) (λ r. not (is_row_of_document n id r)) rows (all_weaker (IsLocalRow a.trees) (IsLocalRow written) (λ r. local_kept a.trees written r refl) rows l.locals)) (row_is, tt);
        local_ids_apart = ids_stay_apart rows n id new_row refl refl l.local_ids_apart;
        lawful = ∥∥₁_map l.lawful (λ was.
            subst AreLawful (sym written_contents)
            (lawful_insert (contents_in a.trees) name (with_local (database_of_row a.trees d) id document) was
            (lawful_local (database_of_row a.trees d) id document (was name (database_of_row a.trees d) (database_there a.trees l name d is)) local)));
      }

  pub written_store : IsStore c × (option_map (λ db. finite.insert (contents_in a.trees) name (with_local db id document)) (finite.get (contents_in a.trees) name) ≡ Some (contents_in c.trees))
  written_store =
      let one = after_change a.trees a b locals_tree _ _ h.schema_is (unchanged a.trees) first refl in
      let has = first.schema ∙ h.schema_is in
      let same = after_change _ b c locals_tree _ _ has one second (ap (λ l. with_cells l (local_cells (number_of d) id document.number (canonical document.body))) one.locals) in (
        store_of written c (second.schema ∙ has) same written_laid,
        ap (option_map (λ db. finite.insert (contents_in a.trees) name (with_local db id document))) (database_there a.trees h.laid name d is)
            ∙ ap Some (sym (contents_same written c.trees same ∙ written_contents)),
      )
