-- Tables that are checked one after the other.
use Rattle.tables.proofs.Common.{AllByRecursion, AreNumbered, Database, Int, IsPermutation, List, MatchOption, None, Option, Row, Some, Trees, [], all-slice_get, ap, drop, find, has_number, inl, inr, length, meta_tree, number_of, one_permutation, refl, subst, sym, version_row, whole_in_cell, ℕ, ◌+◌, ◌∙◌, ◌∷◌, ◌≡◌, ◌≤◌}
use Rattle.std.proofs.lemmas.List.Sorted.{IsPermutation-sym}
use Rattle.file_check.specs.Tables.{AreShaped, AreSoundRows, AreTablesChecked, HasSoundDatabases, HasSoundDocuments, HasSoundLocals, HasSoundRevisions, HasVersionCells, IsShaped, tree_of}
use Rattle.file_check.specs.inner.Queries.{AreRowsChecked, HasCells, IsBefore, IsThisVersion}
use Rattle.file_check.specs.declared.finding.Finding.{Finding}
use Rattle.file_check.specs.declared.finding.Table.TheVariants as table
use Rattle.file_check.specs.declared.layout.checked.Checked.{Checked}
use Rattle.file_check.specs.declared.layout.checked.Checked.TheVariants.{Databases, Documents, Locals, Revisions}

pub cells_of : (trees : Trees) → AreShaped trees → (table : Checked) → AllByRecursion (HasCells table) (trees (tree_of table))
cells_of trees shaped Databases = shaped.dbs
cells_of trees shaped Documents = shaped.docs
cells_of trees shaped Revisions = shaped.revs
cells_of trees shaped Locals = shaped.locals

pub numbered_rows : (trees : Trees) → AreShaped trees → (of : Checked) → AreNumbered (trees (tree_of of))
numbered_rows trees shaped Databases = shaped.kept.dbs
numbered_rows trees shaped Documents = shaped.kept.docs
numbered_rows trees shaped Revisions = shaped.kept.revs
numbered_rows trees shaped Locals = shaped.kept.locals

pub version_found : (d : Database) → IsShaped d → (items shown : List Row) → shown ≡ items → IsPermutation (d.trees meta_tree) items → (found : Option Finding)
    → MatchOption found (IsThisVersion shown) (λ f. (f.table ≡ table.Meta) × (¬ IsThisVersion shown)) → AreTablesChecked (λ trees. trees meta_tree ≡ version_row 2 ∷ []) d.trees found
version_found d fit items shown is same (Some f) k =
    inl (record {
      of_table = k.0;
      fails = λ version.
          let there : IsPermutation (version_row 2 ∷ []) shown = subst (λ l. IsPermutation l shown) version (subst (IsPermutation (d.trees meta_tree)) (sym is) same) in
          k.1 (record { row = version_row 2; is = one_permutation (version_row 2) shown there; number = refl; version = refl });
    })
version_found d fit items shown is same None k =
    let there : IsPermutation (d.trees meta_tree) (k.row ∷ []) = subst (IsPermutation (d.trees meta_tree)) (sym is ∙ k.is) same in
    let one : d.trees meta_tree ≡ k.row ∷ [] = one_permutation k.row (d.trees meta_tree) (IsPermutation-sym (d.trees meta_tree) (k.row ∷ []) there) in
    let cells : HasVersionCells k.row = (subst (AllByRecursion HasVersionCells) one fit.shaped.meta).0 in
    let row : k.row ≡ version_row 2 = cells ∙ (λ i. Int (whole_in_cell (k.number i)) ∷ Int (whole_in_cell (k.version i)) ∷ []) in
    one ∙ (λ i. row i ∷ [])

-- ---- one table after the other

-- what is answered of a table, where nothing was wrong before; or the finding stands
abbrev pub IsNextChecked : Checked → Trees → Option Finding → Option Finding → Type 0
IsNextChecked of trees found all = MatchOption found (IsBefore of trees → AreRowsChecked of trees all) (λ f. all ≡ Some f)

pub next_stops : (trees : Trees) (of : Checked) (found : Option Finding) (f : Finding) → found ≡ Some f → IsNextChecked of trees found (Some f)
next_stops trees of found f is = subst (λ o. IsNextChecked of trees o (Some f)) (sym is) refl

pub next_found : (trees : Trees) (of : Checked) (found all : Option Finding) → found ≡ None → (IsBefore of trees → AreRowsChecked of trees all) → IsNextChecked of trees found all
next_found trees of found all none h = subst (λ o. IsNextChecked of trees o all) (sym none) h

both_checked : (of : Checked) (trees : Trees) (Before After : Trees → Type 0) → (Before trees → IsBefore of trees) → (Before trees → AreSoundRows of trees → After trees) → (found : Option Finding) → AreTablesChecked Before trees found
    → (all : Option Finding) → IsNextChecked of trees found all → AreTablesChecked After trees all
both_checked of trees Before After known joins (Some f) k all next = subst (AreTablesChecked After trees) (sym next) k
both_checked of trees Before After known joins None k None next = joins k (next (known k))
both_checked of trees Before After known joins None k (Some f) next = inr (of, next (known k))

pub databases_next : (trees : Trees) (found : Option Finding) → AreTablesChecked (λ t. t meta_tree ≡ version_row 2 ∷ []) trees found → (all : Option Finding) → IsNextChecked Databases trees found all → AreTablesChecked HasSoundDatabases trees all
databases_next trees found = both_checked Databases trees (λ t. t meta_tree ≡ version_row 2 ∷ []) HasSoundDatabases (λ k. tt) (λ k rows. record { version = k; dbs = rows }) found

pub revisions_next : (trees : Trees) (found : Option Finding) → AreTablesChecked HasSoundDatabases trees found → (all : Option Finding) → IsNextChecked Revisions trees found all → AreTablesChecked HasSoundRevisions trees all
revisions_next trees found = both_checked Revisions trees HasSoundDatabases HasSoundRevisions (λ k. tt) (λ k rows. record { before = k; revs = rows }) found

pub documents_next : (trees : Trees) (found : Option Finding) → AreTablesChecked HasSoundRevisions trees found → (all : Option Finding) → IsNextChecked Documents trees found all → AreTablesChecked HasSoundDocuments trees all
documents_next trees found = both_checked Documents trees HasSoundRevisions HasSoundDocuments (λ k. k.revs) (λ k rows. record { before = k; docs = rows }) found

pub locals_next : (trees : Trees) (found : Option Finding) → AreTablesChecked HasSoundDocuments trees found → (all : Option Finding) → IsNextChecked Locals trees found all → AreTablesChecked HasSoundLocals trees all
locals_next trees found = both_checked Locals trees HasSoundDocuments HasSoundLocals (λ k. tt) (λ k rows. record { before = k; locals = rows }) found
