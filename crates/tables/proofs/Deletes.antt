-- What a DELETE by tests on one table leaves of it.
use Rattle.tables.proofs.Common.{AllByRecursion, AreKeyed, AreNumbered, Blob, Bool, Changes, Delete, Err, Int, List, Ok, OnOk, Ran, Result, Row, State, Table, Term, [], all_of, col, false, filter, filter_none, holds, is_row_of_database, is_row_of_document, list_all, not, overlay, refl, rowid, schema, subst, true, ℕ, ℤ, ◌∷◌, ◌≡◌}
use Rattle.tables.proofs.Cells.{by_db, by_id, tests_db, tests_id}
use Rattle.tables.proofs.Numbered.{numbered_from_keyed, removes}
use Rattle.tables.proofs.Queries.{program_on, selects}
use Rattle.tables.proofs.Writes.{IsPlainTable, IsCommand, deletes}

-- the rows that pass are gone, and the others stay
pub deletes_where : {X E : Type 0} (at : ℕ) (table : Table) → IsPlainTable schema at table → (old new : State) → old.now.schema ≡ schema → {text : List ℕ} {tests : List Term}
    → IsCommand schema text (Delete at (program_on table.tree tests (col 1 0 ∷ []) [])) → (params : Row) (p : Row → Bool) → overlay old.now.trees [] table.tree ≡ old.now.trees table.tree
    → AreNumbered (old.now.trees table.tree) → AllByRecursion (λ r. list_all (holds (params ∷ r ∷ [])) tests ≡ p r) (old.now.trees table.tree)
    → (r : Result X E) → OnOk r (Ran text params old new) → OnOk r (Changes table.tree (filter (λ l. not (p l)) (old.now.trees table.tree)) old.now new.now)
deletes_where at table it old new has command params p bare numbered passes (Err e) h = tt
deletes_where at table it old new has {text} {tests} command params p bare numbered passes (Ok x) h =
    let done = deletes schema at table it old new has text (program_on table.tree tests (col 1 0 ∷ []) []) command params h in
    let found = selects tests params p table.tree (col 1 0 ∷ []) [] (λ r. rowid r ∷ []) (record { schema = schema; trees = old.now.trees }) bare (λ r. refl) passes done.0 done.1 in
    subst (λ l. Changes table.tree l old.now new.now) (removes p (old.now.trees table.tree) done.0 numbered found) done.2

-- without a test all rows are gone
pub empties : {X E : Type 0} (at : ℕ) (table : Table) → IsPlainTable schema at table → (old new : State) → old.now.schema ≡ schema → {text : List ℕ} → IsCommand schema text (Delete at (program_on table.tree [] (col 1 0 ∷ []) []))
    → overlay old.now.trees [] table.tree ≡ old.now.trees table.tree → AreNumbered (old.now.trees table.tree) → (r : Result X E) → OnOk r (Ran text [] old new) → OnOk r (Changes table.tree [] old.now new.now)
empties at table it old new has command bare numbered r h =
    let rows = old.now.trees table.tree in
    subst (λ l. OnOk r (Changes table.tree l old.now new.now)) (filter_none (λ x. false) rows (all_of (λ x. false ≡ false) (λ x. refl) rows))
    (deletes_where at table it old new has command [] (λ x. true) bare numbered (all_of (λ x. true ≡ true) (λ x. refl) rows) r h)

-- of a table that names the database and the id: the rows of an id, and all rows of a database
module _ {X E : Type 0} (at : ℕ) (table : Table) (it : IsPlainTable schema at table) (old new : State) (has : old.now.schema ≡ schema)
    (bare : overlay old.now.trees [] table.tree ≡ old.now.trees table.tree) (keyed : AreKeyed (old.now.trees table.tree)) {text : List ℕ} where
  pub deletes_id : IsCommand schema text (Delete at (program_on table.tree by_id (col 1 0 ∷ []) [])) → (db : ℤ) (id : List ℕ) (r : Result X E) → OnOk r (Ran text (Int db ∷ Blob id ∷ []) old new)
      → OnOk r (Changes table.tree (filter (λ l. not (is_row_of_document db id l)) (old.now.trees table.tree)) old.now new.now)
  deletes_id command db id = deletes_where at table it old new has command (Int db ∷ Blob id ∷ []) (is_row_of_document db id) bare (numbered_from_keyed _ keyed) (tests_id db id [] _ keyed)

  pub clears : IsCommand schema text (Delete at (program_on table.tree by_db (col 1 0 ∷ []) [])) → (db : ℤ) (r : Result X E) → OnOk r (Ran text (Int db ∷ []) old new)
      → OnOk r (Changes table.tree (filter (λ l. not (is_row_of_database db l)) (old.now.trees table.tree)) old.now new.now)
  clears command db = deletes_where at table it old new has command (Int db ∷ []) (is_row_of_database db) bare (numbered_from_keyed _ keyed) (tests_db db _ keyed)
