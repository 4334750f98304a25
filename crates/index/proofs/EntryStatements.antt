-- What the statements on entries mean.
use Rattle.index.proofs.Common.{AllByRecursion, AreEntryRows, AreNumbered, Blob, Delete, Eq, Insert, Int, IsCommand, IsEntryRow, List, Null, Row, Term, Values, [], all_weaker, ap, by_db, cast_int, cast_null, cast_row, codes, col, column, compares, declaration_of, entries_table, entries_tree, entry_cells, entry_id, everything, holds, int_by, is_entry_in, is_entry_of, key_of, last_term, list_all, lit, number_of, program_on, refl, rowid, same_blob, schema, then_term, understood, ℕ, ℤ, ◌∷◌, ◌≡◌}

abbrev pub by_entry : List Term
by_entry = compares Eq 1 0 ∷ compares Eq 2 1 ∷ compares Eq 3 2 ∷ []

pub numbered_entries : (rows : List Row) → AreEntryRows rows → AreNumbered rows
numbered_entries rows h = record { numbers = all_weaker IsEntryRow (λ r. rowid r ≡ Int (number_of r)) (λ r k. ap rowid k) rows h.each; rising = h.rising }

pub tests_declaration : (declaration : ℤ) (rows : List Row) → AreEntryRows rows → AllByRecursion (λ r. list_all (holds ((Int declaration ∷ []) ∷ r ∷ [])) by_db ≡ is_entry_in declaration r) rows
tests_declaration declaration rows h =
    all_weaker IsEntryRow (λ r. list_all (holds ((Int declaration ∷ []) ∷ r ∷ [])) by_db ≡ is_entry_in declaration r)
    (λ r k. last_term (int_by Eq (column r 1) (declaration_of r) declaration (ap (λ x. column x 1) k))) rows h.each

pub tests_entry : (declaration : ℤ) (k id : List ℕ) (rows : List Row) → AreEntryRows rows
    → AllByRecursion (λ r. list_all (holds ((Int declaration ∷ Blob k ∷ Blob id ∷ []) ∷ r ∷ [])) by_entry ≡ is_entry_of declaration k id r) rows
tests_entry declaration k id rows h =
    all_weaker IsEntryRow (λ r. list_all (holds ((Int declaration ∷ Blob k ∷ Blob id ∷ []) ∷ r ∷ [])) by_entry ≡ is_entry_of declaration k id r)
    (λ r is. then_term (int_by Eq (column r 1) (declaration_of r) declaration (ap (λ x. column x 1) is))
    (then_term (same_blob (column r 2) (key_of r) k (ap (λ x. column x 2) is)) (last_term (same_blob (column r 3) (entry_id r) id (ap (λ x. column x 3) is))))) rows h.each

pub inserts_entry : IsCommand schema (codes "INSERT INTO entries (decl, k, id) VALUES (?1, ?2, ?3)") (Insert 6 (Values (lit Null ∷ col 0 0 ∷ col 0 1 ∷ col 0 2 ∷ []) 4))
unfolding understood everything
inserts_entry = record { is = refl; plain = (refl, refl); unlisted = refl }

pub deletes_entry : IsCommand schema (codes "DELETE FROM entries WHERE decl = ?1 AND k = ?2 AND id = ?3") (Delete 6 (program_on entries_tree by_entry (col 1 0 ∷ []) []))
unfolding understood everything
deletes_entry = record { is = refl; plain = (refl, refl); unlisted = refl }

pub clears_entries : IsCommand schema (codes "DELETE FROM entries WHERE decl = ?1") (Delete 6 (program_on entries_tree by_db (col 1 0 ∷ []) []))
unfolding understood everything
clears_entries = record { is = refl; plain = (refl, refl); unlisted = refl }

pub cast_entry : (declaration : ℤ) (k id : List ℕ) → cast_row entries_table (Null ∷ entry_cells declaration k id) ≡ Null ∷ entry_cells declaration k id
cast_entry declaration k id = λ i. cast_null i ∷ cast_int declaration i ∷ Blob k ∷ Blob id ∷ []
