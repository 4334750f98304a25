-- What the query that counts the entries of a range answers.
use Rattle.index.proofs.Common.{Blob, HasIndexRows, IfOk, Int, IsCommand, List, Result, Row, Select, Shown, State, [], codes, entries_tree, everything, refl, schema, understood, ℕ, ℤ, ◌∷◌, ◌≡◌}
use Rattle.index.proofs.RangeStatements.{by_bounds, tests_bounds}
use Rattle.index.specs.Rows.{count_of, is_entry_between}
use Rattle.tables.proofs.Counts.{count_program, counts}
use Rattle.tables.specs.Listings.{shown_count}

abbrev pub count_text : List ℕ
count_text = codes "SELECT COUNT(*) FROM entries WHERE decl = ?1 AND k >= ?2 AND k < ?3"

pub count_is : IsCommand schema count_text (Select (count_program entries_tree by_bounds) (codes "COUNT(*)" ∷ []))
unfolding understood everything
count_is = record { is = refl; plain = (refl, refl); unlisted = refl }

pub counts_entries : {X E : Type 0} (old new : State) → HasIndexRows old.now → (declaration : ℤ) (low high : List ℕ) (r : Result X E) (items : X → List Row)
    → IfOk r (λ x. Shown count_text (Int declaration ∷ Blob low ∷ Blob high ∷ []) old new (items x)) → IfOk r (λ x. items x ≡ shown_count (count_of declaration low high (old.now.trees entries_tree)) ∷ [])
counts_entries old new is declaration low high =
    counts old new is.schema_is count_is (Int declaration ∷ Blob low ∷ Blob high ∷ []) (is_entry_between declaration low high) refl (tests_bounds declaration low high [] _ is.entries)
