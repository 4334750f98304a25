-- What the rows of a query by key say of the tables.
use Rattle.tables.proofs.Common.{Bool, IsPermutation, List, Row, Trees, [], ap, cond, dbs_tree, docs_tree, false, filter, has_number, is_row_of_document, length, id_of, int_eq, is_row_of_database, length-map, length_permutation, list_any, list_any-IsPermutation, listed_document, map, option_map, refl, revs_tree, slice_get, slice_get-filter, true, ℕ, ℤ, ◌∙◌, ◌∷◌, ◌≡◌, ◌||◌, arith, nat_tests, bytes, bytes_eq, column, sym, whole_in_cell, ◌&&◌}
use Rattle.std.specs.Prelude.{nat_lt}
use Rattle.file_check.specs.inner.Queries.{is_numbered, is_shown_hash, is_stored, length_at, length_shown, shown_length, shown_numbered, shown_sequence, shown_stored}
use Rattle.file_check.specs.Tables.{is_at_sequence}

first_shown : (rows : List Row) → length_shown (map shown_length rows) ≡ option_map (λ d. whole_in_cell (column d 4)) (slice_get rows 0)
first_shown [] = refl
first_shown (d ∷ rows) = refl

pub lengths_found : (trees : Trees) (db : ℤ) (rows : List Row) → rows ≡ map shown_length (filter (has_number db) (trees dbs_tree)) → length_shown rows ≡ length_at trees db
lengths_found trees db rows is =
    ap length_shown is ∙ first_shown (filter (has_number db) (trees dbs_tree))
    ∙ ap (option_map (λ d. whole_in_cell (column d 4))) (slice_get-filter (has_number db) (trees dbs_tree))

some_left : (p : Row → Bool) (rows : List Row) → nat_lt 0 (length (filter p rows)) ≡ list_any p rows
some_left p [] = refl
some_left p (r ∷ rows) = by (p r) (some_left p rows)
  where
    by : (b : Bool) → nat_lt 0 (length (filter p rows)) ≡ list_any p rows → nat_lt 0 (length (cond b (r ∷ filter p rows) (filter p rows))) ≡ (b || list_any p rows)
    by true rest = grind (arith, nat_tests)
    by false rest = rest

pub documents_found : (trees : Trees) (db : ℤ) (id : List ℕ) (rows : List Row) → rows ≡ map listed_document (filter (is_row_of_document db id) (trees docs_tree)) → nat_lt 0 (length rows) ≡ list_any (is_row_of_document db id) (trees docs_tree)
documents_found trees db id rows is =
    ap (λ l. nat_lt 0 (length l)) is ∙ ap (nat_lt 0) (length-map (filter (is_row_of_document db id) (trees docs_tree)) listed_document) ∙ some_left (is_row_of_document db id) (trees docs_tree)

pub sequences_found : (trees : Trees) (db sequence : ℤ) (rows : List Row) → IsPermutation (map shown_sequence (filter (is_at_sequence db sequence) (trees docs_tree))) rows
    → nat_lt 0 (length rows) ≡ list_any (is_at_sequence db sequence) (trees docs_tree)
sequences_found trees db sequence rows same =
    ap (nat_lt 0) (length_permutation _ rows same ∙ length-map (filter (is_at_sequence db sequence) (trees docs_tree)) shown_sequence) ∙ some_left (is_at_sequence db sequence) (trees docs_tree)

pub stored_found : (trees : Trees) (db : ℤ) (id : List ℕ) (number : ℤ) (hash : List ℕ) (rows : List Row) → IsPermutation (map shown_stored (filter (is_stored db id number hash) (trees revs_tree))) rows
    → nat_lt 0 (length rows) ≡ list_any (is_stored db id number hash) (trees revs_tree)
stored_found trees db id number hash rows same =
    ap (nat_lt 0) (length_permutation _ rows same ∙ length-map (filter (is_stored db id number hash) (trees revs_tree)) shown_stored) ∙ some_left (is_stored db id number hash) (trees revs_tree)

-- ---- hashes that are compared

any_shown : (hash : List ℕ) (p : Row → Bool) (rows : List Row) → list_any (is_shown_hash hash) (map shown_numbered (filter p rows)) ≡ list_any (λ r. p r && bytes_eq (bytes (column r 4)) hash) rows
any_shown hash p [] = refl
any_shown hash p (r ∷ rows) = by (p r) (any_shown hash p rows)
  where
    by : (b : Bool) → list_any (is_shown_hash hash) (map shown_numbered (filter p rows)) ≡ list_any (λ x. p x && bytes_eq (bytes (column x 4)) hash) rows
        → list_any (is_shown_hash hash) (map shown_numbered (cond b (r ∷ filter p rows) (filter p rows))) ≡ ((b && bytes_eq (bytes (column r 4)) hash) || list_any (λ x. p x && bytes_eq (bytes (column x 4)) hash) rows)
    by true rest = ap (λ more. bytes_eq (bytes (column r 4)) hash || more) rest
    by false rest = rest

regrouped : (a b c d : Bool) → ((a && (b && c)) && d) ≡ (a && (b && (c && d)))
regrouped true true c d = refl
regrouped true false c d = refl
regrouped false b c d = refl

pub hashes_found : (trees : Trees) (db : ℤ) (id : List ℕ) (number : ℤ) (hash : List ℕ) (rows : List Row) → IsPermutation (map shown_numbered (filter (is_numbered db id number) (trees revs_tree))) rows
    → list_any (is_shown_hash hash) rows ≡ list_any (is_stored db id number hash) (trees revs_tree)
hashes_found trees db id number hash rows same =
    sym (list_any-IsPermutation (is_shown_hash hash) (map shown_numbered (filter (is_numbered db id number) (trees revs_tree))) rows same) ∙ any_shown hash (is_numbered db id number) (trees revs_tree)
    ∙ (λ i. list_any (λ r. regrouped (is_row_of_database db r) (bytes_eq (id_of r) id) (int_eq (whole_in_cell (column r 3)) number) (bytes_eq (bytes (column r 4)) hash) i) (trees revs_tree))
