-- What a row belongs to is there.
use Rattle.tables.proofs.Common.{AllByRecursion, Blob, Bool, Database, Err, HistoryContent, IfOk, Int, IsDatabaseNumber, IsDatabaseRow, IsLocalRow, IsPermutation, IsRevisionRow, List, None, Null, Ok, Option, Real, Result, Revision, Row, Some, Text, Trees, Value, any_is_found, ap, arith, column, count_in_cell, database_row_at, db_of, dbs_tree, filter, has_number, history_in_rows, id_of, inside, ints, is_gone_row, is_row_of_document, is_some, sequence_of_database, map, nat_tests, negsuc, option_map, pos, refl, revision_of_row, revs_tree, sequence_of_row, shown_revision, subst, sym, true, whole_in_cell, winner_text, ℕ, ℤ, ◌∙◌, ◌≡◌, ◌≢◌, ◌≤◌}
use Rattle.std.specs.Ordering.{int_eq}
use Rattle.std.specs.List.{list_any}
use Rattle.std.specs.Prelude.{int_le, ◌||◌}
use Rattle.tables.specs.Rows.{number_of}
use Rattle.tables.specs.Schema.{docs_tree}
use Rattle.tables.proofs.Sorted.{both_in}
use Rattle.tables.specs.Shown.{IsShownRevision}
use Rattle.transactions.specs.Reading.{history_shown}
use Rattle.transactions.proofs.HistoryRows.{AreApart, history_apart}
use Rattle.file_check.proofs.ShownRevisions.{rows_intact}
use Rattle.file_check.specs.inner.Rows.{IsEndedDatabase, IsLawfulDocument, IsLawfulLocal, IsOwnedDocument, IsWinning}
use Rattle.file_check.specs.Tables.{AreShaped, HasDatabaseCells, HasDocumentCells, HasHeldLeaves, HasLocalCells, IsShaped, IsSoundDatabase, IsSoundDocument, is_at_sequence, stored_revision}
use Rattle.file_check.specs.inner.Queries.{Judges, length_at}
use Rattle.file_check.specs.declared.finding.CheckFault.{CheckFault}
use Rattle.file_check.specs.declared.finding.Wrong.{Wrong}

some_mapped : {A B : Type 0} (f : A → B) (o : Option A) → is_some (option_map f o) ≡ is_some o
some_mapped f None = refl
some_mapped f (Some x) = refl

pub number_there : (trees : Trees) (db : ℤ) → is_some (length_at trees db) ≡ true → IsDatabaseNumber trees db
number_there trees db some = any_is_found (has_number db) (trees dbs_tree) ∙ sym (some_mapped (λ d. whole_in_cell (column d 4)) (database_row_at (trees dbs_tree) db)) ∙ some

there_number : (trees : Trees) (db : ℤ) → IsDatabaseNumber trees db → is_some (length_at trees db) ≡ true
there_number trees db there = some_mapped (λ d. whole_in_cell (column d 4)) (database_row_at (trees dbs_tree) db) ∙ sym (any_is_found (has_number db) (trees dbs_tree)) ∙ there

local_of_database : (trees : Trees) (r : Row) → IsDatabaseNumber trees (db_of r) → IsLawfulLocal r → IsLocalRow trees r
local_of_database trees r there k = record { is = k.is; there = there; named = k.named; local = k.local }

lawful_local : (trees : Trees) (r : Row) → IsLocalRow trees r → IsLawfulLocal r
lawful_local trees r k = record { is = k.is; named = k.named; local = k.local }

pub judged_local : (trees : Trees) (r : Row) (there : Bool) → there ≡ is_some (length_at trees (db_of r)) → (judged : Result (Option Wrong) CheckFault) → (HasLocalCells r → IfOk judged (Judges ((there ≡ true) × IsLawfulLocal r)))
    → IfOk judged (λ found. HasLocalCells r → Judges (IsLocalRow trees r) found)
judged_local trees r there is (Err e) judge = tt
judged_local trees r there is (Ok (Some w)) judge = λ cells k. judge cells (is ∙ there_number trees (db_of r) k.there, lawful_local trees r k)
judged_local trees r there is (Ok None) judge = λ cells. let k = judge cells in local_of_database trees r (number_there trees (db_of r) (sym is ∙ k.0)) k.1

-- ---- documents

count_of_whole : (v : Value) (s : ℕ) → int_le (pos s) (whole_in_cell v) ≡ true → s ≤ count_in_cell v
count_of_whole Null s h = grind (arith, ints, nat_tests, h)
count_of_whole (Int (pos n)) s h = grind (arith, ints, nat_tests, h)
count_of_whole (Int (negsuc n)) s h = grind (arith, ints, nat_tests, h)
count_of_whole (Real x) s h = grind (arith, ints, nat_tests, h)
count_of_whole (Text t) s h = grind (arith, ints, nat_tests, h)
count_of_whole (Blob b) s h = grind (arith, ints, nat_tests, h)

sequence_within : (trees : Trees) (r d : Row) (length : Option ℤ) (n : ℤ) → length ≡ length_at trees (db_of r) → length ≡ Some n → whole_in_cell (column r 3) ≡ pos (sequence_of_row r) → int_le (whole_in_cell (column r 3)) n ≡ true
    → database_row_at (trees dbs_tree) (db_of r) ≡ Some d → sequence_of_row r ≤ sequence_of_database d
sequence_within trees r d length n is some counted low found =
    let same : n ≡ whole_in_cell (column d 4) = inside n (whole_in_cell (column d 4)) (sym some ∙ is ∙ ap (option_map (λ x. whole_in_cell (column x 4))) found) in
    count_of_whole (column d 4) (sequence_of_row r) (ap (λ k. int_le k (whole_in_cell (column d 4))) (sym counted) ∙ ap (int_le (whole_in_cell (column r 3))) (sym same) ∙ low)

document_of_database : (trees : Trees) (r : Row) (length : Option ℤ) (rows : List Row) → length ≡ length_at trees (db_of r) → AreApart (trees revs_tree)
    → IsPermutation (map shown_revision (filter (is_row_of_document (db_of r) (id_of r)) (trees revs_tree))) rows → IsLawfulDocument r → IsOwnedDocument r length (history_shown rows) → IsSoundDocument trees r
document_of_database trees r length rows is apart same lawful k =
    let h = history_in_rows (trees revs_tree) (db_of r) (id_of r) in
    let made : history_shown rows ≡ h = history_apart trees (db_of r) (id_of r) rows apart same in
    let winning : IsWinning h (winner_text r) (is_gone_row r) = subst (λ (x : HistoryContent). IsWinning x (winner_text r) (is_gone_row r)) made k.winning in
    record {
      row = record {
        is = lawful.is;
        there = number_there trees (db_of r) (ap is_some (sym is ∙ k.within.1));
        named = lawful.named;
        apart = lawful.apart;
        text = lawful.text;
        positive = lawful.positive;
        within = λ d found. sequence_within trees r d length k.within.0 is k.within.1 (ap (λ x. whole_in_cell (column x 3)) lawful.is) k.within.2 found;
        won = winning.won;
        gone = winning.marked;
      };
      leaves = subst HasHeldLeaves made k.leaves;
    }

apart_where_sound : (trees : Trees) → AreShaped trees → AllByRecursion (IsRevisionRow trees) (trees revs_tree) → AreApart (trees revs_tree)
apart_where_sound trees shaped sound =
    both_in (IsRevisionRow trees) (λ a b. db_of a ≡ db_of b → id_of a ≡ id_of b → stored_revision a ≢ stored_revision b) (λ a b. db_of a ≡ db_of b → id_of a ≡ id_of b → revision_of_row a ≢ revision_of_row b)
    (λ a b k l apart db_same id_same same_revision.
    let number = ap (λ x. whole_in_cell (column x 3)) k.is ∙ ap (λ (q : Revision). pos q.number) same_revision ∙ sym (ap (λ x. whole_in_cell (column x 3)) l.is) in
    let hash = ap (λ (q : Revision). q.hash) same_revision in
    apart db_same id_same (λ i. (number i, hash i))) (trees revs_tree) sound shaped.revisions_apart

-- ---- and a sound document passes

whole_of_count : (v : Value) (s : ℕ) → 1 ≤ s → s ≤ count_in_cell v → int_le (pos s) (whole_in_cell v) ≡ true
whole_of_count Null s low h = absurd (omega (arith, low, h))
whole_of_count (Int (pos n)) s low h = grind (arith, ints, nat_tests, h)
whole_of_count (Int (negsuc n)) s low h = absurd (omega (arith, low, h))
whole_of_count (Real x) s low h = absurd (omega (arith, low, h))
whole_of_count (Text t) s low h = absurd (omega (arith, low, h))
whole_of_count (Blob b) s low h = absurd (omega (arith, low, h))

module _ (trees : Trees) (r : Row) (length : Option ℤ) (is : length ≡ length_at trees (db_of r)) (k : IsSoundDocument trees r) where
  lawful_document : IsLawfulDocument r
  lawful_document = record { is = k.row.is; named = k.row.named; apart = k.row.apart; text = k.row.text; positive = k.row.positive }

  within_its : (n : ℤ) × (length ≡ Some n) × (int_le (whole_in_cell (column r 3)) n ≡ true)
  within_its = by (database_row_at (trees dbs_tree) (db_of r)) refl (sym (any_is_found (has_number (db_of r)) (trees dbs_tree)) ∙ k.row.there)
    where
      by : (o : Option Row) → database_row_at (trees dbs_tree) (db_of r) ≡ o → is_some o ≡ true → (n : ℤ) × (length ≡ Some n) × (int_le (whole_in_cell (column r 3)) n ≡ true)
      by None found some = absurd cc
      by (Some d) found some = (
        whole_in_cell (column d 4),
        is ∙ ap (option_map (λ x. whole_in_cell (column x 4))) found,
        ap (λ n. int_le n (whole_in_cell (column d 4))) (ap (λ x. whole_in_cell (column x 3)) k.row.is) ∙ whole_of_count (column d 4) (sequence_of_row r) k.row.positive (k.row.within d found),
      )

  owned_where_sound : (rows : List Row) → AreApart (trees revs_tree) → IsPermutation (map shown_revision (filter (is_row_of_document (db_of r) (id_of r)) (trees revs_tree))) rows → IsOwnedDocument r length (history_shown rows)
  owned_where_sound rows apart same =
      let h = history_in_rows (trees revs_tree) (db_of r) (id_of r) in
      let made : h ≡ history_shown rows = sym (history_apart trees (db_of r) (id_of r) rows apart same) in
      let own : IsWinning h (winner_text r) (is_gone_row r) = record { won = k.row.won; marked = k.row.gone } in
      record {
        within = within_its;
        winning = subst (λ (x : HistoryContent). IsWinning x (winner_text r) (is_gone_row r)) made own;
        leaves = subst HasHeldLeaves made k.leaves;
      }

pub judged_document : (d : Database) (r : Row) (length : Option ℤ) (rows : List Row) → IsShaped d → IsPermutation (map shown_revision (filter (is_row_of_document (db_of r) (id_of r)) (d.trees revs_tree))) rows → (judged : Result (Option Wrong) CheckFault)
    → (HasDocumentCells r → AllByRecursion IsShownRevision rows → IfOk judged (Judges (IsLawfulDocument r × IsOwnedDocument r length (history_shown rows))))
    → IfOk judged (λ found. HasDocumentCells r → length ≡ length_at d.trees (db_of r) → AllByRecursion (IsRevisionRow d.trees) (d.trees revs_tree) → Judges (IsSoundDocument d.trees r) found)
judged_document d r length rows fit same (Err e) judge = tt
judged_document d r length rows fit same (Ok (Some w)) judge = λ cells is sound k.
    judge cells (rows_intact d.trees (is_row_of_document (db_of r) (id_of r)) rows sound same) (lawful_document d.trees r length is k, owned_where_sound d.trees r length is k rows (apart_where_sound d.trees fit.shaped sound) same)
judged_document d r length rows fit same (Ok None) judge = λ cells is sound.
    let k = judge cells (rows_intact d.trees (is_row_of_document (db_of r) (id_of r)) rows sound same) in
    document_of_database d.trees r length rows is (apart_where_sound d.trees fit.shaped sound) same k.0 k.1

-- ---- databases

judged_ends : (r : Row) (there there_now : Bool) → there ≡ there_now → IsEndedDatabase r there → (int_eq (whole_in_cell (column r 4)) (pos 0) || there_now) ≡ true
judged_ends r there there_now is k = ap (λ b. int_eq (whole_in_cell (column r 4)) (pos 0) || b) (sym is) ∙ k.ends

pub judged_database : (trees : Trees) (r : Row) (there : Bool) → there ≡ list_any (is_at_sequence (number_of r) (whole_in_cell (column r 4))) (trees docs_tree) → (judged : Result (Option Wrong) CheckFault)
    → (HasDatabaseCells r → IfOk judged (Judges (IsEndedDatabase r there))) → IfOk judged (λ found. HasDatabaseCells r → Judges (IsSoundDatabase trees r) found)
judged_database trees r there is (Err e) judge = tt
judged_database trees r there is (Ok (Some w)) judge = λ cells k. judge cells (record { row = k.row; ends = ap (λ b. int_eq (whole_in_cell (column r 4)) (pos 0) || b) is ∙ k.ends })
judged_database trees r there is (Ok None) judge = λ cells. let k = judge cells in record { row = k.row; ends = judged_ends r there _ is k }
