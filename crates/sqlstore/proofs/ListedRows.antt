-- The rows of a list of documents: that they are intact, and what pages they make.
use Rattle.sqlstore.proofs.Common.{All, AllByRecursion, Bool, Coded, Coded-set, HistoryContent, IdRow, IndexPlace, IsDatabaseRow, IsDocumentRow, IsWellFormed, IsListedDocument, IsSequenceRow, List, None, Option, Ordering, Revision, Row, SeqRange, SeqRow, SequenceRow, Some, Trees, [], all-filter, all_both, all_map, any_is_found, ap, arith, by_sequence, code_by, coded_bool, coded_list, coded_option, coded_ℕ, coded×, cond, db_of, dbs_tree, docs_tree, drop, drop_all, false, filter, get_or, get_or-map, has_number, is_row_of_database, is_some, last_sequence, later_rows, leaves_row, length, length-map, listed_by_sequence, listed_document, map, map-map, nat_lt, page_with_leaves, place_code, refl, revision_code, revs_tree, sequence_of_row, sequence_page, sequence_row, sort_by, sym, true, up_to_limit, with_leaves, ℕ, ℤ, ◌++◌, ◌+◌, ◌<◌, ◌^◌, ◌∙◌, ◌∷◌, ◌≡◌, ◌≤◌}
use Rattle.std.proofs.lemmas.List.{append_assoc, append-nil, take-map}
use Rattle.store.specs.contracts.listing.DocumentCounts as document_counts
use Rattle.store.specs.contracts.listing.IdRow as id_row
use Rattle.store.specs.declared.listing.DocumentCounts.{DocumentCounts}
use Rattle.store.specs.declared.listing.RowCounts.{RowCounts}
use Rattle.tables.proofs.ListingRows.{rows_of_a_listing}
use Rattle.tables.proofs.RowMaps.{find_found}
use Rattle.tables.proofs.Sorted.{all_sorted}
use Rattle.tables.specs.Layout.{database_row_at}

-- ---- rows are told apart by numbers

row_code : Coded SequenceRow
row_code =
    code_by (ℕ × (List ℕ × (List Revision × Bool))) (coded× coded_ℕ (coded× (coded_list coded_ℕ) (coded× (coded_list revision_code) coded_bool)))
    (λ r. (r.sequence, (r.id, (r.revs, r.deleted)))) (λ p. record { sequence = p.0; id = p.1.0; revs = p.1.1.0; deleted = p.1.1.1 }) (λ _. refl)

pub sequence_rows_set : IsSet (List SequenceRow)
sequence_rows_set = Coded-set (coded_list row_code)

pub id_rows_set : IsSet (List IdRow)
id_rows_set = Coded-set (coded_list id_row.the_row.coded)

pub counts_set : IsSet DocumentCounts
counts_set = Coded-set document_counts.the_row.coded

pub counts_code : Coded RowCounts
counts_code = code_by (ℕ × ℕ) (coded× coded_ℕ coded_ℕ) (λ c. (c.offset, c.total)) (λ p. record { offset = p.0; total = p.1 }) (λ _. refl)

pub row_counts_set : IsSet (Option RowCounts)
row_counts_set = Coded-set (coded_option counts_code)

pub places_set : IsSet (List IndexPlace)
places_set = Coded-set (coded_list place_code)

-- ---- the rows are intact

pub listed_intact : (by : Row → Row → Ordering) (trees : Trees) (db : ℤ) → IsWellFormed trees → AllByRecursion IsListedDocument (map listed_document (sort_by by (filter (is_row_of_database db) (trees docs_tree))))
listed_intact by trees db l =
    all_map IsListedDocument listed_document _ (all_sorted (λ r. IsListedDocument (listed_document r)) by _ (all-filter (λ r. IsListedDocument (listed_document r)) (is_row_of_database db) _ (rows_of_a_listing trees l)))

some_there : {A : Type 0} (o : Option A) → is_some o ≡ true → (x : A) × (o ≡ Some x)
some_there None h = absurd (cc)
some_there (Some x) h = (x, refl)

small_sequence : (trees : Trees) → IsWellFormed trees → (r : Row) → IsDocumentRow trees r → sequence_of_row r < 2 ^ 63
small_sequence trees l r k =
    let d = some_there (database_row_at (trees dbs_tree) (db_of r)) (sym (any_is_found (has_number (db_of r)) (trees dbs_tree)) ∙ k.there) in
    let bounded = (find_found IsDatabaseRow (has_number (db_of r)) (trees dbs_tree) d.0 l.dbs d.1).0.bounded in
    omega (arith, k.within d.0 d.1, bounded)

pub sequences_intact : (trees : Trees) (db : ℤ) → IsWellFormed trees → AllByRecursion IsSequenceRow (listed_by_sequence trees db)
sequences_intact trees db l =
    let P : Row → Type 0 = λ r. IsSequenceRow (listed_document r) in
    let each : AllByRecursion (λ r. IsSequenceRow (listed_document r)) (trees docs_tree) =
    all_both (λ r. IsListedDocument (listed_document r)) (IsDocumentRow trees) P (λ r listed k. record { listed = listed; small = small_sequence trees l r k }) (trees docs_tree) (rows_of_a_listing trees l) l.docs in
    all_map IsSequenceRow listed_document _ (all_sorted P by_sequence _ (all-filter P (is_row_of_database db) _ each))

-- ---- leaves in the place of winners

module _ (history : List ℕ → HistoryContent) where
  kept : (b : Bool) (r : SequenceRow) (rs ts : List SequenceRow) → ts ≡ map (with_leaves history) rs → cond b (with_leaves history r ∷ ts) ts ≡ map (with_leaves history) (cond b (r ∷ rs) rs)
  kept true r rs ts h = ap (λ l. with_leaves history r ∷ l) h
  kept false r rs ts h = h

  later_kept : (since : ℕ) (rs : List SequenceRow) → filter (λ r. nat_lt since r.sequence) (map (with_leaves history) rs) ≡ map (with_leaves history) (filter (λ r. nat_lt since r.sequence) rs)
  later_kept since [] = refl
  later_kept since (r ∷ rs) = kept (nat_lt since r.sequence) r (filter (λ q. nat_lt since q.sequence) rs) _ (later_kept since rs)

  limited : (limit : Option ℕ) (rs : List SequenceRow) → up_to_limit limit (map (with_leaves history) rs) ≡ map (with_leaves history) (up_to_limit limit rs)
  limited None rs = refl
  limited (Some n) rs = take-map (with_leaves history) n rs

  last_kept : (otherwise : ℕ) (rs : List SequenceRow) → last_sequence otherwise (map (with_leaves history) rs) ≡ last_sequence otherwise rs
  last_kept otherwise [] = refl
  last_kept otherwise (r ∷ rs) = last_kept r.sequence rs

  cut_kept : (range : SeqRange) (rs : List SequenceRow) → later_rows range (map (with_leaves history) rs) ≡ map (with_leaves history) (later_rows range rs)
  cut_kept range rs = ap (up_to_limit range.limit) (later_kept range.since rs) ∙ limited range.limit (filter (λ r. nat_lt range.since r.sequence) rs)

  pub page_kept : (range : SeqRange) (sequence : ℕ) (counts : Option DocumentCounts) (rs : List SequenceRow)
      → sequence_page range sequence counts (map (with_leaves history) rs) ≡ page_with_leaves history (sequence_page range sequence counts rs)
  page_kept range sequence counts rs =
      let rows = cut_kept range rs in
      let last = ap (last_sequence _) rows ∙ last_kept _ (later_rows range rs) in
      λ i. record { rows = rows i; last = last i; sequence = sequence; counts = counts }

pub leaves_rows : (trees : Trees) (db : ℤ) (rows : List Row) → map (leaves_row (trees revs_tree) db) rows ≡ map (with_leaves (Rattle.tables.specs.Rows.history_in_rows (trees revs_tree) db)) (map sequence_row rows)
leaves_rows trees db rows = sym (map-map (with_leaves (Rattle.tables.specs.Rows.history_in_rows (trees revs_tree) db)) sequence_row rows)

-- ---- a list that is made of another, an element at a time

pub one_more : {A B : Type 0} (f : A → B) (all : List A) (i : ℕ) (a : A) (done new : List B) → drop i all ≡ a ∷ drop (i + 1) all → new ≡ done ++ f a ∷ [] → done ++ map f (drop i all) ≡ map f all
    → new ++ map f (drop (i + 1) all) ≡ map f all
one_more f all i a done new next pushed h =
    ap (λ l. l ++ map f (drop (i + 1) all)) pushed ∙ append_assoc done (f a ∷ []) (map f (drop (i + 1) all)) ∙ sym (ap (λ l. done ++ map f l) next) ∙ h

pub all_done : {A B : Type 0} (f : A → B) (all : List A) (i : ℕ) (done : List B) → length all ≤ i → done ++ map f (drop i all) ≡ map f all → done ≡ map f all
all_done f all i done le h = sym (append-nil done) ∙ sym (ap (λ l. done ++ map f l) (drop_all i all le)) ∙ h

-- rows of the same sequences are below the same bound
pub below_again : (n : ℕ) (rows again : List SeqRow) → map (λ (r : SeqRow). r.sequence) again ≡ map (λ (r : SeqRow). r.sequence) rows → All (λ r. r.sequence < n) rows → All (λ r. r.sequence < n) again
below_again n rows again same all = λ k d lt.
    let number = λ (r : SeqRow). r.sequence in
    let long : length again ≡ length rows = sym (length-map again number) ∙ ap length same ∙ length-map rows number in
    let within : k < length rows = omega (arith, lt, long) in
    omega (arith, all k d within, get_or-map number again k d d.sequence lt, get_or-map number rows k d d.sequence within, ap (λ l. get_or l k d.sequence) same)
