-- The rows of the documents of a database, and what they say in a listing.
use Rattle.tables.proofs.Common.{AllByRecursion, Bool, Document, HistoryContent, IdRow, IsAscending, IsDocumentRow, IsWellFormed, IsListedDocument, IsPermutation-sort_by, IsRevisionRow, IsShownDocument, IsTotalOrder, List, None, Option, Ordering, Revision, Row, SequenceRow, Some, Trees, [], all-filter, all_both, all_of, all_weaker, ap, ap₂, arith, ascending_weaker, by_id, by_sequence, column, cond, database_of_row, db_of, docs_tree, document_counts, document_of_row, false, filter, gone_count, history_in_rows, id_of, in_sequence, is_eq, is_gone_row, is_gone_by, is_row_of_database, leaves, leaves_row, length, length-map, length_permutation, listed_counts, listed_document, listed_mark, live_count, live_rev, live_rev_by, live_row, live_rows, map, map-map, nat_cmp, nat_cmp-IsAntisymmetric, nat_cmp_total, nat_list_cmp_total, nat_tests, not, number_of, on_total, option_map, option_to_list, put_in_sequence, read_of_text, refl, revision_read, revs_tree, rows_of, same, same_int, sequence_of_row, sequence_row, shown_document, sort_by, subst, sum_by-IsPermutation, sym, true, winner, winner_text, with_row, ℕ, ℤ, ◌++◌, ◌+◌, ◌-◌, ◌∙◌, ◌∷◌, ◌≡◌, ◌≢◌}
use Rattle.std.proofs.Common.{count_by}
use Rattle.std.proofs.lemmas.List.Sums.{sum_by-cons}
use Rattle.std.specs.FinMap as finite
use Rattle.store.specs.Pages as pages
use Rattle.store.proofs.PageStructs.{no_length}
use Rattle.tables.proofs.Laid.{history, is_lawful_winner, shown_documents, stored_winner}
use Rattle.tables.proofs.ListingOrders.{ascending_within, entries_by_key, map_sorted}
use Rattle.tables.proofs.RowMaps.{passing, text_exact, untied}
use Rattle.tables.proofs.Sorted.{all_sorted}

module _ (trees : Trees) (db : ℤ) where
  abbrev pub documents_of : List Row
  documents_of = filter (is_row_of_database db) (trees docs_tree)

  -- two rows of one database
  together : (a b : Row) → is_row_of_database db a ≡ true → is_row_of_database db b ≡ true → db_of a ≡ db_of b
  together a b x y = same_int (db_of a) db x ∙ sym (same_int (db_of b) db y)

  pub ids_apart : IsWellFormed trees → IsAscending (λ a b. is_eq (by_id a b) ≡ false) documents_of
  ids_apart h =
      ascending_within (is_row_of_database db) (λ a b. is_eq (by_id a b) ≡ false) (trees docs_tree)
      (ascending_weaker (λ a b. db_of a ≡ db_of b → id_of a ≢ id_of b) (λ a b. is_row_of_database db a ≡ true → is_row_of_database db b ≡ true → is_eq (by_id a b) ≡ false)
      (λ a b apart x y. untied nat_list_cmp_total text_exact (id_of a) (id_of b) (apart (together a b x y))) (trees docs_tree) h.ids_apart)

pub documents_by_id : (trees : Trees) (d : Row) → IsWellFormed trees
    → finite.entries (database_of_row trees d).documents ≡ map (λ r. (id_of r, document_of_row (trees revs_tree) r)) (sort_by by_id (filter (is_row_of_database (number_of d)) (trees docs_tree)))
documents_by_id trees d h = entries_by_key nat_list_cmp_total text_exact id_of (document_of_row (trees revs_tree)) (documents_of trees (number_of d)) (ids_apart trees (number_of d) h)

-- ---- what a row says of its winner

module _ (trees : Trees) (laid : AllByRecursion (IsRevisionRow trees) (trees revs_tree)) (r : Row) (k : IsDocumentRow trees r) where
  marked : pages.is_gone (history trees laid r k) ≡ is_gone_row r
  marked =
      let w = stored_winner trees laid r k in
      ap (is_gone_by (history trees laid r k)) w.1 ∙ sym (k.gone w.0 w.1)

  -- the stored text spells the winner
  pub won : winner (history trees laid r k) ≡ revision_read (winner_text r)
  won =
      let w = stored_winner trees laid r k in
      w.1 ∙ sym (sym (ap revision_read w.2) ∙ read_of_text w.0 (is_lawful_winner trees laid r k))

-- ---- counts

counted : {A B : Type 0} (p : B → Bool) (q : A → Bool) (f : A → B) (xs : List A) → AllByRecursion (λ x. p (f x) ≡ q x) xs → count_by p (map f xs) ≡ count_by q xs
counted p q f [] all = refl
counted p q f (x ∷ xs) all =
    sum_by-cons (λ y. cond (p y) 1 0) (f x) (map f xs) ∙ ap₂ (λ b n. cond b 1 0 + n) all.0 (counted p q f xs all.1) ∙ sym (sum_by-cons (λ y. cond (q y) 1 0) x xs)

pub both_counted : {A : Type 0} (p : A → Bool) (xs : List A) → count_by p xs + count_by (λ x. not (p x)) xs ≡ length xs
both_counted p [] = omega arith
both_counted p (x ∷ xs) =
    let a = sum_by-cons (λ y. cond (p y) 1 0) x xs in
    let b = sum_by-cons (λ y. cond (not (p y)) 1 0) x xs in
    grind (arith, nat_tests, a, b, both_counted p xs)

module _ (trees : Trees) (d : Row) (h : IsWellFormed trees) where
  abbrev rows : List Row
  rows = documents_of trees (number_of d)

  abbrev pub entries : List (List ℕ × Document)
  entries = finite.entries (database_of_row trees d).documents

  rows_are : AllByRecursion (IsDocumentRow trees) rows
  rows_are = all-filter (IsDocumentRow trees) (is_row_of_database (number_of d)) (trees docs_tree) h.docs

  sorted_are : AllByRecursion (IsDocumentRow trees) (sort_by by_id rows)
  sorted_are = all_sorted (IsDocumentRow trees) by_id rows rows_are

  pub gone_documents : gone_count entries ≡ count_by is_gone_row rows
  gone_documents =
      ap gone_count (documents_by_id trees d h)
      ∙ counted (λ (e : List ℕ × Document). pages.is_gone e.1.history) is_gone_row (λ r. (id_of r, document_of_row (trees revs_tree) r)) (sort_by by_id rows)
      (all_weaker (IsDocumentRow trees) (λ r. pages.is_gone (history_in_rows (trees revs_tree) (db_of r) (id_of r)) ≡ is_gone_row r) (marked trees h.revs) (sort_by by_id rows) sorted_are)
      ∙ sym (sum_by-IsPermutation (λ r. cond (is_gone_row r) 1 0) (sort_by by_id rows) rows (IsPermutation-sort_by by_id (on_total id_of nat_list_cmp_total) rows))

  pub live_documents : live_count entries ≡ count_by (λ r. not (is_gone_row r)) rows
  live_documents =
      let long : length entries ≡ length rows =
      ap length (documents_by_id trees d h) ∙ length-map (sort_by by_id rows) (λ r. (id_of r, document_of_row (trees revs_tree) r))
      ∙ omega (arith, length_permutation (sort_by by_id rows) rows (IsPermutation-sort_by by_id (on_total id_of nat_list_cmp_total) rows)) in
      ap₂ (λ a b. a - b) long gone_documents ∙ omega (arith, both_counted is_gone_row rows)

  -- the counts by the rows of a list, in whatever order
  pub listed_documents : (by : Row → Row → Ordering) → IsTotalOrder by → document_counts entries ≡ listed_counts (map listed_document (sort_by by rows))
  listed_documents by total =
      let gone = gone_documents ∙ told is_gone_row listed_mark (λ r. refl) in
      let live = live_documents ∙ told (λ r. not (is_gone_row r)) (λ s. not (listed_mark s)) (λ r. refl) in
      λ i. record { documents = live i; deleted = gone i }
    where
      told : (p q : Row → Bool) → ((r : Row) → q (listed_document r) ≡ p r) → count_by p rows ≡ count_by q (map listed_document (sort_by by rows))
      told p q same =
          sum_by-IsPermutation (λ r. cond (p r) 1 0) (sort_by by rows) rows (IsPermutation-sort_by by total rows)
          ∙ sym (counted q p listed_document (sort_by by rows) (all_of (λ r. q (listed_document r) ≡ p r) same (sort_by by rows)))

pub counts_by_sequence : (trees : Trees) (d : Row) → IsWellFormed trees
    → document_counts (finite.entries (database_of_row trees d).documents) ≡ listed_counts (map listed_document (sort_by by_sequence (filter (is_row_of_database (number_of d)) (trees docs_tree))))
counts_by_sequence trees d h = listed_documents trees d h by_sequence (on_total sequence_of_row nat_cmp_total)

-- ---- rows of a listing by id

-- a row of a page, where the winner is not deleted
live_one : (h : HistoryContent) (r : Row) (rest : List IdRow) → winner h ≡ revision_read (winner_text r) → pages.is_gone h ≡ is_gone_row r
    → with_row (id_of r) (live_rev h) rest ≡ option_to_list (live_row (listed_document r)) ++ rest
live_one h r rest spells mark =
    subst (λ o. with_row (id_of r) (live_rev h) rest ≡ option_to_list (cond (is_gone_row r) None (option_map {U = IdRow} (λ w. record { id = id_of r; rev = w }) o)) ++ rest) spells (by (winner h) (is_gone_row r) mark)
  where
    by : (o : Option Revision) (b : Bool) → is_gone_by h o ≡ b → with_row (id_of r) (live_rev_by h o) rest ≡ option_to_list (cond b None (option_map {U = IdRow} (λ w. record { id = id_of r; rev = w }) o)) ++ rest
    by None true mark = refl
    by None false mark = refl
    by (Some w) true mark = rw mark
    by (Some w) false mark = rw mark

live_all : (trees : Trees) (rows : List Row) → AllByRecursion (IsRevisionRow trees) (trees revs_tree) → AllByRecursion (IsDocumentRow trees) rows
    → pages.live_rows (map (λ r. (id_of r, document_of_row (trees revs_tree) r)) rows) ≡ live_rows (map listed_document rows)
live_all trees [] laid all = refl
live_all trees (r ∷ rows) laid all =
    let rest = live_all trees rows laid all.1 in
    live_one (history trees laid r all.0) r (pages.live_rows (map (λ r. (id_of r, document_of_row (trees revs_tree) r)) rows)) (won trees laid r all.0) (marked trees laid r all.0)
    ∙ ap (λ l. option_to_list (live_row (listed_document r)) ++ l) rest

pub live_by_id : (trees : Trees) (d : Row) → IsWellFormed trees
    → pages.live_rows (finite.entries (database_of_row trees d).documents) ≡ live_rows (map listed_document (sort_by by_id (filter (is_row_of_database (number_of d)) (trees docs_tree))))
live_by_id trees d h = ap pages.live_rows (documents_by_id trees d h) ∙ live_all trees (sort_by by_id (documents_of trees (number_of d))) h.revs (sorted_are trees d h)

-- ---- rows of a listing by sequence

sequence_one : (h : HistoryContent) (r : Row) → winner h ≡ revision_read (winner_text r) → pages.is_gone h ≡ is_gone_row r
    → pages.row_of false (id_of r, record { sequence = sequence_of_row r; history = h }) ≡ sequence_row (listed_document r)
sequence_one h r spells mark = λ i. record { sequence = sequence_of_row r; id = id_of r; revs = option_to_list (spells i); deleted = mark i }

leaves_one : (revs : List Row) (db : ℤ) (r : Row) → db_of r ≡ db → pages.is_gone (history_in_rows revs (db_of r) (id_of r)) ≡ is_gone_row r
    → pages.row_of true (id_of r, document_of_row revs r) ≡ leaves_row revs db (listed_document r)
leaves_one revs db r own mark = λ i. record { sequence = sequence_of_row r; id = id_of r; revs = leaves (history_in_rows revs (own i) (id_of r)); deleted = mark i }

module _ (all : Bool) (document : Row → Document) (at : (r : Row) → (document r).sequence ≡ sequence_of_row r) where
  abbrev page_row : Row → SequenceRow
  page_row r = pages.row_of all (id_of r, document r)

  -- rows put among others are the entries of a map
  rows_put : (rows : List Row) → put_in_sequence (rows_of all (map (λ r. (id_of r, document r)) rows)) [] ≡ finite.entries {R = nat_cmp} (finite.from_entries (map (λ r. (sequence_of_row r, page_row r)) rows))
  rows_put [] = sym (no_length _ (sym (finite.len-entries {R = nat_cmp} (finite.empty {X = SequenceRow})) ∙ finite.len-empty nat_cmp SequenceRow))
  rows_put (r ∷ rows) =
      ap₂ (λ n es. finite.put nat_cmp n (page_row r) es) (at r) (rows_put rows)
      ∙ sym (finite.entries-insert nat_cmp_total (finite.from_entries (map (λ r. (sequence_of_row r, page_row r)) rows)) (sequence_of_row r) (page_row r))

  -- they stand by their sequences, in whatever order they are put
  pub put_sorted : (by : Row → Row → Ordering) (rows : List Row) → IsAscending (λ a b. is_eq (by_sequence a b) ≡ false) rows
      → in_sequence (rows_of all (map (λ r. (id_of r, document r)) (sort_by by rows))) ≡ map page_row (sort_by by_sequence rows)
  put_sorted by rows apart =
      ap (map (λ e. e.1))
      (rows_put (sort_by by rows) ∙ ap finite.entries (map_sorted nat_cmp_total nat_cmp-IsAntisymmetric sequence_of_row page_row by rows apart) ∙ entries_by_key nat_cmp_total nat_cmp-IsAntisymmetric sequence_of_row page_row rows apart)
      ∙ map-map (λ (e : ℕ × SequenceRow). e.1) (λ r. (sequence_of_row r, page_row r)) (sort_by by_sequence rows)

map_on : {A B : Type 0} (f g : A → B) (xs : List A) → AllByRecursion (λ x. f x ≡ g x) xs → map f xs ≡ map g xs
map_on f g [] all = refl
map_on f g (x ∷ xs) all = ap₂ (λ y ys. y ∷ ys) all.0 (map_on f g xs all.1)

module _ (trees : Trees) (d : Row) (h : IsWellFormed trees) where
  abbrev mine : List Row
  mine = documents_of trees (number_of d)

  sequences_apart : IsAscending (λ a b. is_eq (by_sequence a b) ≡ false) mine
  sequences_apart =
      ascending_within (is_row_of_database (number_of d)) (λ a b. is_eq (by_sequence a b) ≡ false) (trees docs_tree)
      (ascending_weaker (λ a b. db_of a ≡ db_of b → sequence_of_row a ≢ sequence_of_row b) (λ a b. is_row_of_database (number_of d) a ≡ true → is_row_of_database (number_of d) b ≡ true → is_eq (by_sequence a b) ≡ false)
      (λ a b apart x y. untied nat_cmp_total nat_cmp-IsAntisymmetric (sequence_of_row a) (sequence_of_row b) (apart (together trees (number_of d) a b x y))) (trees docs_tree) h.sequences_apart)

  in_order : (all : Bool) → in_sequence (rows_of all (entries trees d h)) ≡ map (λ r. pages.row_of all (id_of r, document_of_row (trees revs_tree) r)) (sort_by by_sequence mine)
  in_order all = ap (λ es. in_sequence (rows_of all es)) (documents_by_id trees d h) ∙ put_sorted all (document_of_row (trees revs_tree)) (λ r. refl) by_id mine sequences_apart

  ordered_are : AllByRecursion (λ r. IsDocumentRow trees r × (is_row_of_database (number_of d) r ≡ true)) (sort_by by_sequence mine)
  ordered_are =
      all_sorted (λ r. IsDocumentRow trees r × (is_row_of_database (number_of d) r ≡ true)) by_sequence mine
      (all_both (IsDocumentRow trees) (λ r. is_row_of_database (number_of d) r ≡ true) (λ r. IsDocumentRow trees r × (is_row_of_database (number_of d) r ≡ true)) (λ r k is. (k, is)) mine (rows_are trees d h) (passing (is_row_of_database (number_of d)) (trees docs_tree)))

  -- a listing shows the rows in their order, each as what it says
  shown_by : (all : Bool) (f : Row → SequenceRow) → ((r : Row) → IsDocumentRow trees r × (is_row_of_database (number_of d) r ≡ true) → pages.row_of all (id_of r, document_of_row (trees revs_tree) r) ≡ f (listed_document r))
      → in_sequence (rows_of all (entries trees d h)) ≡ map f (map listed_document (sort_by by_sequence mine))
  shown_by all f says =
      in_order all
      ∙ map_on _ (λ r. f (listed_document r)) (sort_by by_sequence mine)
      (all_weaker (λ r. IsDocumentRow trees r × (is_row_of_database (number_of d) r ≡ true)) (λ r. pages.row_of all (id_of r, document_of_row (trees revs_tree) r) ≡ f (listed_document r)) says (sort_by by_sequence mine) ordered_are)
      ∙ sym (map-map f listed_document (sort_by by_sequence mine))

  pub winners_by_sequence : in_sequence (rows_of false (entries trees d h)) ≡ map sequence_row (map listed_document (sort_by by_sequence (filter (is_row_of_database (number_of d)) (trees docs_tree))))
  winners_by_sequence = shown_by false sequence_row (λ r k. sequence_one (history trees h.revs r k.0) r (won trees h.revs r k.0) (marked trees h.revs r k.0))

  pub leaves_by_sequence : in_sequence (rows_of true (entries trees d h)) ≡ map (leaves_row (trees revs_tree) (number_of d)) (map listed_document (sort_by by_sequence (filter (is_row_of_database (number_of d)) (trees docs_tree))))
  leaves_by_sequence = shown_by true (leaves_row (trees revs_tree) (number_of d)) (λ r k. leaves_one (trees revs_tree) (number_of d) r (same_int (db_of r) (number_of d) k.1) (marked trees h.revs r k.0))

-- ---- rows are laid out as a list shows them

pub rows_of_a_listing : (trees : Trees) → IsWellFormed trees → AllByRecursion (λ r. IsListedDocument (listed_document r)) (trees docs_tree)
rows_of_a_listing trees h =
    all_both (IsDocumentRow trees) (λ r. IsShownDocument (shown_document r)) (λ r. IsListedDocument (listed_document r))
    (λ r k shown. record { width = refl; id = (id_of r, k.named, k.text, ap (λ x. column x 2) k.is); sequence = shown.sequence; winner = shown.winner; mark = shown.mark })
    (trees docs_tree) h.docs (shown_documents trees h)
