-- The rows of a page by id are those that the rows of documents between two bounds show.
use Rattle.sqlstore.proofs.Common.{AllByRecursion, Bool, IdRow, IsWellFormed, IsListedDocument, List, None, Option, Ordering, Revision, Row, Some, Trees, [], all-filter, all_both, all_weaker, and_parts, ap, ap₂, arith, by_id, by_sequence, cond, count_by, docs_tree, drop, false, filter, first_rows, id_of, if_counted, in_direction, is_row_of_database, length, length-map, listed_by_id, listed_by_sequence, listed_document, listed_id, listed_mark, listed_winner, live_row, live_rows, map, nat_cmp, nat_list_cmp_total, not, on_total, option_map, pos, refl, row_counts, rows_within, sequence_of_row, slice_cmp, sort_by, subst, sym, true, up_to_limit, ℕ, ℤ, ◌&&◌, ◌++◌, ◌+◌, ◌<◌, ◌^◌, ◌∙◌, ◌∷◌, ◌≡◌, ◌≤◌, ◌||◌}
use Rattle.std.proofs.Common.{min, reverse}
use Rattle.std.proofs.lemmas.Bool.{not-true}
use Rattle.std.proofs.lemmas.Cmp.{nat_cmp_total}
use Rattle.std.proofs.lemmas.List.{drop-map, length-reverse}
use Rattle.std.proofs.lemmas.List.Sorted.{length_permutation}
use Rattle.std.proofs.lemmas.List.Sums.{length-filter}
use Rattle.std.specs.Cmp.{IsTotalOrder}
use Rattle.std.specs.Option.{option_to_list}
use Rattle.std.specs.Ordering.{is_eq, is_lt}
use Rattle.std.specs.Prelude.{IsUtf8, unwrap_or}
use Rattle.sqlite_keyed.proofs.ListLemmas.{all-append, ascending-filter, filter_all}
use Rattle.sqlite_keyed.proofs.SortLemmas.{IsPermutation-sort_by}
use Rattle.sqlite_trees.proofs.ListLemmas.{filter_same}
use Rattle.sqlite_trees.specs.Tree.{IsAscending}
use Rattle.sqlite_value.specs.Order.{bytes, column}
use Rattle.sqlite_value.specs.declared.value.Value.{Value}
use Rattle.tree.proofs.RevisionText.{read_of_text}
use Rattle.tree.specs.Revision.{revision_read}
use Rattle.store.proofs.Directed.{filter-directed, map_directed}
use Rattle.store.proofs.PageStructs.{counted_within}
use Rattle.store.specs.Pages.{is_after_end, is_after_end_of, is_before_start, is_before_start_of, is_within}
use Rattle.store.specs.declared.listing.IdRange.{IdRange}
use Rattle.store.specs.declared.listing.RowCounts.{RowCounts}
use Rattle.tables.proofs.Backwards.{sorted_back}
use Rattle.tables.proofs.DocumentStatements.{left_in_order}
use Rattle.tables.proofs.ListingRows.{documents_of, ids_apart}
use Rattle.tables.proofs.RowMaps.{filter_both, passing}
use Rattle.tables.specs.Listings.{SpellsId, by_id_in, has_mark, is_between, is_marked_between, live_range, marked_count}
use Rattle.tables.specs.Shown.{SpellsRevision}
use Rattle.index.proofs.PagePlaces.{all_dropped}
use Rattle.index.proofs.Spots.{at_in, each_in, from_directed}
use Rattle.sqlstore.proofs.Cuts.{count_none, count_same, first_all, first_map, limited, none_limited, nothing_left}
use Rattle.sqlstore.proofs.ListedRows.{listed_intact}
use Rattle.index.proofs.IdBounds.{at_most, below, none_below}
use Rattle.sqlstore.proofs.TextBounds.{above_texts, behind}
use Rattle.sqlstore.specs.inner.Listing.{all_count}
use Rattle.sqlstore.specs.inner.ById.{IsHighIdBound, IsLiveRangeOf, IsLowIdBound, is_at_least, lies_above}

-- ---- bounds of a range

twice : (b : Bool) → not (not b) ≡ b
twice true = refl
twice false = refl

pub low_down : (range : IdRange) (end : Option (List ℕ)) (inclusive : Bool) (id : List ℕ) → range.end ≡ end → range.inclusive_end ≡ inclusive → range.descending ≡ true
    → lies_above end (not inclusive) false id ≡ not (cond range.descending (is_after_end range id) (is_before_start range id))
low_down range end inclusive id e i d =
    by end inclusive
    ∙ ap not (λ j. is_after_end_of (sym d j) (sym i j) (sym e j) id)
    ∙ sym (ap (λ b. not (cond b (is_after_end range id) (is_before_start range id))) d)
  where
    by : (o : Option (List ℕ)) (b : Bool) → lies_above o (not b) false id ≡ not (is_after_end_of true b o id)
    by None b = refl
    by (Some t) true = at_most t id
    by (Some t) false = sym (twice (is_lt (slice_cmp nat_cmp t id)))

pub low_up : (range : IdRange) (start : Option (List ℕ)) (id : List ℕ) → range.start ≡ start → range.descending ≡ false
    → lies_above start false false id ≡ not (cond range.descending (is_after_end range id) (is_before_start range id))
low_up range start id s d =
    by start
    ∙ ap not (λ j. is_before_start_of (sym d j) (sym s j) id)
    ∙ sym (ap (λ b. not (cond b (is_after_end range id) (is_before_start range id))) d)
  where
    by : (o : Option (List ℕ)) → lies_above o false false id ≡ not (is_before_start_of false o id)
    by None = refl
    by (Some t) = at_most t id

pub high_down : (range : IdRange) (start : Option (List ℕ)) (id : List ℕ) → range.start ≡ start → range.descending ≡ true
    → lies_above start true true id ≡ cond range.descending (is_before_start range id) (is_after_end range id)
high_down range start id s d =
    by start
    ∙ (λ j. is_before_start_of (sym d j) (sym s j) id)
    ∙ sym (ap (λ b. cond b (is_before_start range id) (is_after_end range id)) d)
  where
    by : (o : Option (List ℕ)) → lies_above o true true id ≡ is_before_start_of true o id
    by None = refl
    by (Some t) = refl

pub high_up : (range : IdRange) (end : Option (List ℕ)) (inclusive : Bool) (id : List ℕ) → range.end ≡ end → range.inclusive_end ≡ inclusive → range.descending ≡ false
    → lies_above end inclusive true id ≡ cond range.descending (is_before_start range id) (is_after_end range id)
high_up range end inclusive id e i d =
    by end inclusive
    ∙ (λ j. is_after_end_of (sym d j) (sym i j) (sym e j) id)
    ∙ sym (ap (λ b. cond b (is_before_start range id) (is_after_end range id)) d)
  where
    by : (o : Option (List ℕ)) (b : Bool) → lies_above o b true id ≡ is_after_end_of false b o id
    by None b = refl
    by (Some t) true = refl
    by (Some t) false = at_most t id

-- the bound at some bytes, or behind them
bound_made : (given bound id : List ℕ) (b : Bool) → bound ≡ cond b (given ++ 0 ∷ []) given → is_at_least bound id ≡ cond b (is_lt (slice_cmp nat_cmp given id)) (is_at_least given id)
bound_made given bound id true is = ap (λ x. is_at_least x id) is ∙ behind given id
bound_made given bound id false is = ap (λ x. is_at_least x id) is

pub bound_above : (end : Option (List ℕ)) (given text bound id : List ℕ) (b above_all : Bool) → end ≡ Some text → given ≡ text → bound ≡ cond b (given ++ 0 ∷ []) given → is_at_least bound id ≡ lies_above end b above_all id
bound_above end given text bound id b above_all e g is =
    bound_made given bound id b is ∙ ap (λ x. cond b (is_lt (slice_cmp nat_cmp x id)) (is_at_least x id)) g ∙ sym (ap (λ o. lies_above o b above_all id) e)

pub bound_without_end : (end : Option (List ℕ)) (bound id : List ℕ) (b above_all : Bool) → end ≡ None → above_all ≡ true → bound ≡ 255 ∷ [] → IsUtf8 id → is_at_least bound id ≡ lies_above end b above_all id
bound_without_end end bound id b above_all e top is u = ap (λ x. is_at_least x id) is ∙ above_texts id u ∙ sym (ap₂ (λ o a. lies_above o b a id) e top)

-- an id lies between the bounds of a range if and only if it lies within the range
module _ (range : IdRange) (low high : List ℕ) (lows : IsLowIdBound range low) (highs : IsHighIdBound range high) where
  pub between_within : (id : List ℕ) → IsUtf8 id → is_between low high id ≡ is_within range id
  between_within id u =
      ap₂ (λ a b. a && b) (lows id u) (below id high ∙ ap not (highs id u))
      ∙ by range.descending (is_before_start range id) (is_after_end range id)
    where
      by : (d before after : Bool) → (not (cond d after before) && not (cond d before after)) ≡ not (before || after)
      by true true true = refl
      by true true false = refl
      by true false true = refl
      by true false false = refl
      by false true true = refl
      by false true false = refl
      by false false true = refl
      by false false false = refl

  pub before_up : range.descending ≡ false → (id : List ℕ) → IsUtf8 id → is_between [] low id ≡ is_before_start range id
  before_up d id u =
      ap₂ (λ a b. a && b) (none_below id) (below id low ∙ ap not (lows id u) ∙ twice (cond range.descending (is_after_end range id) (is_before_start range id)))
      ∙ ap (λ b. cond b (is_after_end range id) (is_before_start range id)) d

  pub before_down : range.descending ≡ true → (id : List ℕ) → IsUtf8 id → is_between high (255 ∷ []) id ≡ is_before_start range id
  before_down d id u =
      ap₂ (λ a b. a && b) (highs id u) (below id (255 ∷ []) ∙ ap not (above_texts id u))
      ∙ both (cond range.descending (is_before_start range id) (is_after_end range id))
      ∙ ap (λ b. cond b (is_before_start range id) (is_after_end range id)) d
    where
      both : (b : Bool) → (b && not false) ≡ b
      both true = refl
      both false = refl

-- all texts lie between the least bound and the one above all
pub all_between : (id : List ℕ) → IsUtf8 id → is_between [] (255 ∷ []) id ≡ true
all_between id u = ap₂ (λ a b. a && b) (none_below id) (below id (255 ∷ []) ∙ ap not (above_texts id u))

-- ---- rows of a page

no_revision : Revision
no_revision = record { number = 0; hash = [] }

abbrev id_row_of : Row → IdRow
id_row_of s = record { id = listed_id s; rev = unwrap_or (listed_winner s) no_revision }

abbrev IsLive : Row → Type 0
IsLive s = IsListedDocument s × (listed_mark s ≡ false)

spelled : (v : Value) → SpellsRevision v → (r : Revision) × (revision_read (bytes v) ≡ Some r)
spelled v (r, is_rev, is) = (r, ap (λ x. revision_read (bytes x)) is ∙ read_of_text r is_rev)

live_one : (s : Row) → IsLive s → option_to_list (live_row s) ≡ id_row_of s ∷ []
live_one s k = let won = spelled (column s 2) k.0.winner in go (listed_mark s) k.1 (listed_winner s) won.0 won.1
  where
    go : (gone : Bool) → gone ≡ false → (o : Option Revision) (r : Revision) → o ≡ Some r
        → option_to_list (cond gone None (option_map {U = IdRow} (λ w. record { id = listed_id s; rev = w }) o)) ≡ record { id = listed_id s; rev = unwrap_or o no_revision } ∷ []
    go true h o r e = absurd (cc)
    go false h None r e = absurd (cc)
    go false h (Some w) r e = refl

live_map : (rows : List Row) → AllByRecursion IsLive rows → live_rows rows ≡ map id_row_of rows
live_map [] all = refl
live_map (s ∷ rows) all = ap₂ ◌++◌ (live_one s all.0) (live_map rows all.1)

text_of_cell : (v : Value) → SpellsId v → IsUtf8 (bytes v)
text_of_cell v (id, named, text, is) = subst (λ x. IsUtf8 (bytes x)) (sym is) text

texts : (rows : List Row) → AllByRecursion IsListedDocument rows → AllByRecursion (λ (r : IdRow). IsUtf8 r.id) (live_rows rows)
texts [] all = tt
texts (s ∷ rows) all = all-append (λ (r : IdRow). IsUtf8 r.id) (option_to_list (live_row s)) (live_rows rows) (one (listed_mark s) (listed_winner s)) (texts rows all.1)
  where
    one : (gone : Bool) (o : Option Revision) → AllByRecursion (λ (r : IdRow). IsUtf8 r.id) (option_to_list (cond gone None (option_map {U = IdRow} (λ w. record { id = listed_id s; rev = w }) o)))
    one true o = tt
    one false None = tt
    one false (Some w) = (text_of_cell (column s 0) all.0.id, tt)

abbrev shown : List ℕ → Bool → Option Revision → List IdRow
shown id gone won = option_to_list (cond gone None (option_map {U = IdRow} (λ w. record { id = id; rev = w }) won))

one_left : (p : List ℕ → Bool) (id : List ℕ) (gone : Bool) (won : Option Revision) (b : Bool) → p id ≡ b → (rest : List IdRow)
    → cond (not gone && b) (shown id gone won) [] ++ filter (λ (r : IdRow). p r.id) rest ≡ filter (λ (r : IdRow). p r.id) (shown id gone won ++ rest)
one_left p id true won b is rest = refl
one_left p id false None true is rest = refl
one_left p id false None false is rest = refl
one_left p id false (Some w) true is rest = rw is
one_left p id false (Some w) false is rest = rw is

-- the row of a document whose winner is not deleted passes if and only if its id does
live_left : (p : List ℕ → Bool) (rows : List Row) → live_rows (filter (λ s. not (listed_mark s) && p (listed_id s)) rows) ≡ filter (λ (r : IdRow). p r.id) (live_rows rows)
live_left p [] = refl
live_left p (s ∷ rows) =
    taken (not (listed_mark s) && p (listed_id s)) ∙ ap (λ l. cond (not (listed_mark s) && p (listed_id s)) (option_to_list (live_row s)) [] ++ l) (live_left p rows)
    ∙ one_left p (listed_id s) (listed_mark s) (listed_winner s) (p (listed_id s)) refl (live_rows rows)
  where
    rest : List Row
    rest = filter (λ x. not (listed_mark x) && p (listed_id x)) rows

    taken : (b : Bool) → live_rows (cond b (s ∷ rest) rest) ≡ cond b (option_to_list (live_row s)) [] ++ live_rows rest
    taken true = refl
    taken false = refl

-- ---- the rows of a database

module _ (trees : Trees) (db : ℤ) (l : IsWellFormed trees) where
  abbrev docs : List Row
  docs = trees docs_tree

  abbrev all : List Row
  all = listed_by_id trees db

  abbrev passes : Bool → List ℕ → List ℕ → Row → Bool
  passes deleted low high s = has_mark deleted (listed_mark s) && is_between low high (listed_id s)

  all_intact : AllByRecursion IsListedDocument all
  all_intact = listed_intact by_id trees db l

  all_texts : AllByRecursion (λ (r : IdRow). IsUtf8 r.id) (live_rows all)
  all_texts = texts all all_intact

  -- as many rows of a kind are stored as a list has, in whatever order
  pub counted : (by : Row → Row → Ordering) → IsTotalOrder by → (q : Row → Bool) → length (filter (λ r. is_row_of_database db r && q (listed_document r)) docs) ≡ count_by q (map listed_document (sort_by by (filter (is_row_of_database db) docs)))
  counted by total q =
      let found = filter (λ r. is_row_of_database db r && q (listed_document r)) docs in
      let long : length found ≡ length (map listed_document (sort_by by found)) =
      omega (arith, length-map (sort_by by found) listed_document, length_permutation (sort_by by found) found (IsPermutation-sort_by by total found)) in
      long ∙ ap length (left_in_order by total db q docs) ∙ length-filter q (map listed_document (sort_by by (filter (is_row_of_database db) docs)))

  -- ---- between two bounds

  module _ (low high : List ℕ) where
    abbrev found : List Row
    found = filter (passes false low high) all

    each_live : AllByRecursion IsLive found
    each_live =
        all_both IsListedDocument (λ s. passes false low high s ≡ true) IsLive
        (λ s k passed. (k, not-true (listed_mark s) (and_parts (not (listed_mark s)) (is_between low high (listed_id s)) passed).0)) found
        (all-filter IsListedDocument (passes false low high) all all_intact) (passing (passes false low high) all)

    rows_found : map id_row_of found ≡ filter (λ (r : IdRow). is_between low high r.id) (live_rows all)
    rows_found = sym (live_map found each_live) ∙ live_left (is_between low high) all

    untied : IsAscending (λ a b. is_eq (by_id a b) ≡ false) (filter (is_marked_between db false low high) docs)
    untied =
        subst (IsAscending (λ a b. is_eq (by_id a b) ≡ false)) (filter_both (λ r. passes false low high (listed_document r)) (is_row_of_database db) docs)
        (ascending-filter (λ a b. is_eq (by_id a b) ≡ false) (λ r. passes false low high (listed_document r)) (documents_of trees db) (ids_apart trees db l))

    directed : (descending : Bool) → map listed_document (sort_by (by_id_in descending) (filter (is_marked_between db false low high) docs)) ≡ in_direction descending found
    directed false = left_in_order by_id (on_total id_of nat_list_cmp_total) db (passes false low high) docs
    directed true =
        ap (map listed_document) (sorted_back by_id (on_total id_of nat_list_cmp_total) (filter (is_marked_between db false low high) docs) untied)
        ∙ map_directed listed_document true (sort_by by_id (filter (is_marked_between db false low high) docs))
        ∙ ap reverse (left_in_order by_id (on_total id_of nat_list_cmp_total) db (passes false low high) docs)

    pub between_counted : marked_count db false low high docs ≡ count_by (λ (r : IdRow). is_between low high r.id) (live_rows all)
    between_counted =
        counted by_id (on_total id_of nat_list_cmp_total) (passes false low high) ∙ sym (length-filter (passes false low high) all) ∙ sym (length-map found id_row_of) ∙ ap length rows_found
        ∙ length-filter (λ (r : IdRow). is_between low high r.id) (live_rows all)

    -- what a statement shows of them
    module _ (descending : Bool) (most : ℤ) (skip : ℕ) where
      part_live : AllByRecursion IsLive (first_rows most (drop skip (in_direction descending found)))
      part_live =
          first_all IsLive most (drop skip (in_direction descending found))
          (all_dropped IsLive skip (in_direction descending found) (each_in IsLive (in_direction descending found) (λ s i. at_in IsLive found s each_live (from_directed descending found s i))))

      same_part : live_range descending db low high most (pos skip) docs ≡ first_rows most (drop skip (in_direction descending found))
      same_part = ap (λ rows. first_rows most (drop skip rows)) (directed descending)

      pub part_intact : AllByRecursion IsListedDocument (live_range descending db low high most (pos skip) docs)
      part_intact = subst (AllByRecursion IsListedDocument) (sym same_part) (all_weaker IsLive IsListedDocument (λ s k. k.0) (first_rows most (drop skip (in_direction descending found))) part_live)

      part_rows : live_rows (live_range descending db low high most (pos skip) docs) ≡ first_rows most (drop skip (in_direction descending (filter (λ (r : IdRow). is_between low high r.id) (live_rows all))))
      part_rows =
          ap live_rows same_part ∙ live_map (first_rows most (drop skip (in_direction descending found))) part_live
          ∙ first_map id_row_of most (drop skip (in_direction descending found)) ∙ ap (first_rows most) (sym (drop-map id_row_of skip (in_direction descending found)) ∙ ap (drop skip) (map_directed id_row_of descending found ∙ ap (in_direction descending) rows_found))

  -- ---- a range

  module _ (range : IdRange) (low high : List ℕ) (lows : IsLowIdBound range low) (highs : IsHighIdBound range high) where
    abbrev rows : List IdRow
    rows = live_rows all

    each_within : AllByRecursion (λ (r : IdRow). is_between low high r.id ≡ is_within range r.id) rows
    each_within = all_weaker (λ (r : IdRow). IsUtf8 r.id) (λ (r : IdRow). is_between low high r.id ≡ is_within range r.id) (λ r u. between_within range low high lows highs r.id u) rows all_texts

    in_range : in_direction range.descending (filter (λ (r : IdRow). is_between low high r.id) rows) ≡ rows_within range rows
    in_range = ap (in_direction range.descending) (filter_same (λ (r : IdRow). is_between low high r.id) (λ (r : IdRow). is_within range r.id) rows each_within) ∙ sym (filter-directed (λ (r : IdRow). is_within range r.id) range.descending rows)

    pub rows_read : (given : List Row) → IsLiveRangeOf range db low high docs given → up_to_limit range.limit (drop range.skip (rows_within range rows)) ≡ up_to_limit range.limit (live_rows given)
    rows_read given r =
        sym
        (ap (λ g. up_to_limit range.limit (live_rows g)) r.2
        ∙ ap (up_to_limit range.limit) (part_rows low high range.descending r.0 range.skip ∙ ap (λ x. first_rows r.0 (drop range.skip x)) in_range)
        ∙ limited range.limit r.0 (drop range.skip (rows_within range rows)) r.1)

    pub rows_intact : (given : List Row) → IsLiveRangeOf range db low high docs given → AllByRecursion IsListedDocument given
    rows_intact given r = subst (AllByRecursion IsListedDocument) (sym r.2) (part_intact low high range.descending r.0 range.skip)

    pub within_counted : marked_count db false low high docs ≡ length (rows_within range rows)
    within_counted =
        between_counted low high ∙ sym (length-filter (λ (r : IdRow). is_between low high r.id) rows) ∙ sym (same_length range.descending (filter (λ (r : IdRow). is_between low high r.id) rows)) ∙ ap length in_range
      where
        same_length : (d : Bool) (rs : List IdRow) → length (in_direction d rs) ≡ length rs
        same_length true rs = length-reverse rs
        same_length false rs = refl

    pub rows_skipped : (count : ℕ) → marked_count db false low high docs ≡ count → count < 2 ^ 63 → 2 ^ 63 ≤ range.skip → up_to_limit range.limit (drop range.skip (rows_within range rows)) ≡ []
    rows_skipped count is lt far =
        let counted = sym within_counted ∙ is in
        ap (up_to_limit range.limit) (nothing_left range.skip (rows_within range rows) (omega (arith, counted, lt, far))) ∙ none_limited range.limit

    before_counted : (a b : List ℕ) → ((id : List ℕ) → IsUtf8 id → is_between a b id ≡ is_before_start range id) → marked_count db false a b docs ≡ count_by (λ (r : IdRow). is_before_start range r.id) rows
    before_counted a b same =
        between_counted a b
        ∙ count_same (λ (r : IdRow). is_between a b r.id) (λ (r : IdRow). is_before_start range r.id) rows (all_weaker (λ (r : IdRow). IsUtf8 r.id) (λ (r : IdRow). is_between a b r.id ≡ is_before_start range r.id) (λ r u. same r.id u) rows all_texts)

    pub first_up : range.descending ≡ false → marked_count db false [] low docs ≡ count_by (λ (r : IdRow). is_before_start range r.id) rows
    first_up d = before_counted [] low (before_up range low high lows highs d)

    pub first_down : range.descending ≡ true → marked_count db false high (255 ∷ []) docs ≡ count_by (λ (r : IdRow). is_before_start range r.id) rows
    first_down d = before_counted high (255 ∷ []) (before_down range low high lows highs d)

    total_counted : marked_count db false [] (255 ∷ []) docs ≡ length rows
    total_counted =
        between_counted [] (255 ∷ []) ∙ sym (length-filter (λ (r : IdRow). is_between [] (255 ∷ []) r.id) rows)
        ∙ ap length (filter_all (λ (r : IdRow). is_between [] (255 ∷ []) r.id) rows (all_weaker (λ (r : IdRow). IsUtf8 r.id) (λ (r : IdRow). is_between [] (255 ∷ []) r.id ≡ true) (λ r u. all_between r.id u) rows all_texts))

    pub counts_made : (before skipped total : ℕ) (made : RowCounts) → range.counted ≡ true → marked_count db false [] (255 ∷ []) docs ≡ total → min range.skip (length (rows_within range rows)) ≡ skipped
        → count_by (λ (r : IdRow). is_before_start range r.id) rows ≡ before → (before + skipped ≤ total → made.offset ≡ before + skipped) → made.total ≡ total
        → if_counted range.counted (row_counts range rows) ≡ Some made
    counts_made before skipped total made asked sum left first offset is_total =
        let totals = sym total_counted ∙ sum in
        let fits = counted_within range rows in
        let fewer : min range.skip (length (rows_within range rows)) ≤ length (rows_within range rows) = omega arith in
        let least : before + skipped ≤ total = omega (arith, totals, fits, first, left, fewer) in
        let is_offset = offset least in
        ap (λ b. if_counted b (row_counts range rows)) asked
        ∙ (λ i. Some (record { offset = (ap (λ n. n + min range.skip (length (rows_within range rows))) first ∙ ap (λ n. before + n) left ∙ sym is_offset) i; total = (totals ∙ sym is_total) i }))

  -- without a start no row is before it
  pub none_before : (range : IdRange) → range.start ≡ None → count_by (λ (r : IdRow). is_before_start range r.id) (live_rows (listed_by_id trees db)) ≡ 0
  none_before range none = count_none (λ (r : IdRow). is_before_start range r.id) (λ r. ap (λ o. is_before_start_of range.descending o r.id) none) (live_rows (listed_by_id trees db))

  -- ---- all documents, by sequence

  pub all_counted : (deleted : Bool) → marked_count db deleted [] (255 ∷ []) docs ≡ all_count trees db deleted
  all_counted deleted =
      counted by_sequence (on_total sequence_of_row nat_cmp_total) (passes deleted [] (255 ∷ []))
      ∙ count_same (passes deleted [] (255 ∷ [])) (λ s. has_mark deleted (listed_mark s)) (listed_by_sequence trees db)
      (all_weaker IsListedDocument (λ s. passes deleted [] (255 ∷ []) s ≡ has_mark deleted (listed_mark s))
      (λ s k. ap (λ b. has_mark deleted (listed_mark s) && b) (all_between (listed_id s) (text_of_cell (column s 0) k.id)) ∙ alone (has_mark deleted (listed_mark s))) (listed_by_sequence trees db) (listed_intact by_sequence trees db l))
    where
      alone : (b : Bool) → (b && true) ≡ b
      alone true = refl
      alone false = refl
