-- Counts and lists of the rows of a database, by the ranks of its ids.
use Rattle.tables.proofs.Common.{AllByRecursion, Bool, Equal, Greater, IsAscending, IsWellFormed, IsPermutation-map, IsPermutation-sort_by, Less, List, Ordering, Row, Some, Trees, [], ap, ap₂, arith, ascending-filter, by_id, by_sequence, cond, docs_tree, drop, false, filter, filter-map, filter_same, first_rows, id_of, insert_sorted, inside, is_eq, is_gone_row, is_gt, is_row_of_database, is_lt, length, length-map, listed_document, listed_id, listed_mark, map, nat_cmp_total, nat_list_cmp_total, not, on_total, option_map, ordering_reverse, pos, refl, sequence_of_row, slice_get, sort_by, subst, suc, sym, true, ℕ, ℤ, ◌&&◌, ◌+◌, ◌-◌, ◌∙◌, ◌∷◌, ◌≡◌, ◌≤◌}
use Rattle.std.proofs.Common.{IfSome, None, Option, reverse, take, zero}
use Rattle.std.proofs.lemmas.List.{drop-drop, drop-map}
use Rattle.ranks.proofs.Lists.{Above, Rises, below_permuted, between_below, between_filter, is_part, part_between, rank_at, skip_down, skip_up}
use Rattle.ranks.proofs.Order.{below_length, below_rises, below_trans, not_under, rank}
use Rattle.ranks.specs.Counts.{AreCounts, AreRanksOf, Segments, below, between, is_below}
use Rattle.ranks.specs.Seen.{Ranks}
use Rattle.tables.proofs.Backwards.{sorted_back}
use Rattle.tables.proofs.ListingRows.{documents_of, ids_apart}
use Rattle.tables.proofs.RowMaps.{filter_both}
use Rattle.tables.proofs.Sorted.{all_sorted, sorted_left}
use Rattle.tables.specs.Listings.{has_mark, is_marked_between, live_range, marked_count}
use Rattle.std.proofs.Math.Nat.{ℕ_set}
use Rattle.sqlstore.proofs.IdRows.{counted}
use Rattle.index.proofs.IdBounds.{at_most}
use Rattle.sqlstore.specs.inner.Listing.{all_count, live_ids}

-- ---- lists

-- what a list begins with behind some of its first elements, it has there
pub begun : {A : Type 0} (i b : ℕ) (xs : List A) (x : A) (ys : List A) → drop i (take b xs) ≡ x ∷ ys → (zs : List A) × (drop i xs ≡ x ∷ zs)
begun zero zero xs x ys e = absurd (cc)
begun zero (suc b) [] x ys e = absurd (cc)
begun zero (suc b) (w ∷ xs) x ys e = let same : w ≡ x = cc in (xs, ap (λ y. y ∷ xs) same)
begun (suc i) zero xs x ys e = absurd (cc)
begun (suc i) (suc b) [] x ys e = absurd (cc)
begun (suc i) (suc b) (w ∷ xs) x ys e = begun i b xs x ys e

-- the counts by segments are a proposition
counts_prop : (before : ℕ) (keys : List (List ℕ)) (ss : Segments) → IsProp (AreCounts before keys ss)
counts_prop before keys [] = ℕ_set _ _
counts_prop before keys (s ∷ ss) = λ p q i. (ℕ_set _ _ p.0 q.0 i, counts_prop (before + s.1) keys ss p.1 q.1 i)

pub ranks_prop : (r : Ranks) (keys : List (List ℕ)) → IsProp (AreRanksOf r keys)
ranks_prop r keys = counts_prop r.head keys r.segments

pub known_ranks_prop : (o : Option Ranks) (keys : List (List ℕ)) → IsProp (IfSome o (λ r. AreRanksOf r keys))
known_ranks_prop None keys = λ p q i. tt
known_ranks_prop (Some r) keys = ranks_prop r keys

-- what holds of what was copied holds of the copy
pub some_copied : {X Y : Type 0} (f : X → Y) (y : Y) (P : Y → Type 0) (o : Option X) → IfSome o (λ x. f x ≡ y) → P y → IfSome o (λ x. P (f x))
some_copied f y P None h p = tt
some_copied f y P (Some x) h p = subst P (sym h) p

-- no key is between two bounds where the one is not below the other
pub none_between : (low high : List ℕ) (keys : List (List ℕ)) → is_below low high ≡ false → between low high keys ≡ 0
none_between low high keys h = omega (arith, between_below low high keys, rank high low keys h)

-- ---- rows that are sorted

above_all : (k l : List ℕ) (ks : List (List ℕ)) → is_below k l ≡ true → Above l ks → Above k ks
above_all k l [] h a = tt
above_all k l (m ∷ ks) h a = (below_trans k l m h a.0, above_all k l ks h a.1)

above_put : (k : List ℕ) (r : Row) (rows : List Row) → is_below k (id_of r) ≡ true → Above k (map id_of rows) → Above k (map id_of (insert_sorted by_id r rows))
above_put k r [] h a = (h, tt)
above_put k r (s ∷ rows) h a = go (is_gt (by_id r s)) (above_put k r rows h a.1)
  where
    go : (b : Bool) → Above k (map id_of (insert_sorted by_id r rows)) → Above k (map id_of (cond b (s ∷ insert_sorted by_id r rows) (r ∷ s ∷ rows)))
    go true more = (a.0, more)
    go false more = (h, a)

rises_put : (r : Row) (rows : List Row) → AllByRecursion (λ s. is_eq (by_id r s) ≡ false) rows → Rises (map id_of rows) → Rises (map id_of (insert_sorted by_id r rows))
rises_put r [] apart up = (tt, tt)
rises_put r (s ∷ rows) apart up = go (by_id r s) refl (rises_put r rows apart.1 up.1)
  where
    go : (o : Ordering) → by_id r s ≡ o → Rises (map id_of (insert_sorted by_id r rows)) → Rises (map id_of (cond (is_gt o) (s ∷ insert_sorted by_id r rows) (r ∷ s ∷ rows)))
    go Less e more = let first = ap is_lt e in ((first, above_all (id_of r) (id_of s) (map id_of rows) first up.0), up)
    go Equal e more = let tied : true ≡ false = sym (ap is_eq e) ∙ apart.0 in absurd (cc)
    go Greater e more =
        let first : is_below (id_of s) (id_of r) ≡ true = ap is_lt (nat_list_cmp_total.antisymm (id_of s) (id_of r) ∙ ap ordering_reverse e) in
        (above_put (id_of s) r rows first up.0, more)

rises_sorted : (rows : List Row) → IsAscending (λ a b. is_eq (by_id a b) ≡ false) rows → Rises (map id_of (sort_by by_id rows))
rises_sorted [] apart = tt
rises_sorted (r ∷ rows) apart = rises_put r (sort_by by_id rows) (all_sorted (λ s. is_eq (by_id r s) ≡ false) by_id rows apart.0) (rises_sorted rows apart.1)

joined : (a b c : Bool) → (a && (b && c)) ≡ ((a && b) && c)
joined true b c = refl
joined false b c = refl

-- ---- the rows of a database

module _ (trees : Trees) (db : ℤ) where
  abbrev docs : List Row
  docs = trees docs_tree

  abbrev ids : List (List ℕ)
  ids = live_ids trees db

  abbrev is_live : Row → Bool
  is_live r = is_row_of_database db r && has_mark false (is_gone_row r)

  abbrev live : List Row
  live = filter is_live docs

  abbrev sorted : List Row
  sorted = sort_by by_id live

  abbrev keys : List (List ℕ)
  keys = map id_of sorted

  -- a row lies between two bounds if and only if its id does
  same_test : (low high : List ℕ) (r : Row) → is_marked_between db false low high r ≡ (is_live r && is_part id_of low high r)
  same_test low high r =
      ap (λ b. is_row_of_database db r && (has_mark false (is_gone_row r) && (b && is_below (id_of r) high))) (at_most low (id_of r))
      ∙ joined (is_row_of_database db r) (has_mark false (is_gone_row r)) (is_part id_of low high r)

  in_part : (low high : List ℕ) → filter (is_marked_between db false low high) docs ≡ filter (is_part id_of low high) live
  in_part low high =
      filter_same (is_marked_between db false low high) (λ r. is_live r && is_part id_of low high r) (same_test low high) docs
      ∙ sym (filter_both (is_part id_of low high) is_live docs)

  -- as many ids lie between two bounds as rows
  pub counted_between : (low high : List ℕ) → marked_count db false low high docs ≡ between low high ids
  counted_between low high =
      let passes : List ℕ → Bool = λ k. not (is_below k low) && is_below k high in
      ap length (in_part low high)
      ∙ sym (between_filter low high ids ∙ ap length (filter-map passes id_of live) ∙ length-map (filter (is_part id_of low high) live) id_of)

  pub counted_below : (low high : List ℕ) → marked_count db false low high docs ≡ below high ids - below low ids
  counted_below low high = counted_between low high ∙ between_below low high ids

  -- ---- where ids are apart

  module _ (l : IsWellFormed trees) where
    apart : IsAscending (λ a b. is_eq (by_id a b) ≡ false) live
    apart =
        subst (IsAscending (λ a b. is_eq (by_id a b) ≡ false)) (filter_both (λ r. has_mark false (is_gone_row r)) (is_row_of_database db) docs)
        (ascending-filter (λ a b. is_eq (by_id a b) ≡ false) (λ r. has_mark false (is_gone_row r)) (documents_of trees db) (ids_apart trees db l))

    rising : Rises keys
    rising = rises_sorted live apart

    -- the sorted ids have the same ranks
    same_rank : (k : List ℕ) → below k keys ≡ below k ids
    same_rank k = below_permuted k keys ids (IsPermutation-map id_of sorted live (IsPermutation-sort_by by_id (on_total id_of nat_list_cmp_total) live))

    within_sorted : (k : List ℕ) → below k ids ≤ length sorted
    within_sorted k = omega (arith, same_rank k, below_length k keys, length-map sorted id_of)

    -- as many are counted as there are ids
    pub ids_counted : all_count trees db false ≡ length ids
    ids_counted = sym (counted trees db l by_sequence (on_total sequence_of_row nat_cmp_total) (λ s. has_mark false (listed_mark s))) ∙ sym (length-map live id_of)

    -- the rows between two bounds are those between the ranks of the bounds
    parts_sorted : (low high : List ℕ) → sort_by by_id (filter (is_marked_between db false low high) docs) ≡ drop (below low ids) (take (below high ids) sorted)
    parts_sorted low high =
        ap (sort_by by_id) (in_part low high) ∙ sym (sorted_left by_id (on_total id_of nat_list_cmp_total) (is_part id_of low high) live)
        ∙ part_between id_of low high sorted rising ∙ ap₂ (λ i j. drop i (take j sorted)) (same_rank low) (same_rank high)

    untied : (low high : List ℕ) → IsAscending (λ a b. is_eq (by_id a b) ≡ false) (filter (is_marked_between db false low high) docs)
    untied low high =
        subst (IsAscending (λ a b. is_eq (by_id a b) ≡ false)) (sym (in_part low high)) (ascending-filter (λ a b. is_eq (by_id a b) ≡ false) (is_part id_of low high) live apart)

    module _ (most : ℤ) (skip : ℕ) where
      range_up : (low high : List ℕ) → live_range false db low high most (pos skip) docs ≡ first_rows most (map listed_document (drop skip (drop (below low ids) (take (below high ids) sorted))))
      range_up low high =
          ap (λ rows. first_rows most (drop skip (map listed_document rows))) (parts_sorted low high)
          ∙ ap (first_rows most) (drop-map listed_document skip (drop (below low ids) (take (below high ids) sorted)))

      range_down : (low high : List ℕ) → live_range true db low high most (pos skip) docs ≡ first_rows most (map listed_document (drop skip (reverse (drop (below low ids) (take (below high ids) sorted)))))
      range_down low high =
          ap (λ rows. first_rows most (drop skip (map listed_document rows)))
          (sorted_back by_id (on_total id_of nat_list_cmp_total) (filter (is_marked_between db false low high) docs) (untied low high) ∙ ap reverse (parts_sorted low high))
          ∙ ap (first_rows most) (drop-map listed_document skip (reverse (drop (below low ids) (take (below high ids) sorted))))

    -- a list that skips many rows begins at a later bound, and skips fewer there
    pub starts_later : (low bound : List ℕ) (skip rest : ℕ) → is_below low bound ≡ true → below bound ids ≤ below low ids + skip → rest ≡ below low ids + skip - below bound ids
        → (high : List ℕ) (most : ℤ) → live_range false db low high most (pos skip) docs ≡ live_range false db bound high most (pos rest) docs
    starts_later low bound skip rest first within is high most =
        range_up most skip low high
        ∙ ap (λ rows. first_rows most (map listed_document rows))
        (skip_up (take (below high ids) sorted) (below low ids) (below bound ids) skip (below_rises low low bound ids (not_under low) first) within
        ∙ ap (λ n. drop n (drop (below bound ids) (take (below high ids) sorted))) (sym is))
        ∙ sym (range_up most rest bound high)

    -- and downwards at one before
    pub ends_before : (high bound : List ℕ) (skip rest : ℕ) → is_below bound high ≡ true → below high ids ≤ below bound ids + skip → rest ≡ below bound ids + skip - below high ids
        → (low : List ℕ) (most : ℤ) → live_range true db low high most (pos skip) docs ≡ live_range true db low bound most (pos rest) docs
    ends_before high bound skip rest first within is low most =
        range_down most skip low high
        ∙ ap (λ rows. first_rows most (map listed_document rows))
        (skip_down sorted (below low ids) (below high ids) (below bound ids) skip (below_rises bound bound high ids (not_under bound) first) within (within_sorted high)
        ∙ ap (λ n. drop n (reverse (drop (below low ids) (take (below bound ids) sorted)))) (sym is))
        ∙ sym (range_down most rest low bound)

    -- the id of the first row that is listed has as many ids below it as the bound and those that were skipped
    pub rank_listed : (low high k : List ℕ) (skip : ℕ) (rows : List Row) → rows ≡ live_range false db low high (pos 1) (pos skip) docs → option_map listed_id (slice_get rows 0) ≡ Some k → below k ids ≡ below low ids + skip
    rank_listed low high k skip rows is first =
        let i = below low ids + skip in
        let left = drop skip (drop (below low ids) (take (below high ids) sorted)) in
        let one = shown_first left (ap (λ (l : List Row). option_map listed_id (slice_get l 0)) (sym (is ∙ range_up (pos 1) skip low high)) ∙ first) in
        let there = begun i (below high ids) sorted one.0 one.1 (sym (drop-drop skip (below low ids) (take (below high ids) sorted)) ∙ one.2) in
        sym (same_rank k) ∙ ap (λ (x : List ℕ). below x keys) (sym one.3)
        ∙ rank_at i keys (id_of one.0) (map id_of there.0) rising (drop-map id_of i sorted ∙ ap (map id_of) there.1)
      where
        shown_first : (xs : List Row) → option_map listed_id (slice_get (take 1 (map listed_document xs)) 0) ≡ Some k → (x : Row) × (ys : List Row) × (xs ≡ x ∷ ys) × (id_of x ≡ k)
        shown_first [] e = absurd (cc)
        shown_first (x ∷ ys) e = (x, ys, refl, inside (id_of x) k e)
