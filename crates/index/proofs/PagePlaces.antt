-- The rows of a page by key are those that its entries show.
use Rattle.index.proofs.Common.{AllByRecursion, Blob, Bool, IsEntryRow, List, Ordering, Row, [], all_map, all_weaker, and_parts, ap, ap₂, column, cond, declaration_of, drop, entry_id, false, filter, insert_sorted, is_entry_in, is_entry_of, is_gt, key_of, length, map, map-map, pos, refl, same_int, shown_entry, sort_by, suc, sym, take, true, ℕ, ℤ, ◌&&◌, ◌∙◌, ◌∷◌, ◌≡◌, drop-map}
use Rattle.std.proofs.Common.{Equal, Greater, Less, not, zero}
use Rattle.std.proofs.lemmas.List.{take-map}
use Rattle.std.proofs.lemmas.List.Sums.{length-filter}
use Rattle.std.specs.Cmp.Lexicographic.{nat_list_cmp_total, slice_cmp}
use Rattle.std.specs.List.{count_by}
use Rattle.std.specs.Ordering.{is_ge, is_le, is_lt, nat_cmp, ordering_reverse}
use Rattle.std.specs.Prelude.{negsuc}
use Rattle.couch_json.proofs.KeyCuts.{above-bound_above_all, above-bound_below_all}
use Rattle.couch_json.proofs.KeyOrder.{key-injective}
use Rattle.couch_json.specs.Key.{key}
use Rattle.couch_json.specs.KeyCuts.{lies_above_cut}
use Rattle.couch_json.specs.Lawful.{IsLawful}
use Rattle.store.proofs.Among.{from_filter, in_contained}
use Rattle.store.proofs.Listings.{In}
use Rattle.store.specs.Indexes.{IndexPlace}
use Rattle.store.specs.KeyPages.{is_above, is_key_before, is_key_within, key_rows_within}
use Rattle.store.specs.Pages as store
use Rattle.store.specs.declared.index_page.KeyRange.{KeyRange}
use Rattle.sqlite_trees.proofs.ListLemmas.{filter_same}
use Rattle.tables.proofs.Sorted.{all_sorted}
use Rattle.tables.specs.Listings.{first_rows, is_between}
use Rattle.index.proofs.EntryChanges.{entry_from}
use Rattle.index.proofs.Spots.{at_in, by, each_in, from_directed, in_any, same_spots}
use Rattle.index.specs.Places.{AreEntriesAt, IsHighBound, IsLowBound, IsReadable, IsShownEntry, Spot, spot_at, spot_of, spot_shown}
use Rattle.index.specs.Rows.{count_of, in_direction, is_entry_between, range_of}

-- ---- lists

pub all_taken : {X : Type 0} (P : X → Type 0) (n : ℕ) (xs : List X) → AllByRecursion P xs → AllByRecursion P (take n xs)
all_taken P zero xs all = tt
all_taken P (suc n) [] all = tt
all_taken P (suc n) (x ∷ xs) all = (all.0, all_taken P n xs all.1)

pub all_dropped : {X : Type 0} (P : X → Type 0) (n : ℕ) (xs : List X) → AllByRecursion P xs → AllByRecursion P (drop n xs)
all_dropped P zero xs all = all
all_dropped P (suc n) [] all = tt
all_dropped P (suc n) (x ∷ xs) all = all_dropped P n xs all.1

length_map : {X Y : Type 0} (f : X → Y) (xs : List X) → length (map f xs) ≡ length xs
length_map f [] = refl
length_map f (x ∷ xs) = ap suc (length_map f xs)

inserted_length : (cmp : Row → Row → Ordering) (new : Row) (rows : List Row) → length (insert_sorted cmp new rows) ≡ suc (length rows)
inserted_length cmp new [] = refl
inserted_length cmp new (r ∷ rows) = go (is_gt (cmp new r)) (inserted_length cmp new rows)
  where
    go : (b : Bool) → length (insert_sorted cmp new rows) ≡ suc (length rows) → length (cond b (r ∷ insert_sorted cmp new rows) (new ∷ r ∷ rows)) ≡ suc (length (r ∷ rows))
    go true rest = ap suc rest
    go false rest = refl

sorted_length : (cmp : Row → Row → Ordering) (rows : List Row) → length (sort_by cmp rows) ≡ length rows
sorted_length cmp [] = refl
sorted_length cmp (r ∷ rows) = inserted_length cmp r (sort_by cmp rows) ∙ ap suc (sorted_length cmp rows)

by_direction : (descending : Bool) (rows : List Row) → sort_by (by descending) rows ≡ sort_by (in_direction descending) rows
by_direction true rows = refl
by_direction false rows = refl

-- ---- keys between bounds

above_of : (o : Ordering) (bound k : List ℕ) → slice_cmp nat_cmp k bound ≡ o → is_le (slice_cmp nat_cmp bound k) ≡ is_ge (slice_cmp nat_cmp k bound)
above_of o bound k is = ap is_le (nat_list_cmp_total.antisymm bound k) ∙ turned (slice_cmp nat_cmp k bound)
  where
    turned : (x : Ordering) → is_le (ordering_reverse x) ≡ is_ge x
    turned Less = refl
    turned Equal = refl
    turned Greater = refl

below_of : (o : Ordering) → is_lt o ≡ not (is_ge o)
below_of Less = refl
below_of Equal = refl
below_of Greater = refl

pub key_between : (low high k : List ℕ) → is_between low high k ≡ (lies_above_cut low k && not (lies_above_cut high k))
key_between low high k = ap₂ (λ a b. a && b) (above_of (slice_cmp nat_cmp k low) low k refl) (below_of (slice_cmp nat_cmp k high))

module _ (range : KeyRange) (low high : List ℕ) (lows : IsLowBound range low) (highs : IsHighBound range high) where
  within : (p : IndexPlace) → IsReadable p → is_between low high (key p.key) ≡ is_key_within range p.key
  within p h = key_between low high (key p.key) ∙ ap₂ (λ a b. a && not b) (lows p.key h.lawful) (highs p.key h.lawful)

  each_directed : (descending : Bool) (ps : List IndexPlace) → AllByRecursion IsReadable ps → AllByRecursion IsReadable (store.in_direction descending ps)
  each_directed descending ps all = each_in IsReadable (store.in_direction descending ps) (λ p i. at_in IsReadable ps p all (from_directed descending ps p i))

  -- the places between the bounds are those of the range
  pub places_within : (ps : List IndexPlace) → AllByRecursion IsReadable ps → filter (λ p. is_between low high (key p.key)) (store.in_direction range.descending ps) ≡ key_rows_within range ps
  places_within ps all =
      filter_same (λ p. is_between low high (key p.key)) (λ p. is_key_within range p.key) (store.in_direction range.descending ps)
      (all_weaker IsReadable (λ p. is_between low high (key p.key) ≡ is_key_within range p.key) within (store.in_direction range.descending ps) (each_directed range.descending ps all))

-- ---- places are told by their spots

pub one_by_spots : (ps qs : List IndexPlace) → AllByRecursion (λ p. IsLawful p.key) ps → AllByRecursion (λ p. IsLawful p.key) qs → map spot_of ps ≡ map spot_of qs → ps ≡ qs
one_by_spots [] [] k l is = refl
one_by_spots [] (q ∷ qs) k l is = absurd (cc)
one_by_spots (p ∷ ps) [] k l is = absurd (cc)
one_by_spots (p ∷ ps) (q ∷ qs) k l is =
    let head : spot_of p ≡ spot_of q = cc in
    let tail : map spot_of ps ≡ map spot_of qs = cc in
    let same_key = key-injective p.key q.key k.0 l.0 (ap (λ (s : Spot). s.0) head) in
    let same_id = ap (λ (s : Spot). s.1) head in
    ap₂ (λ x xs. x ∷ xs) (λ i. record { key = same_key i; id = same_id i }) (one_by_spots ps qs k.1 l.1 tail)

shown_spots : (rows : List Row) → map spot_shown (map shown_entry rows) ≡ map spot_at rows
shown_spots rows = map-map spot_shown shown_entry rows

first_spots : (most : ℤ) (rows : List Row) (ps : List IndexPlace) → map spot_of ps ≡ map spot_shown rows → map spot_of (first_rows most ps) ≡ map spot_shown (first_rows most rows)
first_spots (pos n) rows ps is = sym (take-map spot_of n ps) ∙ ap (take n) is ∙ take-map spot_shown n rows
first_spots (negsuc n) rows ps is = is

all_first : (P : IndexPlace → Type 0) (most : ℤ) (ps : List IndexPlace) → AllByRecursion P ps → AllByRecursion P (first_rows most ps)
all_first P (pos n) ps all = all_taken P n ps all
all_first P (negsuc n) ps all = all

module _ (declaration : ℤ) (places : List IndexPlace) (rows : List Row) (h : AreEntriesAt declaration places rows) where
  entry_shown : (r : Row) → is_entry_in declaration r ≡ true → In rows r → IsShownEntry (shown_entry r)
  entry_shown r own i =
      let e = in_any (is_entry_of declaration (key_of r) (entry_id r)) rows r i (entry_from declaration (key_of r) (entry_id r) r (same_int (declaration_of r) declaration own) refl refl) in
      let o = h.only (key_of r) (entry_id r) e in
      let p = o.0 in
      let is = at_in IsEntryRow rows r h.laid.each i in
      record {
        place = p;
        readable = at_in IsReadable places p h.readable (in_contained places p o.1);
        is = ap (λ x. column x 2 ∷ column x 3 ∷ []) is ∙ ap (λ (s : Spot). Blob s.0 ∷ Blob s.1 ∷ []) (sym o.2);
      }

  module _ (range : KeyRange) (low high : List ℕ) (lows : IsLowBound range low) (highs : IsHighBound range high) where
    abbrev found : List Row
    found = sort_by (in_direction range.descending) (filter (is_entry_between declaration low high) rows)

    in_range : map spot_of (key_rows_within range places) ≡ map spot_at found
    in_range = ap (map spot_of) (sym (places_within range low high lows highs places h.readable)) ∙ same_spots declaration places rows h range.descending low high ∙ ap (map spot_at) (by_direction range.descending (filter (is_entry_between declaration low high) rows))

    each_found : AllByRecursion (λ r. IsShownEntry (shown_entry r)) found
    each_found =
        all_sorted (λ r. IsShownEntry (shown_entry r)) (in_direction range.descending) (filter (is_entry_between declaration low high) rows)
        (each_in (λ r. IsShownEntry (shown_entry r)) (filter (is_entry_between declaration low high) rows)
        (λ r i. let f = from_filter (is_entry_between declaration low high) rows r i in entry_shown r (and_parts (is_entry_in declaration r) (is_between low high (key_of r)) f.1).0 f.0))

    -- each entry that a statement shows can be read
    pub entries_shown : (most : ℤ) (skip : ℕ) → AllByRecursion IsShownEntry (range_of range.descending declaration low high most (pos skip) rows)
    entries_shown most skip = first_all most (drop skip (map shown_entry found)) (all_dropped IsShownEntry skip (map shown_entry found) (all_map IsShownEntry shown_entry found each_found))
      where
        first_all : (n : ℤ) (rs : List Row) → AllByRecursion IsShownEntry rs → AllByRecursion IsShownEntry (first_rows n rs)
        first_all (pos n) rs all = all_taken IsShownEntry n rs all
        first_all (negsuc n) rs all = all

    lawful_within : AllByRecursion (λ p. IsLawful p.key) (key_rows_within range places)
    lawful_within =
        each_in (λ p. IsLawful p.key) (key_rows_within range places)
        (λ p i. (at_in IsReadable places p h.readable (from_directed range.descending places p (from_filter (λ q. is_key_within range q.key) (store.in_direction range.descending places) p i).0)).lawful)

    -- what is read of them is the part of the page's rows that the statement asks for
    pub entries_read : (most : ℤ) (skip : ℕ) (read : List IndexPlace) → AllByRecursion (λ p. IsLawful p.key) read
        → map spot_of read ≡ map spot_shown (range_of range.descending declaration low high most (pos skip) rows) → read ≡ first_rows most (drop skip (key_rows_within range places))
    entries_read most skip read lawful is =
        let all = key_rows_within range places in
        let spots : map spot_of (drop skip all) ≡ map spot_shown (drop skip (map shown_entry found)) =
        sym (drop-map spot_of skip all) ∙ ap (drop skip) (in_range ∙ sym (shown_spots found)) ∙ drop-map spot_shown skip (map shown_entry found) in
        one_by_spots read (first_rows most (drop skip all)) lawful (all_first (λ p. IsLawful p.key) most (drop skip all) (all_dropped (λ p. IsLawful p.key) skip all lawful_within))
        (is ∙ sym (first_spots most (drop skip (map shown_entry found)) (drop skip all) spots))

    -- as many entries lie between the bounds as the page has places in its range
    pub within_counted : count_of declaration low high rows ≡ length (key_rows_within range places)
    within_counted =
        sym (sorted_length (in_direction range.descending) (filter (is_entry_between declaration low high) rows)) ∙ sym (length_map spot_at found) ∙ sym (ap length in_range) ∙ length_map spot_of (key_rows_within range places)

  -- ---- counts

  -- as many entries lie between two bounds as keys of places do
  counted_between : (low high : List ℕ) → count_of declaration low high rows ≡ count_by (λ p. is_between low high (key p.key)) places
  counted_between low high =
      let found = filter (is_entry_between declaration low high) rows in
      let spots = ap length (same_spots declaration places rows h false low high) in
      let left = length_map spot_of (filter (λ p. is_between low high (key p.key)) places) in
      let right = length_map spot_at (sort_by (by false) found) in
      sym (sorted_length (by false) found) ∙ sym right ∙ sym spots ∙ left ∙ length-filter (λ p. is_between low high (key p.key)) places

  count_same : (f g : IndexPlace → Bool) (ps : List IndexPlace) → AllByRecursion IsReadable ps → ((p : IndexPlace) → IsReadable p → f p ≡ g p) → count_by f ps ≡ count_by g ps
  count_same f g ps all same =
      sym (length-filter f ps) ∙ ap length (filter_same f g ps (all_weaker IsReadable (λ p. f p ≡ g p) same ps all)) ∙ length-filter g ps

  -- the bytes of a key are above all that is below all keys, and below what is above all
  lowest : (p : IndexPlace) (high : List ℕ) → is_between [] high (key p.key) ≡ not (lies_above_cut high (key p.key))
  lowest p high = key_between [] high (key p.key) ∙ ap (λ b. b && not (lies_above_cut high (key p.key))) (above-bound_below_all p.key)

  highest : (p : IndexPlace) (low : List ℕ) → is_between low (8 ∷ []) (key p.key) ≡ lies_above_cut low (key p.key)
  highest p low = key_between low (8 ∷ []) (key p.key) ∙ ap (λ b. lies_above_cut low (key p.key) && not b) (above-bound_above_all p.key) ∙ and_true (lies_above_cut low (key p.key))
    where
      and_true : (b : Bool) → (b && true) ≡ b
      and_true true = refl
      and_true false = refl

  every : (ps : List IndexPlace) → count_by (λ p. true) ps ≡ length ps
  every ps = sym (length-filter (λ p. true) ps) ∙ ap length (kept ps)
    where
      kept : (qs : List IndexPlace) → filter (λ p. true) qs ≡ qs
      kept [] = refl
      kept (q ∷ qs) = ap (λ l. q ∷ l) (kept qs)

  pub total_counted : count_of declaration [] (8 ∷ []) rows ≡ length places
  total_counted =
      counted_between [] (8 ∷ [])
      ∙ count_same (λ p. is_between [] (8 ∷ []) (key p.key)) (λ p. true) places h.readable (λ p k. lowest p (8 ∷ []) ∙ ap not (above-bound_above_all p.key))
      ∙ every places

  module _ (range : KeyRange) where
    pub before_up : (low : List ℕ) → IsLowBound range low → range.descending ≡ false → count_of declaration [] low rows ≡ count_by (λ p. is_key_before range p.key) places
    before_up low lows up =
        counted_between [] low
        ∙ count_same (λ p. is_between [] low (key p.key)) (λ p. is_key_before range p.key) places h.readable
        (λ p k. lowest p low ∙ ap not (lows p.key k.lawful) ∙ sym (ap (λ b. cond b (is_above false range.high p.key) (not (is_above true range.low p.key))) up))

    pub before_down : (high : List ℕ) → IsHighBound range high → range.descending ≡ true → count_of declaration high (8 ∷ []) rows ≡ count_by (λ p. is_key_before range p.key) places
    before_down high highs down =
        counted_between high (8 ∷ [])
        ∙ count_same (λ p. is_between high (8 ∷ []) (key p.key)) (λ p. is_key_before range p.key) places h.readable
        (λ p k. highest p high ∙ highs p.key k.lawful ∙ sym (ap (λ b. cond b (is_above false range.high p.key) (not (is_above true range.low p.key))) down))
