-- Some rows of a list of documents have those of the page that all of them make.
use Rattle.sqlstore.proofs.Common.{AreEnoughBySequence, Bool, Err, IfOk, IsLimitFor, IsSequenceRow, List, None, Ok, Option, Result, Row, SeqRange, SequenceRow, Some, all-filter, ap, ap₂, arith, comes_after, filter, filter-map, filter_all, filter_same, first_rows, inl, inr, if_counted, int_lt, ints, last_sequence, later_rows, listed_counts, listed_sequence, map, nat_lt, nat_tests, option_map, pos, refl, sequence_page, sequence_row, subst, sym, take, take-map, true, up_to_limit, winners_page, ℕ, ℤ, ◌∙◌, ◌≡◌}
use Rattle.std.proofs.Common.{min}
use Rattle.std.proofs.lemmas.List.{take-take}
use Rattle.store.specs.declared.listing.DocumentCounts.{DocumentCounts}
use Rattle.tables.proofs.RowMaps.{passing}
use Rattle.index.proofs.PagePlaces.{all_taken}
use Rattle.sqlstore.proofs.Cuts.{first_all}

-- rows that pass, once and again, with a limit or none
module _ {X : Type 0} (q : X → Bool) (xs : List X) where
  again : (limit : Option ℕ) → up_to_limit limit (filter q (filter q xs)) ≡ up_to_limit limit (filter q xs)
  again limit = ap (up_to_limit limit) (filter_all q (filter q xs) (passing q xs))

  limited_again : (n : ℕ) → take n (filter q (take n (filter q xs))) ≡ take n (filter q xs)
  limited_again n = ap (take n) (filter_all q (take n (filter q xs)) (all_taken (λ x. q x ≡ true) n (filter q xs) (passing q xs))) ∙ take-take n n (filter q xs) (omega arith)

later_same : (n m : ℕ) → int_lt (pos n) (pos m) ≡ nat_lt n m
later_same n m = grind (arith, ints, nat_tests)

module _ (range : SeqRange) (all : List Row) where
  abbrev is_later : SequenceRow → Bool
  is_later r = nat_lt range.since r.sequence

  rows_left : map sequence_row (filter (comes_after (pos range.since)) all) ≡ filter is_later (map sequence_row all)
  rows_left = ap (map sequence_row) (filter_same (comes_after (pos range.since)) (λ s. nat_lt range.since (listed_sequence s)) (λ s. later_same range.since (listed_sequence s)) all) ∙ sym (filter-map is_later sequence_row all)

  later_left : (limit : ℤ) → IsLimitFor range.limit limit → later_rows range (map sequence_row (first_rows limit (filter (comes_after (pos range.since)) all))) ≡ later_rows range (map sequence_row all)
  later_left limit (inl none) =
      ap (λ n. later_rows range (map sequence_row (first_rows n (filter (comes_after (pos range.since)) all)))) none
      ∙ ap (later_rows range) rows_left ∙ again is_later (map sequence_row all) range.limit
  later_left limit (inr some) = go range.limit limit refl some
    where
      go : (most : Option ℕ) (limit : ℤ) → range.limit ≡ most → option_map pos most ≡ Some limit
          → later_rows range (map sequence_row (first_rows limit (filter (comes_after (pos range.since)) all))) ≡ later_rows range (map sequence_row all)
      go None limit is some = absurd (cc)
      go (Some n) limit is some =
          let same : limit ≡ pos n = cc in
          ap (λ k. later_rows range (map sequence_row (first_rows k (filter (comes_after (pos range.since)) all)))) same
          ∙ ap (λ o. up_to_limit o (filter is_later (map sequence_row (take n (filter (comes_after (pos range.since)) all))))) is
          ∙ ap (λ l. take n (filter is_later l)) (sym (take-map sequence_row n (filter (comes_after (pos range.since)) all)) ∙ ap (take n) rows_left)
          ∙ limited_again is_later (map sequence_row all) n
          ∙ sym (ap (λ o. up_to_limit o (filter is_later (map sequence_row all))) is)

  pub enough_by_sequence : (limit : ℤ) → IsLimitFor range.limit limit → (rows : List Row) → rows ≡ first_rows limit (filter (comes_after (pos range.since)) all) → AreEnoughBySequence range all rows
  enough_by_sequence limit is rows found =
      subst (AreEnoughBySequence range all) (sym found)
      (record {
        page = later_left limit is;
        intact = λ h. first_all IsSequenceRow limit (filter (comes_after (pos range.since)) all) (all-filter IsSequenceRow (comes_after (pos range.since)) all h);
      })

-- ---- where they are answered

pub if_enough_by_sequence : {X E : Type 0} (r : Result X E) (items : X → List Row) (range : SeqRange) (since limit told : ℤ) → since ≡ pos range.since → limit ≡ told → IsLimitFor range.limit told → (all : List Row)
    → IfOk r (λ x. items x ≡ first_rows limit (filter (comes_after since) all)) → IfOk r (λ x. AreEnoughBySequence range all (items x))
if_enough_by_sequence (Ok x) items range since limit told is same most all h =
    enough_by_sequence range all told most (items x) (h ∙ ap₂ (λ m n. first_rows m (filter (comes_after n) all)) same is)
if_enough_by_sequence (Err x) items range since limit told is same most all h = tt

-- the page is made of these rows, and of the counts of all
pub page_of_enough : (range : SeqRange) (sequence : ℕ) (all rows : List Row) (counts : Option DocumentCounts) → AreEnoughBySequence range all rows → if_counted range.counted (listed_counts all) ≡ counts
    → winners_page range sequence all ≡ sequence_page range sequence counts (map sequence_row rows)
page_of_enough range sequence all rows counts enough told =
    ap₂ (λ rs n. record { rows = rs; last = last_sequence (min range.since sequence) rs; sequence = sequence; counts = n }) (sym enough.page) told
