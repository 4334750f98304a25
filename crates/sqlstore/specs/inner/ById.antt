-- What a page by id is read from: the rows of the documents between two bounds of bytes.
-- This server's own: what the rows say is said by `tables`, and what a page is by `store`.
use Rattle.std.specs.Prelude.{◌≡◌, ℕ, ℤ, pos, Bool, false, true, not, if◌then◌else◌, IsUtf8, List, Option, None, Some}
use Rattle.std.specs.Cmp.Lexicographic.{slice_cmp}
use Rattle.std.specs.Ordering.{is_le, is_lt, nat_cmp}
use Rattle.sqlite_value.specs.Order.{Row}
use Rattle.store.specs.Pages.{is_after_end, is_before_start}
use Rattle.store.specs.declared.listing.IdRange.{IdRange}
use Rattle.tables.specs.Listings.{live_range}
use Rattle.sqlstore.specs.inner.Listing.{IsLimitFor}

-- the bytes are not below the bound
abbrev pub is_at_least : List ℕ → List ℕ → Bool
is_at_least bound bytes = is_le (slice_cmp nat_cmp bound bytes)

-- the text lies above the end of a range that is cut before it or behind it; without an end above all texts or below them
abbrev pub lies_above : Option (List ℕ) → Bool → Bool → List ℕ → Bool
lies_above None behind above_all text = not above_all
lies_above (Some end) behind above_all text = if behind then is_lt (slice_cmp nat_cmp end text) else is_at_least end text

-- the ids that are not below this bound are those that are not cut off at the low end of the range
abbrev pub IsLowIdBound : IdRange → List ℕ → Type 0
IsLowIdBound range bound = (id : List ℕ) → IsUtf8 id → is_at_least bound id ≡ not (if range.descending then is_after_end range id else is_before_start range id)

-- and those that are not below this one are cut off at its high end
abbrev pub IsHighIdBound : IdRange → List ℕ → Type 0
IsHighIdBound range bound = (id : List ℕ) → IsUtf8 id → is_at_least bound id ≡ (if range.descending then is_before_start range id else is_after_end range id)

-- the rows of a range, as a statement shows them whose limit loses none of them
abbrev pub IsLiveRangeOf : IdRange → ℤ → List ℕ → List ℕ → List Row → List Row → Type 0
IsLiveRangeOf range db low high rows shown = (most : ℤ) × IsLimitFor range.limit most × (shown ≡ live_range range.descending db low high most (pos range.skip) rows)

-- a list upwards from the one bound that skips so many rows is that from the other which skips so many, whatever its end and its limit
abbrev pub IsSameFrom : ℤ → List Row → List ℕ → ℕ → List ℕ → ℕ → Type 0
IsSameFrom db rows low skip bound rest =
    (high : List ℕ) (most : ℤ) → live_range false db low high most (pos skip) rows ≡ live_range false db bound high most (pos rest) rows

-- and so is a list downwards
abbrev pub IsSameDownFrom : ℤ → List Row → List ℕ → ℕ → List ℕ → ℕ → Type 0
IsSameDownFrom db rows high skip bound rest =
    (low : List ℕ) (most : ℤ) → live_range true db low high most (pos skip) rows ≡ live_range true db low bound most (pos rest) rows
