-- Rows that are listed page by page: what has come, and what is still to come.
-- This crate's own: it ties the loops of the code to the definitions of `Listing` and `Views`.
use Rattle.std.specs.Prelude.{ℕ, ◌+◌, ◌/◌, ◌<◌, ◌^◌, ◌++◌, List, [], drop, length, map, min, take, Option, Some, None}
use Rattle.std.specs.FinMap.{entries}
use Rattle.couch_json.specs.Value.{Value}
use Rattle.store.specs.Database.{Database}
use Rattle.store.specs.Indexes.{IndexPlace, index_fields_at, index_rows}
use Rattle.store.specs.KeyPages.{key_rows_within}
use Rattle.store.specs.Pages.{live_rows, rows_within}
use Rattle.store.specs.declared.index_page.KeyRange.{KeyRange}
use Rattle.store.specs.declared.listing.IdRange.{IdRange}
use Rattle.store.specs.declared.listing.IdRow.{IdRow}
use Rattle.read.specs.declared.listing_pages.RowsSoFar.{RowsSoFar}

abbrev pub greatest_number : ℕ
greatest_number = 18446744073709551615

-- how many rows the next page has at most
abbrev pub page_size : RowsSoFar → ℕ
page_size so_far = min so_far.left (1000 + so_far.skip / 4)

-- no limit is as good as the greatest number
abbrev pub rows_wanted : Option ℕ → ℕ
rows_wanted None = greatest_number
rows_wanted (Some limit) = limit

-- there are no more rows than can be counted
abbrev pub AreCountable : {X : Type 0} → List X → Type 0
AreCountable rows = length rows < 2 ^ 63

-- the objects, once those of these rows that are still to come have come too
abbrev pub whole_list : {X : Type 0} → (X → Value) → List X → RowsSoFar → List Value
whole_list shown rows so_far = so_far.rows ++ map shown (take so_far.left (drop so_far.skip rows))

-- ---- the rows of a range, of which a list has a part

abbrev pub rows_by_id : IdRange → Database → List IdRow
rows_by_id range db = rows_within range (live_rows (entries db.documents))

abbrev pub rows_by_fields : KeyRange → Database → Option (List (List ℕ)) → List IndexPlace
rows_by_fields range db None = []
rows_by_fields range db (Some fields) = key_rows_within range (index_rows fields db)

-- where the design document declares no such index there are none
abbrev pub rows_by_key : KeyRange → List ℕ → List ℕ → Database → List IndexPlace
rows_by_key range design name db = rows_by_fields range db (index_fields_at db design name)
