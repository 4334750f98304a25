-- The rows that an index lists, cut by a range of keys, with their counts where those are asked for.
-- CouchDB manual, api/ddoc/views (`startkey`, `endkey`, `inclusive_end`, `descending`, `skip`, `limit`, `offset`, `total_rows`) and ddocs/views/collation (the order of keys).
use Rattle.std.specs.Prelude.{ℕ, ◌+◌, Bool, true, false, not, ◌&&◌, List, filter, length, min, drop, Option, Some, None, option_map, if◌then◌else◌}
use Rattle.std.specs.List.{count_by}
use Rattle.std.specs.Ordering.{is_ge, is_gt}
use Rattle.couch_json.specs.Collation.{collation}
use Rattle.couch_json.specs.KeyCuts.{extends_key}
use Rattle.couch_json.specs.Value.{Value}
use Rattle.store.specs.Database.{Database}
use Rattle.store.specs.Indexes.{IndexPlace, index_fields_at, index_rows}
use Rattle.store.specs.Pages.{if_counted, in_direction, up_to_limit}
use Rattle.store.specs.declared.index_page.CutSide.{CutSide}
use Rattle.store.specs.declared.index_page.CutSide.TheVariants.{Before, After, AfterPrefix}
use Rattle.store.specs.declared.index_page.KeyCut.{KeyCut}
use Rattle.store.specs.declared.index_page.KeyRange.{KeyRange}
use Rattle.store.specs.declared.listing.RowCounts.{RowCounts}

-- ---- cuts between keys

-- a key lies above a cut before k where it is k or greater; above a cut after k where it is greater; and above a cut after the
-- keys that begin with the elements of k where it is greater than k and does not begin with them
abbrev pub lies_above : CutSide → Value → Value → Bool
lies_above Before k key = is_ge (collation key k)
lies_above After k key = is_gt (collation key k)
lies_above AfterPrefix k key = is_gt (collation key k) && not (extends_key k key)

-- all keys lie above where nothing is cut off below, and none does where nothing is cut off above
abbrev pub is_above : Bool → Option KeyCut → Value → Bool
is_above otherwise None key = otherwise
is_above otherwise (Some cut) key = lies_above cut.side cut.key key

-- ---- the rows of a range

-- the key lies above the low cut, and not above the high one
abbrev pub is_key_within : KeyRange → Value → Bool
is_key_within range key = is_above true range.low key && not (is_above false range.high key)

-- the key comes before the range, in its direction
abbrev pub is_key_before : KeyRange → Value → Bool
is_key_before range key = if range.descending then is_above false range.high key else not (is_above true range.low key)

-- the rows of the range, in its direction
abbrev pub key_rows_within : KeyRange → List IndexPlace → List IndexPlace
key_rows_within range rs = filter (λ r. is_key_within range r.key) (in_direction range.descending rs)

-- how many rows come before those of the page, and how many the index has
abbrev pub key_counts : KeyRange → List IndexPlace → RowCounts
key_counts range rs =
    record {
      offset = count_by (λ r. is_key_before range r.key) rs + min range.skip (length (key_rows_within range rs));
      total = length rs;
    }

-- a page of a list by key: its rows, and where they stand among all, if that was wanted
pub record KeyPage : Type 0 where
  pub rows : List IndexPlace
  pub counts : Option RowCounts

-- the part of the rows within a range that it selects, with the counts if they are wanted
abbrev pub key_page : KeyRange → List IndexPlace → KeyPage
key_page range rs =
    record {
      rows = up_to_limit range.limit (drop range.skip (key_rows_within range rs));
      counts = if_counted range.counted (key_counts range rs);
    }

-- the page of an index of this database, where the design document declares one of this name
abbrev pub page_of_keys : KeyRange → List ℕ → List ℕ → Database → Option KeyPage
page_of_keys range design name db = option_map (λ fields. key_page range (index_rows fields db)) (index_fields_at db design name)
