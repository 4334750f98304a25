-- Changes that are listed page by page: what has come, and what is still to come.
-- This crate's own: it ties the loop of the code to the definition of `Changes`.
use Rattle.std.specs.Prelude.{ℕ, ◌-◌, ◌++◌, Bool, List, codes, filter, map, min, nat_lt, Option, Some, None, pos}
use Rattle.std.specs.FinMap.{entries}
use Rattle.couch_json.specs.Value.{Value, whole, array, object, no_members, member}
use Rattle.couch_json.specs.View.{items_of}
use Rattle.store.specs.Database.{Database}
use Rattle.store.specs.Pages.{SequenceRow, in_sequence, last_sequence, rows_of, up_to_limit}
use Rattle.read.specs.Changes.{change_object}
use Rattle.read.specs.declared.change_pages.ChangesSoFar.{ChangesSoFar}

-- how many rows the next page has at most
abbrev pub page_size : Option ℕ → ℕ
page_size None = 1000
page_size (Some left) = min left 1000

-- how many rows are wanted at most, once so many have come
abbrev pub left_after : Option ℕ → ℕ → Option ℕ
left_after None count = None
left_after (Some left) count = Some (left - count)

-- the rows that ascend and lie after a sequence
abbrev pub later_than : ℕ → List SequenceRow → List SequenceRow
later_than since rows = filter (λ r. nat_lt since r.sequence) rows

-- the rows that are still to come
abbrev pub rows_to_come : Bool → ChangesSoFar → Database → List SequenceRow
rows_to_come leaves so_far db = up_to_limit so_far.left (later_than so_far.since (in_sequence (rows_of leaves (entries db.documents))))

-- the object, once these rows have come too
abbrev pub whole_changes : ChangesSoFar → List SequenceRow → Value
whole_changes so_far rows =
    object
    (member (codes "last_seq") (whole (pos (last_sequence so_far.last rows)))
    (member (codes "results") (array (items_of (so_far.results ++ map change_object rows))) no_members))
