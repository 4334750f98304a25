-- The rows that a database is listed by, in the order of its writes and by id, cut by a range, with the counts of the database where they are asked for.
-- CouchDB manual, api/database/changes (`_changes`: `since`, `limit`, `style`, `last_seq`), api/database/bulk-api (`_all_docs`: `startkey`, `endkey`, `inclusive_end`, `descending`, `skip`, `limit`, `offset`, `total_rows`) and api/database/common (`doc_count`, `doc_del_count`, `update_seq`); that ids are ordered by their bytes is this server's own.
use Rattle.std.specs.Prelude.{◌≡◌, ◌<◌, ℕ, ◌+◌, ◌-◌, Bool, true, false, not, ◌||◌, List, [], ◌∷◌, map, filter, length, min, nat_lt, take, drop, reverse, Option, Some, None, if◌then◌else◌}
use Rattle.std.specs.List.{count_by}
use Rattle.std.specs.Option.{option_to_list}
use Rattle.std.specs.Ordering.{nat_cmp, is_lt}
use Rattle.std.specs.Cmp.Lexicographic.{slice_cmp}
use Rattle.std.specs.FinMap.{entries, get, put}
use Rattle.tree.specs.Revision.{Revision}
use Rattle.tree.specs.History.{HistoryContent, held_of, is_deleted, leaves, winner}
use Rattle.store.specs.Database.{Database, Document}
use Rattle.store.specs.declared.listing.DocumentCounts.{DocumentCounts}
use Rattle.store.specs.declared.listing.IdRange.{IdRange}
use Rattle.store.specs.declared.listing.IdRow.{IdRow}
use Rattle.store.specs.declared.listing.RowCounts.{RowCounts}
use Rattle.store.specs.declared.listing.SeqRange.{SeqRange}

-- counts come where they are asked for
abbrev pub if_counted : {A : Type 0} → Bool → A → Option A
if_counted false counts = None
if_counted true counts = Some counts

-- a document at the sequence of its latest write
pub record SequenceRow : Type 0 where
  pub sequence : ℕ
  pub id : List ℕ
  pub revs : List Revision
  pub deleted : Bool

-- a page of a list by sequence: its rows, the last sequence that it has seen, the sequence of the database, and the counts if they were wanted
pub record SequencePage : Type 0 where
  pub rows : List SequenceRow
  -- the sequence of the last of these rows, or what stands for it where there is none
  pub last : ℕ
  -- the database's own sequence
  pub sequence : ℕ
  -- how many documents it has whose winner is not deleted, and whose winner is
  pub counts : Option DocumentCounts

-- whether the winner is deleted
abbrev pub is_gone_by : HistoryContent → Option Revision → Bool
is_gone_by h None = false
is_gone_by h (Some r) = is_deleted (held_of h r)

-- the winner of a history is deleted
abbrev pub is_gone : HistoryContent → Bool
is_gone h = is_gone_by h (winner h)

-- all leaves, best first, or the winner alone
abbrev pub shown_revs : Bool → HistoryContent → List Revision
shown_revs true h = leaves h
shown_revs false h = option_to_list (winner h)

-- a document as a row: its sequence, its id, its winner or all leaves, and whether it is deleted
abbrev pub row_of : Bool → List ℕ × Document → SequenceRow
row_of all e = record { sequence = e.1.sequence; id = e.0; revs = shown_revs all e.1.history; deleted = is_gone e.1.history }

-- one row for each document, by id
abbrev pub rows_of : Bool → List (List ℕ × Document) → List SequenceRow
rows_of all es = map (row_of all) es

-- each row put at its sequence among others: no two documents have the same
abbrev pub put_in_sequence : List SequenceRow → List (ℕ × SequenceRow) → List (ℕ × SequenceRow)
put_in_sequence [] among = among
put_in_sequence (r ∷ rs) among = put nat_cmp r.sequence r (put_in_sequence rs among)

-- the same rows, ascending by sequence
abbrev pub in_sequence : List SequenceRow → List SequenceRow
in_sequence rs = map (λ e. e.1) (put_in_sequence rs [])

-- no limit means all
abbrev pub up_to_limit : {A : Type 0} → Option ℕ → List A → List A
up_to_limit None rs = rs
up_to_limit (Some n) rs = take n rs

-- the sequence of the last row; without rows the smaller of what was asked for and the database's sequence
abbrev pub last_sequence : ℕ → List SequenceRow → ℕ
last_sequence otherwise [] = otherwise
last_sequence otherwise (r ∷ rs) = last_sequence r.sequence rs

-- the rows after a sequence, up to the limit
abbrev pub rows_after : SeqRange → List SequenceRow → List SequenceRow
rows_after range rs = up_to_limit range.limit (filter (λ r. nat_lt range.since r.sequence) (in_sequence rs))

-- those of rows that ascend
abbrev pub later_rows : SeqRange → List SequenceRow → List SequenceRow
later_rows range rs = up_to_limit range.limit (filter (λ r. nat_lt range.since r.sequence) rs)

-- the page of rows that ascend, in a database at this sequence
abbrev pub sequence_page : SeqRange → ℕ → Option DocumentCounts → List SequenceRow → SequencePage
sequence_page range sequence counts rs =
    record {
      rows = later_rows range rs;
      last = last_sequence (min range.since sequence) (later_rows range rs);
      sequence = sequence;
      counts = counts;
    }

-- how many of the documents have a winner that is deleted, and how many have not
abbrev pub gone_count : List (List ℕ × Document) → ℕ
gone_count es = count_by (λ e. is_gone e.1.history) es

-- how many documents are not deleted
abbrev pub live_count : List (List ℕ × Document) → ℕ
live_count es = length es - gone_count es

-- how many documents are there, and how many are deleted
abbrev pub document_counts : List (List ℕ × Document) → DocumentCounts
document_counts es = record { documents = live_count es; deleted = gone_count es }

-- the rows behind a sequence up to a limit, with the sequence of the database, and the counts if they are wanted
abbrev pub page_with : SeqRange → ℕ → List (List ℕ × Document) → SequencePage
page_with range sequence es =
    record {
      rows = rows_after range (rows_of range.all_leaves es);
      last = last_sequence (min range.since sequence) (rows_after range (rows_of range.all_leaves es));
      sequence = sequence;
      counts = if_counted range.counted (document_counts es);
    }

-- the page of this database
abbrev pub page_by_sequence : SeqRange → Database → SequencePage
page_by_sequence range db = page_with range db.length (entries db.documents)

-- the row is that of a document whose sequence is above the one that the range begins after
pub record IsRowOf (range : SeqRange) (db : Database) (r : SequenceRow) : Type 0 where
  pub document : Document
  pub there : get db.documents r.id ≡ Some document
  pub later : range.since < document.sequence
  pub is : row_of range.all_leaves (r.id, document) ≡ r

-- ---- by id

-- a page of a list by id: its rows, and where they stand among all, if that was wanted
pub record IdPage : Type 0 where
  pub rows : List IdRow
  -- how many rows come before these, of those outside the range only the ones before its start; and how many there are without any
  -- range
  pub counts : Option RowCounts

-- the winner, where it is not deleted
abbrev pub live_rev_by : HistoryContent → Option Revision → Option Revision
live_rev_by h None = None
live_rev_by h (Some r) = if is_deleted (held_of h r) then None else Some r

-- the winner of a history, unless it is deleted
abbrev pub live_rev : HistoryContent → Option Revision
live_rev h = live_rev_by h (winner h)

-- a row in front of the others, where there is a revision to show
abbrev pub with_row : List ℕ → Option Revision → List IdRow → List IdRow
with_row id None rs = rs
with_row id (Some r) rs = record { id = id; rev = r } ∷ rs

-- a row for each document whose winner is not deleted, ascending
abbrev pub live_rows : List (List ℕ × Document) → List IdRow
live_rows [] = []
live_rows (e ∷ es) = with_row e.0 (live_rev e.1.history) (live_rows es)

-- in this direction a comes before b
abbrev pub comes_before : Bool → List ℕ → List ℕ → Bool
comes_before descending a b = if descending then is_lt (slice_cmp nat_cmp b a) else is_lt (slice_cmp nat_cmp a b)

-- the same of a start, if there is one
abbrev pub is_before_start_of : Bool → Option (List ℕ) → List ℕ → Bool
is_before_start_of descending None id = false
is_before_start_of descending (Some start) id = comes_before descending id start

-- the same of an end, if there is one, which may belong to the range
abbrev pub is_after_end_of : Bool → Bool → Option (List ℕ) → List ℕ → Bool
is_after_end_of descending inclusive None id = false
is_after_end_of descending inclusive (Some end) id =
    if inclusive then comes_before descending end id else not (comes_before descending id end)

-- an id comes before the start of a range, in its direction
abbrev pub is_before_start : IdRange → List ℕ → Bool
is_before_start range id = is_before_start_of range.descending range.start id

-- an id comes behind the end of a range, in its direction
abbrev pub is_after_end : IdRange → List ℕ → Bool
is_after_end range id = is_after_end_of range.descending range.inclusive_end range.end id

-- an id neither before the start of a range nor behind its end
abbrev pub is_within : IdRange → List ℕ → Bool
is_within range id = not (is_before_start range id || is_after_end range id)

-- a list, or its reverse
abbrev pub in_direction : {A : Type 0} → Bool → List A → List A
in_direction descending rs = if descending then reverse rs else rs

-- the rows of the range, in its direction
abbrev pub rows_within : IdRange → List IdRow → List IdRow
rows_within range rs = filter (λ r. is_within range r.id) (in_direction range.descending rs)

-- how many rows come before a range or are skipped, and how many there are
abbrev pub row_counts : IdRange → List IdRow → RowCounts
row_counts range rs =
    record {
      offset = count_by (λ r. is_before_start range r.id) rs + min range.skip (length (rows_within range rs));
      total = length rs;
    }

-- the part of the rows within a range that it selects, with the counts if they are wanted
abbrev pub id_page : IdRange → List IdRow → IdPage
id_page range rs =
    record { rows = up_to_limit range.limit (drop range.skip (rows_within range rs)); counts = if_counted range.counted (row_counts range rs) }

-- the page of this database
abbrev pub page_of_ids : IdRange → Database → IdPage
page_of_ids range db = id_page range (live_rows (entries db.documents))

-- the row is that of a document of the range whose winner is not deleted
pub record IsIdRowOf (range : IdRange) (db : Database) (r : IdRow) : Type 0 where
  pub document : Document
  pub there : get db.documents r.id ≡ Some document
  pub live : live_rev document.history ≡ Some r.rev
  pub within : is_within range r.id ≡ true
