-- What the rows that a list of documents shows say, each as a row of a page.
-- This server's own layout, over `Pages` of `store`.
use Rattle.std.specs.Prelude.{◌≡◌, ℕ, ℤ, pos, negsuc, int_lt, min, Bool, false, not, ◌&&◌, if◌then◌else◌, IsTrue, IsUtf8, List, [], ◌∷◌, drop, filter, length, map, take, flat_map, Option, None, option_map}
use Rattle.std.specs.Cmp.Lexicographic.{slice_cmp}
use Rattle.std.specs.List.{count_by}
use Rattle.std.specs.Option.{option_to_list}
use Rattle.std.specs.Ordering.{is_le, is_lt, nat_cmp}
use Rattle.std.specs.declared.cmp.Ordering.{Ordering}
use Rattle.tree.specs.DocumentId.{is_document_id}
use Rattle.tree.specs.History.{leaves}
use Rattle.tree.specs.Revision.{Revision, revision_read}
use Rattle.store.specs.Pages.{SequenceRow}
use Rattle.store.specs.declared.listing.DocumentCounts.{DocumentCounts}
use Rattle.store.specs.declared.listing.IdRow.{IdRow}
use Rattle.sqlite_value.specs.declared.value.Value.{Value}
use Rattle.sqlite_value.specs.declared.value.Value.TheVariants.{Blob, Int}
use Rattle.sqlite_keyed.specs.Lists.{sort_by}
use Rattle.sqlite_value.specs.Order.{Row, bytes, column}
use Rattle.tables.specs.Rows.{by_id, count_in_cell, history_in_rows, id_of, is_gone_row, is_row_of_database, is_set, listed_document}
use Rattle.tables.specs.Shown.{IsCount, SpellsRevision}

-- the cells of such a row: the id, the sequence, the winner and whether it is deleted
abbrev pub listed_id : Row → List ℕ
listed_id s = bytes (column s 0)

abbrev pub listed_sequence : Row → ℕ
listed_sequence s = count_in_cell (column s 1)

abbrev pub listed_winner : Row → Option Revision
listed_winner s = revision_read (bytes (column s 2))

abbrev pub listed_mark : Row → Bool
listed_mark s = is_set (column s 3)

-- the row's sequence is above this one
abbrev pub comes_after : ℤ → Row → Bool
comes_after sequence s = int_lt sequence (pos (listed_sequence s))

-- so many, from the first on, and all of them where the number is negative
abbrev pub first_rows : {A : Type 0} → ℤ → List A → List A
first_rows (pos n) rows = take n rows
first_rows (negsuc n) rows = rows

-- those behind so many, and all of them where the number is negative
abbrev pub rows_behind : {A : Type 0} → ℤ → List A → List A
rows_behind (pos n) rows = drop n rows
rows_behind (negsuc n) rows = rows

-- ---- rows between two bounds of bytes

-- the bytes are not below the low bound, and below the high one
abbrev pub is_between : List ℕ → List ℕ → List ℕ → Bool
is_between low high bytes = is_le (slice_cmp nat_cmp low bytes) && is_lt (slice_cmp nat_cmp bytes high)

-- the row is that of a document whose id lies between the bounds
abbrev pub has_id_between : List ℕ → List ℕ → Row → Bool
has_id_between low high r = is_between low high (id_of r)

-- what names a document among those of all databases: the number of its database, and its id
abbrev pub named_document : Row → Row
named_document r = column r 1 ∷ column r 2 ∷ []

-- the winner is deleted, or is not, as it is asked for
abbrev pub has_mark : Bool → Bool → Bool
has_mark deleted gone = if deleted then gone else not gone

-- the row is that of a document of the database, whose winner is marked so and whose id lies between the bounds
abbrev pub is_marked_between : ℤ → Bool → List ℕ → List ℕ → Row → Bool
is_marked_between db deleted low high r = is_row_of_database db r && (has_mark deleted (is_gone_row r) && is_between low high (id_of r))

-- documents go by their ids, downwards the other way round
abbrev pub by_id_in : Bool → Row → Row → Ordering
by_id_in descending a b = if descending then by_id b a else by_id a b

-- the rows between the bounds whose winner is not deleted, in their order, as a query shows them: behind so many, up to so many or all
abbrev pub live_range : Bool → ℤ → List ℕ → List ℕ → ℤ → ℤ → List Row → List Row
live_range descending db low high most skip rows =
    first_rows most (rows_behind skip (map listed_document (sort_by (by_id_in descending) (filter (is_marked_between db false low high) rows))))

-- how many rows there are between the bounds
abbrev pub marked_count : ℤ → Bool → List ℕ → List ℕ → List Row → ℕ
marked_count db deleted low high rows = length (filter (is_marked_between db deleted low high) rows)

-- a number of rows, as a query shows it: at most the greatest number that SQLite holds
abbrev pub shown_count : ℕ → Row
shown_count n = Int (pos (min n 9223372036854775807)) ∷ []

-- ---- rows of pages

-- the row of a listing by id, where the winner is not deleted
abbrev pub live_row : Row → Option IdRow
live_row s = if listed_mark s then None else option_map (λ w. record { id = listed_id s; rev = w }) (listed_winner s)

abbrev pub live_rows : List Row → List IdRow
live_rows rows = flat_map (λ s. option_to_list (live_row s)) rows

-- the row of a listing by sequence, with the winner alone
abbrev pub sequence_row : Row → SequenceRow
sequence_row s = record { sequence = listed_sequence s; id = listed_id s; revs = option_to_list (listed_winner s); deleted = listed_mark s }

-- the same with all leaves of the document, whose revisions are among these rows
abbrev pub leaves_row : List Row → ℤ → Row → SequenceRow
leaves_row revs db s = record { sequence = listed_sequence s; id = listed_id s; revs = leaves (history_in_rows revs db (listed_id s)); deleted = listed_mark s }

-- how many of the winners are deleted, and how many are not
abbrev pub listed_counts : List Row → DocumentCounts
listed_counts rows = record { documents = count_by (λ s. not (listed_mark s)) rows; deleted = count_by listed_mark rows }

-- ---- when a row is such a row

-- the id of a document, as a text
abbrev pub SpellsId : Value → Type 0
SpellsId v = (id : List ℕ) × IsTrue (is_document_id id) × IsUtf8 id × (v ≡ Blob id)

pub record IsListedDocument (s : Row) : Type 0 where
  pub width : length s ≡ 4
  pub id : SpellsId (column s 0)
  pub sequence : IsCount (column s 1)
  pub winner : SpellsRevision (column s 2)
  pub mark : IsCount (column s 3)
