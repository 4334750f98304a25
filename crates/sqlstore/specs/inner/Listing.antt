-- The parts of a page that are made of the rows of a list, of histories and of what is counted.
-- This server's own: pages are those of `store`, rows are read by the words of `tables`.
use Rattle.std.specs.FinMap.{entries}
use Rattle.std.specs.Prelude.{◌≡◌, ◌<◌, ◌^◌, ◌⊎◌, ◌&&◌, ℕ, ℤ, Bool, false, pos, negsuc, Option, Some, option_map, List, filter, map}
use Rattle.std.specs.List.{AllByRecursion, count_by}
use Rattle.tree.specs.History.{HistoryContent, leaves}
use Rattle.store.specs.Database.{Database}
use Rattle.store.specs.Pages.{SequencePage, SequenceRow, if_counted, is_gone, later_rows, sequence_page}
use Rattle.store.specs.declared.listing.SeqRange.{SeqRange}
use Rattle.sqlite_value.specs.Order.{Row}
use Rattle.sqlite_trees.specs.Tree.{Trees}
use Rattle.sqlite_keyed.specs.Lists.{sort_by}
use Rattle.tables.specs.Listings.{IsListedDocument, has_mark, listed_counts, listed_mark, listed_sequence, sequence_row}
use Rattle.tables.specs.Rows.{by_id, by_sequence, id_of, is_gone_row as is_gone_row, is_row_of_database, listed_document}
use Rattle.tables.specs.Schema.{docs_tree}

-- the rows of all documents of a database, as a list of them shows them, by id
abbrev pub listed_by_id : Trees → ℤ → List Row
listed_by_id trees db = map listed_document (sort_by by_id (filter (is_row_of_database db) (trees docs_tree)))

-- and by sequence
abbrev pub listed_by_sequence : Trees → ℤ → List Row
listed_by_sequence trees db = map listed_document (sort_by by_sequence (filter (is_row_of_database db) (trees docs_tree)))

-- how many documents of a database have a winner that is deleted, or is not, as it is asked for
abbrev pub all_count : Trees → ℤ → Bool → ℕ
all_count trees db deleted = count_by (λ s. has_mark deleted (listed_mark s)) (listed_by_sequence trees db)

-- the ids of the documents of a database whose winner is not deleted, in the order of their rows
abbrev pub live_ids : Trees → ℤ → List (List ℕ)
live_ids trees db = map id_of (filter (λ r. is_row_of_database db r && has_mark false (is_gone_row r)) (trees docs_tree))

-- the same, of the documents that a database holds
abbrev pub document_count : Bool → Database → ℕ
document_count deleted db = count_by (λ e. has_mark deleted (is_gone e.1.history)) (entries db.documents)

-- the page by sequence of such rows, with winners alone
abbrev pub winners_page : SeqRange → ℕ → List Row → SequencePage
winners_page range sequence rows =
    sequence_page range sequence (if_counted range.counted (listed_counts rows)) (map sequence_row rows)

-- ---- rows that are enough

-- a limit of a statement by which no row is lost that a page has: the page's own, or none
abbrev pub IsLimitFor : Option ℕ → ℤ → Type 0
IsLimitFor limit n = (n ≡ negsuc 0) ⊎ (option_map pos limit ≡ Some n)

-- the row of a document at a sequence that a page may hold
pub record IsSequenceRow (s : Row) : Type 0 where
  pub listed : IsListedDocument s
  pub small : listed_sequence s < 2 ^ 63

-- these rows have those of a page by sequence of all of them
pub record AreEnoughBySequence (range : SeqRange) (all rows : List Row) : Type 0 where
  pub page : later_rows range (map sequence_row rows) ≡ later_rows range (map sequence_row all)
  pub intact : AllByRecursion IsSequenceRow all → AllByRecursion IsSequenceRow rows

-- a row with all leaves of its document
abbrev pub with_leaves : (List ℕ → HistoryContent) → SequenceRow → SequenceRow
with_leaves history r = record r { revs = leaves (history r.id) }

-- a page of such rows
abbrev pub page_with_leaves : (List ℕ → HistoryContent) → SequencePage → SequencePage
page_with_leaves history p = record p { rows = map (with_leaves history) p.rows }
