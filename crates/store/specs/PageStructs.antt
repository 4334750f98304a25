-- The pages that the structs of the code are.
-- This crate's own: it ties them to the definitions of `Pages`.
use Rattle.std.specs.Prelude.{◌≡◌, ◌<◌, ◌≤◌, ◌^◌, ℕ, All, IfSome, is_some, List, map, Option}
use Rattle.store.specs.Pages.{IdPage, SequencePage, SequenceRow}
use Rattle.store.specs.declared.listing.DocumentCounts.{DocumentCounts}
use Rattle.store.specs.declared.listing.IdRange.{IdRange}
use Rattle.store.specs.declared.listing.PageById.{PageById}
use Rattle.store.specs.declared.listing.PageBySeq.{PageBySeq}
use Rattle.store.specs.declared.listing.SeqRange.{SeqRange}
use Rattle.store.specs.declared.listing.SeqRow.{SeqRow}

abbrev pub sequence_row_of : SeqRow → SequenceRow
sequence_row_of r = record { sequence = r.sequence; id = r.id; revs = r.revs.items; deleted = r.deleted }

abbrev pub sequence_rows : List SeqRow → List SequenceRow
sequence_rows rs = map sequence_row_of rs

abbrev pub sequence_page_of : PageBySeq → SequencePage
sequence_page_of p =
    record {
      rows = sequence_rows p.rows.items;
      last = p.last_seq;
      sequence = p.sequence;
      counts = p.counts;
    }

-- sequences and counts are numbers that a JSON value may hold, and there are counts exactly where they are asked for
pub record IsBounded (range : SeqRange) (p : PageBySeq) : Type 0 where
  pub sequence : p.sequence < 2 ^ 63
  pub last : p.last_seq < 2 ^ 63
  pub rows : All (λ r. r.sequence < 2 ^ 63) p.rows.items
  pub counted : is_some p.counts ≡ range.counted
  pub counts : IfSome p.counts (λ counts. (counts.documents < 2 ^ 63) × (counts.deleted < 2 ^ 63))

-- what a page that is cut from these rows is bounded by: the database's sequence, the counts and the sequences of all rows
pub record AreBounded (range : SeqRange) (at : ℕ) (told : Option DocumentCounts) (all : List SeqRow) : Type 0 where
  pub sequence : at < 2 ^ 63
  pub rows : All (λ r. r.sequence < 2 ^ 63) all
  pub counted : is_some told ≡ range.counted
  pub counts : IfSome told (λ counts. (counts.documents < 2 ^ 63) × (counts.deleted < 2 ^ 63))

abbrev pub id_page_of : PageById → IdPage
id_page_of p = record { rows = p.rows.items; counts = p.counts }

-- no more rows come before the page than there are, a JSON value may hold the numbers, and there are counts exactly where they are
-- asked for
pub record IsCounted (range : IdRange) (p : PageById) : Type 0 where
  pub counted : is_some p.counts ≡ range.counted
  pub counts : IfSome p.counts (λ counts. (counts.offset ≤ counts.total) × (counts.total < 2 ^ 63))
