-- The numbers of a page that writes made are not above their count.
use Rattle.std.proofs.Common.{◌≡◌, ℕ, ◌≤◌, List, [], length, Option, sym, ap, subst, ap₂, ◌∙◌, arith}
use Rattle.std.specs.List.{All}
use Rattle.std.proofs.lemmas.List.{get_or-map, length-map}
use Rattle.couch_json.specs.Value.{null}
use Rattle.store.specs.Database.{empty_database}
use Rattle.store.specs.Pages.{SequencePage, page_by_sequence, page_with}
use Rattle.store.specs.PageStructs.{sequence_row_of, sequence_rows}
use Rattle.store.specs.Plain.{gathered_after, written_content}
use Rattle.store.specs.Writing.{Addition, writings_in}
use Rattle.store.specs.declared.listing.DocumentCounts.{DocumentCounts}
use Rattle.store.specs.declared.listing.SeqRange.{SeqRange}
use Rattle.store.specs.declared.listing.SeqRow.{SeqRow}
use Rattle.store.proofs.Laters.{sequences_by_all}
use Rattle.store.proofs.Lawfuls.{lawful_empty}
use Rattle.store.proofs.PageStructs.{entries-written_content, length-written_content}
use Rattle.store.proofs.Rows.{page_within, rows_within}

all_from_map : (n : ℕ) (rs : List SeqRow) → All (λ r. r.sequence ≤ n) (sequence_rows rs) → All (λ r. r.sequence ≤ n) rs
all_from_map n rs h =
    λ k d lt. omega (arith, h k (sequence_row_of d) (omega (arith, lt, length-map rs sequence_row_of)), ap (λ r. r.sequence) (get_or-map sequence_row_of rs k d (sequence_row_of d) lt))

pub page_bounded : (range : SeqRange) (all : List Addition) (last n : ℕ) (rows : List SeqRow) (counts : Option DocumentCounts) → n ≡ length all
    → record { rows = sequence_rows rows; last = last; sequence = n; counts = counts } ≡ page_with range n (gathered_after 0 [] all)
    → (last ≤ n) × All (λ r. r.sequence ≤ n) rows
page_bounded range all last n rows counts count is =
    let e = empty_database null in
    let db = written_content null all in
    let h = sequences_by_all (writings_in e all) e (lawful_empty null).sequences in
    let long : (written_content null all).length ≡ n = length-written_content null all ∙ sym count in
    let page : record { rows = sequence_rows rows; last = last; sequence = n; counts = counts } ≡ page_by_sequence range (written_content null all) =
    is ∙ ap (λ k. page_with range k (gathered_after 0 [] all)) count ∙ sym (ap₂ (page_with range) (length-written_content null all) (entries-written_content null all)) in
    let below = subst (λ (p : SequencePage). All (λ r. r.sequence ≤ (written_content null all).length) p.rows) (sym page) (rows_within range db h) in
    (omega (arith, ap (λ (p : SequencePage). p.last) page, page_within range db h, long), all_from_map n rows (subst (λ k. All (λ r. r.sequence ≤ k) (sequence_rows rows)) long below))
