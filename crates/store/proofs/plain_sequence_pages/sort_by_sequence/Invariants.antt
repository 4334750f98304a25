use Rattle.std.proofs.Common.{◌≡◌, [], length}
use Rattle.store.specs.Pages.{put_in_sequence}
use Rattle.store.specs.PageStructs.{sequence_rows}
use Rattle.store.proofs.PageStructs.{keyed}
use Rattle.store.proofs.plain_sequence_pages.sort_by_sequence.Given as goal

abbrev pub invariant-loop-row : goal.invariant-loop-row
invariant-loop-row l = put_in_sequence (sequence_rows l.rows.items) (keyed l.ordered.entries) ≡ put_in_sequence (sequence_rows l.initial.rows.items) []

abbrev pub decreases-loop-row : goal.decreases-loop-row
decreases-loop-row l = length l.rows.items
