use Rattle.std.proofs.Common.{◌≡◌, drop}
use Rattle.store.specs.Pages.{last_sequence}
use Rattle.store.specs.PageStructs.{sequence_rows}
use Rattle.store.proofs.plain_sequence_pages.find_last_sequence.Given as goal

abbrev pub invariant-loop-row : goal.invariant-loop-row
invariant-loop-row l = last_sequence l.last (sequence_rows (drop l.row-index l.row-items)) ≡ last_sequence l.otherwise (sequence_rows l.rows.items)
