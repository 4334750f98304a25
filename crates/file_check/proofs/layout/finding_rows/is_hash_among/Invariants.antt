use Rattle.std.proofs.Common.{◌≡◌, drop}
use Rattle.std.specs.List.{list_any}
use Rattle.file_check.specs.inner.Queries.{is_shown_hash}
use Rattle.file_check.proofs.layout.finding_rows.is_hash_among.Given as goal

abbrev pub invariant-loop-row : goal.invariant-loop-row
invariant-loop-row l = list_any (is_shown_hash l.hash) (drop l.row-index l.rows) ≡ list_any (is_shown_hash l.hash) l.rows
