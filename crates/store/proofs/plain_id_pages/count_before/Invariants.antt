use Rattle.std.proofs.Common.{◌≡◌, ◌+◌, ◌≤◌, drop}
use Rattle.std.specs.List.{count_by}
use Rattle.store.specs.Pages.{is_before_start}
use Rattle.store.proofs.plain_id_pages.count_before.Given as goal

abbrev pub invariant-loop-row : goal.invariant-loop-row
invariant-loop-row l =
    (l.count + count_by (λ r. is_before_start l.range r.id) (drop l.row-index l.row-items) ≡ count_by (λ r. is_before_start l.range r.id) l.rows.items)
    × (l.count ≤ l.row-index)
