use Rattle.std.proofs.Common.{◌≡◌, ◌+◌, ◌≤◌, drop}
use Rattle.std.specs.List.{count_by}
use Rattle.store.specs.KeyPages.{is_key_before}
use Rattle.store.proofs.plain_index_pages.count_before.Given as goal

abbrev pub invariant-loop-row : goal.invariant-loop-row
invariant-loop-row l =
    (l.count + count_by (λ r. is_key_before l.range r.key) (drop l.row-index l.row-items) ≡ count_by (λ r. is_key_before l.range r.key) l.rows.items)
    × (l.count ≤ l.row-index)
