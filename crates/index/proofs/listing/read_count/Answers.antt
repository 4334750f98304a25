use Rattle.index.proofs.Common.{Err, List, Row, Some, ap, arith, column, length, pos, slice_get, subst, sym, ◌<◌, ◌∙◌, ◌≡◌}
use Rattle.std.proofs.Common.{min}
use Rattle.tables.specs.Listings.{shown_count}
use Rattle.tables.proofs.Common.{inside}
use Rattle.index.proofs.listing.read_count.Goals as goal

pub returns-in-Err-Damaged-clause-err : goal.returns-in-Err-Damaged-clause-err
returns-in-Err-Damaged-clause-err c = λ it.
    let first = ap (λ (rs : List Row). slice_get rs 0) it.1 in
    let value = c.in-Some.ensures.value in
    let told : Some c.in-Some.row.now ≡ Some (shown_count it.0) = cc in
    let row = inside c.in-Some.row.now (shown_count it.0) told in
    c.whole_at.ensures.damaged (c.in-Err-Damaged.is ∙ ap Err c.in-Err-Damaged.field-0-is) (subst (λ (r : Row). 0 < length r) (sym row) (omega arith)) (pos (min it.0 9223372036854775807), ap (λ r. column r 0) row)
