use Rattle.std.proofs.Common.{rules, ◌≡◌, ◌∙◌}
use Rattle.std.specs.Prelude.{Some, slice_get}
use Rattle.index.proofs.Going.{if_ok}
use Rattle.index.proofs.seen.show_first.Goals as goal

pub returns-in-Some-clause-ok : goal.returns-in-Some-clause-ok
returns-in-Some-clause-ok c =
    let at : slice_get c.args.rows.now 0 ≡ Some c.in-Some.row.now = search rules in
    if_ok c.show_row.result (λ shown s. record { live = record { row = s.live.row; first = at ∙ s.live.first; body = s.live.body; held = s.live.held }; shown = s.shown }) c.show_row.ensures.ok
