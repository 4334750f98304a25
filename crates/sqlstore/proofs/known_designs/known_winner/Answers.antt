use Rattle.std.proofs.Common.{List, ap, sym, ℕ, ◌∙◌}
use Rattle.tables.specs.Rows.{history_in_rows}
use Rattle.tables.specs.Schema.{revs_tree}
use Rattle.tree.specs.Outline.{marked_winner}
use Rattle.sqlstore.proofs.known_designs.known_winner.Goals as goal

pub returns : goal.returns
returns c trees known =
    let n = c.args.number.now in
    let it = c.in_ok-design.ensures trees n (c.in_ok-designs_of.ensures trees known) in
    ap (λ (id : List ℕ). marked_winner (history_in_rows (trees revs_tree) n id)) (sym it.1) ∙ it.0.winner
