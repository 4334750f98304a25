use Rattle.std.proofs.Common.{List, Some, ap, ap₂, rules, sym, true, ℕ, ◌∙◌, ◌≡◌}
use Rattle.std.specs.FinMap.{get}
use Rattle.std.specs.Ordering.{eq_by_cmp}
use Rattle.tables.specs.Rows.{history_in_rows}
use Rattle.tables.specs.Schema.{revs_tree}
use Rattle.tree.proofs.Revisions.{same as same_revision}
use Rattle.tree.specs.Revision.{Revision, revision_cmp}
use Rattle.sqlstore.proofs.known_designs.known_entry.Goals as goal

pub returns : goal.returns
returns c trees known =
    let n = c.args.number.now in
    let d = c.in_ok-design.design.now in
    let it = c.in_ok-design.ensures trees n (c.in_ok-designs_of.ensures trees known) in
    let tied : eq_by_cmp revision_cmp d.rev c.args.rev.now ≡ true = search rules in
    ap₂ (λ (id : List ℕ) (r : Revision). get (history_in_rows (trees revs_tree) n id) r) (sym it.1) (sym (same_revision d.rev c.args.rev.now tied)) ∙ it.0.entry ∙ ap Some (search rules)
