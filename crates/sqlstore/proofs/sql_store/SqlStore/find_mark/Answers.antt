use Rattle.sqlstore.proofs.Common.{Coded-set, coded_bool, coded_option}
use Rattle.sqlstore.proofs.Lemmas.{ap, inside, laid, option_map, sym, trees_of, was_honest, ∥∥₁_elim, ◌∙◌}
use Rattle.sqlstore.proofs.MarkRows.{mark_found}
use Rattle.tree.specs.declared.marked_rev.MarkedRev.{MarkedRev}
use Rattle.sqlstore.proofs.sql_store.SqlStore.find_mark.Goals as goal

pub returns-clause-mark : goal.returns-clause-mark
returns-clause-mark g c honest =
    let s = c.args.self.now in
    let end = c.find_winner.new.self in
    let trees = trees_of g.S.Store s in
    ∥∥₁_elim (laid g.S.Store s (was_honest g.S.Store s end c.find_winner.ensures.stands honest)) (Coded-set (coded_option coded_bool) _ _) (λ l.
    c.mark_of_winner.ensures ∙ ap (option_map (λ (w : MarkedRev). w.deleted)) (sym (inside _ _ (c.in_ok-winner.ensures.answer honest))) ∙ mark_found trees c.args.number.now l c.args.id.now)
