use Rattle.sqlstore.proofs.Lemmas.{Err, Trees, ap, history_in_rows, inside, revs_tree, rules, stands_same, sym, was_honest, ◌∙◌, ◌≡◌}
use Rattle.sqlstore.proofs.LostRows.{damaged}
use Rattle.tree.specs.Outline.{marked_winner}
use Rattle.sqlstore.proofs.sql_store.SqlStore.find_history.Goals as goal

pub returns-in_err-check_history-clause-answer : goal.returns-in_err-check_history-clause-answer
returns-in_err-check_history-clause-answer g c =
    let s = c.args.self.now in
    let mid = c.find_winner.new.self in
    let end = c.load_history.new.self in
    let e = c.in_err-check_history.ensures.err in
    let is : c.from_residual-in_err-check_history.result ≡ Err c.in_err-check_history.field-0.0 = search rules in
    damaged g.S.Store s end _ _ c.from_residual-in_err-check_history.result c.in_err-check_history.field-0.0 is e.0
    (λ honest.
    let first = was_honest g.S.Store mid end c.load_history.ensures.stands honest in
    let won = inside _ _ (c.in_ok-winner.ensures.answer first) in
    let read = inside _ _ (c.in_ok-history.ensures.answer honest) in
    e.1 (sym won ∙ ap (λ (t : Trees). marked_winner (history_in_rows (t revs_tree) c.args.number.now c.args.id.now)) (sym (stands_same g.S.Store s mid c.find_winner.ensures.stands)) ∙ ap marked_winner read))
