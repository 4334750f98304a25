use Rattle.sqlstore.proofs.Lemmas.{Trees, ap, history_in_rows, inside, leaf_rows_lost, revs_tree, rules, stands_same, sym, trees_of, was_honest, ◌∙◌}
use Rattle.sqlstore.proofs.LostRows.{outline_agrees}
use Rattle.tree.specs.Outline.{outline_of}
use Rattle.sqlstore.proofs.sql_store.SqlStore.find_outline.Goals as goal

pub returns-in_err-check_outline-clause-answer : goal.returns-in_err-check_outline-clause-answer
returns-in_err-check_outline-clause-answer g c =
    let s = c.args.self.now in
    let mid = c.find_winner.new.self in
    let end = c.load_outline.new.self in
    let n = c.args.number.now in
    let id = c.args.id.now in
    leaf_rows_lost g.S.Store s end _ _ _ c.in_err-check_outline.field-0.0 c.from_residual-in_err-check_outline.result (search rules) c.in_err-check_outline.ensures.err
    (λ honest none.
    let first = was_honest g.S.Store mid end c.load_outline.ensures.stands honest in
    let won = inside _ _ (c.in_ok-winner.ensures.answer first) in
    let read = inside _ _ (c.in_ok-outline.ensures.answer honest) in
    let same = stands_same g.S.Store s mid c.find_winner.ensures.stands in
    none
    (outline_agrees (history_in_rows (trees_of g.S.Store s revs_tree) n id) c.in_ok-outline.outline c.in_ok-winner.winner (sym won)
    (sym read ∙ ap (λ (t : Trees). outline_of (history_in_rows (t revs_tree) n id)) same)))
