use Rattle.sqlstore.proofs.Lemmas.{Err, Trees, ap, history_in_rows, inside, laid, revs_tree, rules, stands_same, sym, trees_of, was_honest, ∥∥₁_elim, ◌∙◌, ◌≡◌}
use Rattle.std.specs.FinMap as finite
use Rattle.sqlstore.proofs.LostRows.{damaged}
use Rattle.transactions.proofs.WinnerMarks.{winner_known}
use Rattle.sqlstore.proofs.sql_store.SqlStore.check_winner.Goals as goal

pub returns-in_err-_body-clause-answer : goal.returns-in_err-_body-clause-answer
returns-in_err-_body-clause-answer g c =
    let s = c.args.self.now in
    let mid = c.find_winner.new.self in
    let end = c.load_revision.new.self in
    let n = c.args.number.now in
    let id = c.args.id.now in
    let w = c.in-Some.winner in
    let e = c.in_err-_body.ensures.err in
    let is : c.from_residual-in_err-_body.result ≡ Err c.in_err-_body.field-0.0 = search rules in
    damaged g.S.Store s end _ _ c.from_residual-in_err-_body.result c.in_err-_body.field-0.0 is e.0
    (λ honest.
    let first = was_honest g.S.Store mid end c.load_revision.ensures.stands honest in
    let won = inside _ _ (c.in_ok-winner.ensures.answer first) ∙ c.in-Some.is in
    let known = sym (inside _ _ (c.in_ok-known.ensures.answer honest)) ∙ ap (λ (t : Trees). finite.get (history_in_rows (t revs_tree) n id) w.rev) (stands_same g.S.Store s mid c.find_winner.ensures.stands) in
    ∥∥₁_elim (laid g.S.Store s (was_honest g.S.Store s mid c.find_winner.ensures.stands first)) (λ p q. absurd p) (λ l. e.1 (winner_known (trees_of g.S.Store s) n id l w c.in_ok-known.known won known)))
