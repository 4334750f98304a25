use Rattle.sqlstore.proofs.Lemmas.{Trees, ap, history_in_rows, inside, laid, revs_tree, rules, stands_same, sym, trees_of, true, was_honest, ∥∥₁_elim, ◌∙◌, ◌≡◌}
use Rattle.tree.specs.History.{names, winner}
use Rattle.transactions.proofs.WinnerMarks.{winner_not_bare}
use Rattle.sqlstore.proofs.sql_store.SqlStore.find_revision.Goals as goal

pub returns-then-branch-clause-answer : goal.returns-then-branch-clause-answer
returns-then-branch-clause-answer g c honest =
    let s = c.args.self.now in
    let mid = c.load_revision.new.self in
    let end = c.is_winner.new.self in
    let n = c.args.number.now in
    let id = c.args.id.now in
    let first = was_honest g.S.Store mid end c.is_winner.ensures.stands honest in
    let known = sym (inside _ _ (c.in_ok-known.ensures.answer first)) in
    let told = inside _ _ (c.in_ok-is_winner.ensures.answer honest) in
    let same = ap (λ (t : Trees). names (winner (history_in_rows (t revs_tree) n id)) c.args.rev.now) (stands_same g.S.Store s mid c.load_revision.ensures.stands) in
    let is : c.in_ok-is_winner.field-0 ≡ true = search rules in
    ∥∥₁_elim (laid g.S.Store s (was_honest g.S.Store s mid c.load_revision.ensures.stands first)) (λ p q. absurd p)
    (λ l. winner_not_bare (trees_of g.S.Store s) n id l c.args.rev.now c.in_ok-known.known (sym same ∙ told ∙ is) known (search rules))
