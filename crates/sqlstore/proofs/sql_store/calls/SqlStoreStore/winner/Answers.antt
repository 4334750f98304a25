use Rattle.tree.specs.Outline.{marked_winner}
use Rattle.sqlstore.proofs.Lemmas.{DatabaseNumbers, found_then, history_in_rows, not_found, numbers_in, revs_tree, rules, winner_there}
use Rattle.sqlstore.proofs.sql_store.calls.SqlStoreStore.winner.Goals as goal

pub returns-in_err-found-clause-answer : goal.returns-in_err-found-clause-answer
returns-in_err-found-clause-answer g c = not_found {X = DatabaseNumbers} g.S.Store c.args.self.now c.find.new.self c.args.name.now numbers_in (λ d. (d.number, d.sequence)) _ _ _ _ c.in_err-found.ensures.answer (search rules)

pub returns-clause-answer : goal.returns-clause-answer
returns-clause-answer g c =
    found_then g.S.Store c.args.self.now c.find.new.self c.give_winner.new.self c.args.name.now _ (λ v. v) _ (λ t. marked_winner (history_in_rows (t revs_tree) c.in_ok-found.found.number c.args.id.now)) c.give_winner.result c.find.ensures.stands
    c.give_winner.ensures.stands c.in_ok-found.ensures.answer (λ lay t. winner_there _ _ _ lay t c.args.id.now) c.give_winner.ensures.answer
