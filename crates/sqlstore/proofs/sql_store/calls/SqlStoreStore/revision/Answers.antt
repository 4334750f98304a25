use Rattle.std.specs.FinMap as finite
use Rattle.sqlstore.proofs.Lemmas.{DatabaseNumbers, found_then, history_in_rows, not_found, numbers_in, revision_there, revs_tree, rules}
use Rattle.sqlstore.proofs.sql_store.calls.SqlStoreStore.revision.Goals as goal

pub returns-in_err-found-clause-answer : goal.returns-in_err-found-clause-answer
returns-in_err-found-clause-answer g c = not_found {X = DatabaseNumbers} g.S.Store c.args.self.now c.find.new.self c.args.name.now numbers_in (λ d. (d.number, d.sequence)) _ _ _ _ c.in_err-found.ensures.answer (search rules)

pub returns-clause-answer : goal.returns-clause-answer
returns-clause-answer g c =
    found_then g.S.Store c.args.self.now c.find.new.self c.give_revision.new.self c.args.name.now _ (λ v. v) _ (λ t. finite.get (history_in_rows (t revs_tree) c.in_ok-found.found.number c.args.id.now) c.args.rev.now) c.give_revision.result c.find.ensures.stands
    c.give_revision.ensures.stands c.in_ok-found.ensures.answer (λ lay t. revision_there _ _ _ lay t c.args.id.now c.args.rev.now) c.give_revision.ensures.answer
