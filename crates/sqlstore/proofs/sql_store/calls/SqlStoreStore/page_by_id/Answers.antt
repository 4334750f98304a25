use Rattle.sqlstore.proofs.Lemmas.{DatabaseNumbers, found_then, id_page, id_page_of, id_page_there, listed_by_id, live_rows, not_found, numbers_in, rules}
use Rattle.sqlstore.proofs.sql_store.calls.SqlStoreStore.page_by_id.Goals as goal

pub returns-in_err-found-clause-answer : goal.returns-in_err-found-clause-answer
returns-in_err-found-clause-answer g c = not_found {X = DatabaseNumbers} g.S.Store c.args.self.now c.find.new.self c.args.name.now numbers_in (λ d. (d.number, d.sequence)) _ _ _ _ c.in_err-found.ensures.answer (search rules)

pub returns-clause-answer : goal.returns-clause-answer
returns-clause-answer g c =
    found_then g.S.Store c.args.self.now c.find.new.self c.give_page_by_id.new.self c.args.name.now _ id_page_of _ (λ t. id_page c.args.range.now (live_rows (listed_by_id t c.in_ok-found.found.number))) c.give_page_by_id.result c.find.ensures.stands
    c.give_page_by_id.ensures.stands c.in_ok-found.ensures.answer (λ lay t. id_page_there _ _ _ lay t c.args.range.now) c.give_page_by_id.ensures.answer
