use Rattle.sqlstore.proofs.Lemmas.{ap, is_some, missing, numbers_in, on_ok, rules, there, told, trees_of}
use Rattle.sqlstore.proofs.Changing.{was_honest}
use Rattle.sqlstore.proofs.sql_store.calls.SqlStoreStore.remove.Goals as goal

pub returns-in_err-found-clause-missing : goal.returns-in_err-found-clause-missing
returns-in_err-found-clause-missing g c honest told = missing g.S.Store c.args.self.now c.find.new.self c.args.name.now _ _ c.in_err-found.ensures.answer (search rules) told honest

pub returns-clause-there : goal.returns-clause-there
returns-clause-there g c honest =
    let found = there numbers_in (trees_of g.S.Store c.args.self.now) c.args.name.now _ (c.in_ok-found.ensures.answer (was_honest g.S.Store c.find.new.self c.clear.new.self c.clear.ensures.moves honest)) in
    on_ok c.clear.result (ap is_some found.database)
