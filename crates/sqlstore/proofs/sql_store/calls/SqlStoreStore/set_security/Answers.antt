use Rattle.sqlstore.proofs.Lemmas.{missing, rules, told}
use Rattle.sqlstore.proofs.sql_store.calls.SqlStoreStore.set_security.Goals as goal

pub returns-in_err-found-clause-missing : goal.returns-in_err-found-clause-missing
returns-in_err-found-clause-missing g c honest told = missing g.S.Store c.args.self.now c.find.new.self c.args.name.now _ _ c.in_err-found.ensures.answer (search rules) told honest
