use Rattle.sqlstore.proofs.Lemmas.{IfThere, missing, numbers_in, rules, subst, there, told, trees_of, was_honest}
use Rattle.store.specs.Lawful.{IsLocalDocument}
use Rattle.sqlstore.proofs.sql_store.calls.SqlStoreStore.set_local.Goals as goal

pub returns-in_err-found-clause-missing : goal.returns-in_err-found-clause-missing
returns-in_err-found-clause-missing g c honest told = missing g.S.Store c.args.self.now c.find.new.self c.args.name.now _ _ c.in_err-found.ensures.answer (search rules) told honest

pub put_local-requires-clause-local : goal.put_local-requires-clause-local
put_local-requires-clause-local g c honest =
    let found = there numbers_in (trees_of g.S.Store c.args.self.now) c.args.name.now _ (c.in_ok-found.ensures.answer honest) in
    subst (λ o. IfThere o (λ _. IsLocalDocument c.args.id.now c.args.document.now)) found.database (c.requires (was_honest g.S.Store c.args.self.now c.find.new.self c.find.ensures.stands honest))
