use Rattle.sqlstore.proofs.Lemmas.{none_if, on_ok}
use Rattle.sqlstore.proofs.Changing.{was_honest}
use Rattle.sqlstore.proofs.sql_store.calls.SqlStoreStore.create.Goals as goal

pub returns-clause-absent : goal.returns-clause-absent
returns-clause-absent g c honest =
    on_ok c.add.result (none_if _ _ (c.in_ok-has.ensures.answer (was_honest g.S.Store c.has.new.self c.add.new.self c.add.ensures.moves honest)) c.if-branch.false)
