use Rattle.sqlstore.proofs.OpenedAgain.{never_not_ours, same_opened, same_refused}
use Rattle.sqlstore.proofs.Common.{contents_of}
use Rattle.sqlstore.proofs.sql_store.SqlStore.reopen.Goals as goal

pub returns-clause-same : goal.returns-clause-same
returns-clause-same g c honest =
    same_opened g.S.Store (contents_of g.S.Store c.args.self) c.close.result (c.close.ensures.laid honest) (c.close.ensures.contents honest) c.open.result c.open.ensures.found c.open.ensures.served

pub returns-clause-ours : goal.returns-clause-ours
returns-clause-ours g c honest =
    never_not_ours g.S.Store (contents_of g.S.Store c.args.self) c.close.result (c.close.ensures.laid honest) (c.close.ensures.contents honest) c.open.result c.close.ensures.idle c.open.ensures.shut c.open.ensures.not_ours

pub returns-clause-refused : goal.returns-clause-refused
returns-clause-refused g c honest =
    same_refused g.S.Store (contents_of g.S.Store c.args.self) c.close.result (c.close.ensures.laid honest) (c.close.ensures.contents honest) c.open.result c.open.ensures.shut c.open.ensures.refused
