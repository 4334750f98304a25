use Rattle.sqlstore.proofs.Lemmas.{finds_rows, refl, still}
use Rattle.sqlstore.proofs.sql_store.SqlStore.document_rows.Goals as goal

pub invariant_of-self : goal.invariant_of-self
invariant_of-self g c = record { standing = still g.S.Store _ _ _ _ c.document_rows-rows.ensures.reads c.args.self.now.standing }

pub returns : goal.returns
returns g c = finds_rows g.S.Store _ _ _ c.judge_answer.result refl refl c.judge_answer.ensures.counted c.judge_answer.ensures.ok c.judge_answer.ensures.judged c.document_rows-rows.ensures.reads
