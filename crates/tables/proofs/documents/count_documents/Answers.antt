use Rattle.tables.proofs.Lemmas.{counts_marked, marked_is, reads_of, rules}
use Rattle.tables.proofs.documents.count_documents.Goals as goal

pub returns : goal.returns
returns g c =
    reads_of g.S.Store _ _ marked_is _ (λ is. counts_marked _ _ is c.args.db.now c.args.low.now c.args.high.now c.args.deleted c.query.result (λ rows. rows.items))
    c.query.ensures.ok (search rules) c.query.ensures.served c.query.ensures.stands c.query.ensures.looks c.query.ensures.asks
