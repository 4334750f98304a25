use Rattle.tables.proofs.Lemmas.{later_are, lists_later, reads_of, rules}
use Rattle.tables.proofs.documents.rows_after.Goals as goal

pub returns : goal.returns
returns g c =
    reads_of g.S.Store _ _ later_are _ (λ is. lists_later _ _ is c.args.db.now c.query.result (λ rows. rows.items) c.args.sequence.now c.args.limit.now)
    c.query.ensures.ok (search rules) c.query.ensures.served c.query.ensures.stands c.query.ensures.looks c.query.ensures.asks
