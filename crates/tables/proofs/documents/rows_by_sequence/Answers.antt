use Rattle.tables.proofs.Lemmas.{lists_by_sequence, reads_of, rules, sequences_are}
use Rattle.tables.proofs.documents.rows_by_sequence.Goals as goal

pub returns : goal.returns
returns g c =
    reads_of g.S.Store _ _ sequences_are _ (λ is. lists_by_sequence _ _ is c.args.db.now c.query.result (λ rows. rows.items))
    c.query.ensures.ok (search rules) c.query.ensures.served c.query.ensures.stands c.query.ensures.looks c.query.ensures.asks
