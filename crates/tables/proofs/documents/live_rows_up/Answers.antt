use Rattle.tables.proofs.Lemmas.{lists_live_up, live_up_are, reads_of, rules}
use Rattle.tables.proofs.documents.live_rows_up.Goals as goal

pub returns : goal.returns
returns g c =
    reads_of g.S.Store _ _ live_up_are _ (λ is. lists_live_up _ _ is c.args.db.now c.args.low.now c.args.high.now c.args.most.now c.args.skip.now c.query.result (λ rows. rows.items))
    c.query.ensures.ok (search rules) c.query.ensures.served c.query.ensures.stands c.query.ensures.looks c.query.ensures.asks
