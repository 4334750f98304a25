use Rattle.tables.proofs.Lemmas.{finds_one_revision, one_revision_is, reads_of, rules}
use Rattle.tables.proofs.revisions.one_revision_rows.Goals as goal

pub returns : goal.returns
returns g c =
    reads_of g.S.Store _ _ one_revision_is _ (λ is. finds_one_revision _ _ is c.args.db.now c.args.id.now (record { number = c.args.number; hash = c.args.hash.now }) c.query.result (λ rows. rows.items))
    c.query.ensures.ok (search rules) c.query.ensures.served c.query.ensures.stands c.query.ensures.looks c.query.ensures.asks
