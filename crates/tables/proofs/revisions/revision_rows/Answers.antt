use Rattle.tables.proofs.Lemmas.{finds_revisions, reads_of, revisions_are, rules}
use Rattle.tables.proofs.revisions.revision_rows.Goals as goal

pub returns : goal.returns
returns g c =
    reads_of g.S.Store _ _ revisions_are _ (λ is. finds_revisions _ _ is c.args.db.now c.args.id.now c.query.result (λ rows. rows.items))
    c.query.ensures.ok (search rules) c.query.ensures.served c.query.ensures.stands c.query.ensures.looks c.query.ensures.asks
