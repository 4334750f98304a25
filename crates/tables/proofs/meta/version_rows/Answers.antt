use Rattle.tables.proofs.Lemmas.{finds_version, reads_of, rules, version_is}
use Rattle.tables.proofs.meta.version_rows.Goals as goal

pub returns-clause-reads : goal.returns-clause-reads
returns-clause-reads g c =
    reads_of g.S.Store _ _ version_is _ (λ is. finds_version _ _ is c.query.result (λ rows. rows.items))
    c.query.ensures.ok (search rules) c.query.ensures.served c.query.ensures.stands c.query.ensures.looks c.query.ensures.asks
