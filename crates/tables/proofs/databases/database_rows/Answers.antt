use Rattle.tables.proofs.Lemmas.{database_is, finds_database, reads_of, rules}
use Rattle.tables.proofs.databases.database_rows.Goals as goal

pub returns : goal.returns
returns g c =
    reads_of g.S.Store _ _ database_is _ (λ is. finds_database _ _ is c.args.name.now c.query.result (λ rows. rows.items))
    c.query.ensures.ok (search rules) c.query.ensures.served c.query.ensures.stands c.query.ensures.looks c.query.ensures.asks
