use Rattle.tables.proofs.Lemmas.{lists_names, names_are, reads_of, rules}
use Rattle.tables.proofs.databases.name_rows.Goals as goal

pub returns : goal.returns
returns g c =
    reads_of g.S.Store _ _ names_are _ (λ is. lists_names _ _ is c.query.result (λ rows. rows.items))
    c.query.ensures.ok (search rules) c.query.ensures.served c.query.ensures.stands c.query.ensures.looks c.query.ensures.asks
