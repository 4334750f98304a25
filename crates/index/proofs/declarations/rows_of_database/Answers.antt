use Rattle.index.proofs.Common.{reads_inside, rules}
use Rattle.index.proofs.DeclarationStatements.{home_is, lists_home}
use Rattle.index.proofs.declarations.rows_of_database.Goals as goal

pub returns-clause-reads : goal.returns-clause-reads
returns-clause-reads g c =
    reads_inside g.S.Store _ _ home_is _ (λ is. lists_home _ _ is c.args.db.now c.query_in.result (λ rows. rows.items))
    c.query_in.ensures.ok (search rules) c.query_in.ensures.served c.query_in.ensures.stands c.query_in.ensures.proceeds c.query_in.ensures.asks
