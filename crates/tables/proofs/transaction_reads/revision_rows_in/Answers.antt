use Rattle.tables.proofs.Lemmas.{finds_revisions, reads_inside, revisions_are, rules}
use Rattle.tables.proofs.transaction_reads.revision_rows_in.Goals as goal

pub returns-clause-reads : goal.returns-clause-reads
returns-clause-reads g c =
    reads_inside g.S.Store _ _ revisions_are _ (λ is. finds_revisions _ _ is c.args.db.now c.args.id.now c.query_in.result (λ rows. rows.items))
    c.query_in.ensures.ok (search rules) c.query_in.ensures.served c.query_in.ensures.stands c.query_in.ensures.proceeds c.query_in.ensures.asks
