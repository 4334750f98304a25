use Rattle.tables.proofs.Lemmas.{finds_one_outline, one_outline_is, reads_inside, rules}
use Rattle.tables.proofs.transaction_reads.one_outline_rows_in.Goals as goal

pub returns-clause-reads : goal.returns-clause-reads
returns-clause-reads g c =
    reads_inside g.S.Store _ _ one_outline_is _ (λ is. finds_one_outline _ _ is c.args.db.now c.args.id.now (record { number = c.args.number; hash = c.args.hash.now }) c.query_in.result (λ rows. rows.items))
    c.query_in.ensures.ok (search rules) c.query_in.ensures.served c.query_in.ensures.stands c.query_in.ensures.proceeds c.query_in.ensures.asks
