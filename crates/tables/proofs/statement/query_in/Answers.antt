use Rattle.tables.proofs.Lemmas.{served, state}
use Rattle.tables.proofs.QueriesInside.{asks_inside, proceeds, stood}
use Rattle.tables.proofs.statement.query_in.Goals as goal

pub returns-clause-stands : goal.returns-clause-stands
returns-clause-stands g c plain clean =
    stood (state g.S.Store c.args.tx.now.conn.now) (state g.S.Store c.query_all.new.self.conn.now) c.args.sql.now _ plain c.query_all.result (λ rows. rows.items) (c.query_all.ensures.ok clean)

pub returns-clause-proceeds : goal.returns-clause-proceeds
returns-clause-proceeds g c plain =
    proceeds (state g.S.Store c.args.tx.now.conn.now) (state g.S.Store c.query_all.new.self.conn.now) c.args.sql.now _ plain c.query_all.result (λ rows. rows.items)
    c.query_all.ensures.ok c.query_all.ensures.err c.query_all.ensures.survives

pub returns-clause-asks : goal.returns-clause-asks
returns-clause-asks g c =
    asks_inside (state g.S.Store c.args.tx.now.conn.now) (state g.S.Store c.query_all.new.self.conn.now) c.args.sql.now _ c.query_all.result (λ rows. rows.items)
    c.query_all.ensures.ok c.query_all.ensures.err c.query_all.ensures.survives

pub returns-clause-served : goal.returns-clause-served
returns-clause-served g c clean =
    served (state g.S.Store c.args.tx.now.conn.now) (state g.S.Store c.query_all.new.self.conn.now) c.args.sql.now _ c.query_all.result (λ rows. rows.items) (c.query_all.ensures.ok clean)
