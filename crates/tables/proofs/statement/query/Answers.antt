use Rattle.tables.proofs.Lemmas.{Err, Error, FailsToQuery, IfErr, IsRolledBack, IsUnchanged, List, Ok, OnOk, Result, Row, State, asks, inl, looks, query_fails, served, state, ℕ, ◌⊎◌}
use Rattle.tables.proofs.QueriesInside.{stood}
use Rattle.tables.proofs.statement.query.Goals as goal

either : {X : Type 0} (old new : State) (sql : List ℕ) (params : Row) (r : Result X Error) → OnOk r (IsUnchanged old new) → IfErr r (FailsToQuery sql params old new) → IsUnchanged old new ⊎ IsRolledBack old new
either old new sql params (Ok x) same h = inl same
either old new sql params (Err e) same h = query_fails old new sql params e h

pub returns-clause-stands : goal.returns-clause-stands
returns-clause-stands g c plain clean =
    stood (state g.S.Store c.args.conn.now) (state g.S.Store c.query_all.new.self) c.args.sql.now _ plain c.query_all.result (λ rows. rows.items) (c.query_all.ensures.ok clean)

pub returns-clause-looks : goal.returns-clause-looks
returns-clause-looks g c plain =
    let old = state g.S.Store c.args.conn.now in
    let new = state g.S.Store c.query_all.new.self in
    looks old new c.args.sql.now _ plain
    (λ clean. either old new c.args.sql.now _ c.query_all.result (stood old new c.args.sql.now _ plain c.query_all.result (λ rows. rows.items) (c.query_all.ensures.ok clean)) (c.query_all.ensures.err clean))
    c.query_all.ensures.mode c.query_all.ensures.survives

pub returns-clause-asks : goal.returns-clause-asks
returns-clause-asks g c =
    asks (state g.S.Store c.args.conn.now) (state g.S.Store c.query_all.new.self) c.args.sql.now _ c.query_all.result (λ rows. rows.items)
    c.query_all.ensures.ok c.query_all.ensures.err c.query_all.ensures.mode c.query_all.ensures.survives

pub returns-clause-served : goal.returns-clause-served
returns-clause-served g c clean =
    served (state g.S.Store c.args.conn.now) (state g.S.Store c.query_all.new.self) c.args.sql.now _ c.query_all.result (λ rows. rows.items) (c.query_all.ensures.ok clean)
