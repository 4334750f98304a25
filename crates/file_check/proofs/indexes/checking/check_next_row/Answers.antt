use Rattle.std.proofs.Common.{Err, None, Some, rules, ◌≡◌}
use Rattle.std.specs.Prelude.{slice_get}
use Rattle.sqlite.specs.Held.{state}
use Rattle.file_check.proofs.CheckSteps.{checks_read, checks_stop}
use Rattle.file_check.proofs.IndexedTables.{schema_ready}
use Rattle.file_check.proofs.WalkSteps.{next_looked, next_none}
use Rattle.file_check.specs.declared.finding.CheckFault.TheVariants as fault
use Rattle.file_check.proofs.indexes.checking.check_next_row.Goals as goal

pub returns-in_err-rows : goal.returns-in_err-rows
returns-in_err-rows g c =
    let e = c.in_err-rows.field-0.0 in
    let is : c.from_residual.result ≡ Err (fault.Sqlite e) = search rules in
    checks_stop g.S.Store (fault.Sqlite e) c.from_residual.result is (checks_read g.S.Store (schema_ready c.args.table (state g.S.Store c.args.conn.now).now) c.in_err-rows.ensures)

pub returns-in-Some : goal.returns-in-Some
returns-in-Some g c =
    let at : slice_get c.in_ok-rows.rows.items 0 ≡ Some c.in-Some.row.now = search rules in
    next_looked g.S.Store c.args.table (λ rows. rows.items) c.args.last.now
    (checks_read g.S.Store (schema_ready c.args.table (state g.S.Store c.args.conn.now).now) c.in_ok-rows.ensures) c.in-Some.row.now at c.check_row.ensures

pub returns : goal.returns
returns g c =
    let at : slice_get c.in_ok-rows.rows.items 0 ≡ None = search rules in
    next_none g.S.Store c.args.table (λ rows. rows.items) c.args.last.now (checks_read g.S.Store (schema_ready c.args.table (state g.S.Store c.args.conn.now).now) c.in_ok-rows.ensures) at
