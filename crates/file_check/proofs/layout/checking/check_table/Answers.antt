use Rattle.tables.proofs.Common.{Err, Ok, rules, subst, sym, ◌≡◌}
use Rattle.file_check.specs.Inspecting.{Inspects}
use Rattle.file_check.specs.Tables.{IsShaped}
use Rattle.file_check.proofs.TableWalks.{Tells, Walked, begins, ends, fails, finds, gives_up, goes_on}
use Rattle.file_check.proofs.layout.checking.check_table.Goals as goal

pub loop-row-init : goal.loop-row-init
loop-row-init g c = begins g.S.Store c.args.table c.args.conn.now

pub loop-row-preserved : goal.loop-row-preserved
loop-row-preserved g c =
    subst (λ o. Walked g.S.Store c.args.table o c.args.conn.now c.check_next_row.new.conn) (sym c.next_number-last.ensures)
    (goes_on g.S.Store c.args.table c.loop-row.last c.in-Next._number c.loop-row.invariant
    (subst (λ s. Inspects g.S.Store IsShaped c.loop-row.conn c.check_next_row.new.conn (Tells c.args.table c.loop-row.last) (Ok s)) c.in-Next.is c.in_ok-step.ensures))

pub returns-in-Found : goal.returns-in-Found
returns-in-Found g c =
    finds g.S.Store c.args.table c.loop-row.last c.in-Found.finding c.loop-row.invariant
    (subst (λ s. Inspects g.S.Store IsShaped c.loop-row.conn c.check_next_row.new.conn (Tells c.args.table c.loop-row.last) (Ok s)) c.in-Found.is c.in_ok-step.ensures)

pub returns-in-Done : goal.returns-in-Done
returns-in-Done g c =
    ends g.S.Store c.args.table c.loop-row.last c.loop-row.invariant
    (subst (λ s. Inspects g.S.Store IsShaped c.loop-row.conn c.check_next_row.new.conn (Tells c.args.table c.loop-row.last) (Ok s)) c.in-Done.is c.in_ok-step.ensures)

pub returns-in_err-step : goal.returns-in_err-step
returns-in_err-step g c =
    let e = c.in_err-step.field-0.0 in
    let is : c.from_residual.result ≡ Err e = search rules in
    fails g.S.Store c.args.table c.loop-row.last e c.from_residual.result is c.loop-row.invariant c.in_err-step.ensures

pub returns : goal.returns
returns g c = gives_up g.S.Store c.args.table c.loop-row.last c.loop-row.invariant
