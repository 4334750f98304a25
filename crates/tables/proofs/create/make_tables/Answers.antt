use Rattle.tables.proofs.Common.{HasCleanDisk, arith, state}
use Rattle.tables.proofs.Creations.{makes_if_ran}
use Rattle.tables.proofs.Stays.{proceeds_then}
use Rattle.tables.proofs.create.make_tables.Goals as goal

pub returns-clause-ok : goal.returns-clause-ok
returns-clause-ok g c clean has =
    let a = state g.S.Store c.args.tx.now.conn.now in
    let b = state g.S.Store c.change.new.tx.conn.now in
    let d = state g.S.Store c.change-2.new.tx.conn.now in
    let e = state g.S.Store c.change-3.new.tx.conn.now in
    let f = state g.S.Store c.change-4.new.tx.conn.now in
    let h = state g.S.Store c.change-5.new.tx.conn.now in
    let i = state g.S.Store c.change-6.new.tx.conn.now in
    let end = state g.S.Store c.change-7.new.tx.conn.now in
    let sixth : HasCleanDisk i = omega (arith, c.change-7.ensures.proceeds.survives.clean, clean) in
    let fifth : HasCleanDisk h = omega (arith, c.change-6.ensures.proceeds.survives.clean, sixth) in
    let fourth : HasCleanDisk f = omega (arith, c.change-5.ensures.proceeds.survives.clean, fifth) in
    let third : HasCleanDisk e = omega (arith, c.change-4.ensures.proceeds.survives.clean, fourth) in
    let second : HasCleanDisk d = omega (arith, c.change-3.ensures.proceeds.survives.clean, third) in
    let first : HasCleanDisk b = omega (arith, c.change-2.ensures.proceeds.survives.clean, second) in
    makes_if_ran a b d e f h i end c.change-7.result has (c.in_ok-change.ensures.ok first) (c.in_ok-change-2.ensures.ok second) (c.in_ok-change-3.ensures.ok third) (c.in_ok-change-4.ensures.ok fourth)
    (c.in_ok-change-5.ensures.ok fifth) (c.in_ok-change-6.ensures.ok sixth) (c.change-7.ensures.ok clean)

pub returns-in_err-change-6-clause-proceeds : goal.returns-in_err-change-6-clause-proceeds
returns-in_err-change-6-clause-proceeds g c =
    let three = proceeds_then _ _ _ (proceeds_then _ _ _ c.change.ensures.proceeds c.change-2.ensures.proceeds) c.change-3.ensures.proceeds in
    proceeds_then _ _ _ (proceeds_then _ _ _ (proceeds_then _ _ _ three c.change-4.ensures.proceeds) c.change-5.ensures.proceeds) c.change-6.ensures.proceeds

pub returns-clause-proceeds : goal.returns-clause-proceeds
returns-clause-proceeds g c =
    let three = proceeds_then _ _ _ (proceeds_then _ _ _ c.change.ensures.proceeds c.change-2.ensures.proceeds) c.change-3.ensures.proceeds in
    let six = proceeds_then _ _ _ (proceeds_then _ _ _ (proceeds_then _ _ _ three c.change-4.ensures.proceeds) c.change-5.ensures.proceeds) c.change-6.ensures.proceeds in
    proceeds_then _ _ _ six c.change-7.ensures.proceeds
