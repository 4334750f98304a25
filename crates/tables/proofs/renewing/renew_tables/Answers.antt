use Rattle.tables.proofs.Lemmas.{HasCleanDisk, arith, renewed_if, state}
use Rattle.tables.proofs.renewing.renew_tables.Goals as goal

pub returns-clause-ok : goal.returns-clause-ok
returns-clause-ok g c clean was =
    let a = state g.S.Store c.args.tx.now.conn.now in
    let b = state g.S.Store c.clear_version.new.tx.conn.now in
    let d = state g.S.Store c.insert_version.new.tx.conn.now in
    let e = state g.S.Store c.clear_declarations.new.tx.conn.now in
    let end = state g.S.Store c.clear_entries.new.tx.conn.now in
    let third : HasCleanDisk e = omega (arith, c.clear_entries.ensures.alters.proceeds.survives.clean, clean) in
    let second : HasCleanDisk d = omega (arith, c.clear_declarations.ensures.alters.proceeds.survives.clean, third) in
    let first : HasCleanDisk b = omega (arith, c.insert_version.ensures.alters.proceeds.survives.clean, second) in
    renewed_if a.now b.now d.now e.now end.now was (c.in_ok-clear_version.ensures.alters.ok first) (c.in_ok-insert_version.ensures.alters.ok second) (c.in_ok-clear_declarations.ensures.alters.ok third)
    c.clear_entries.result (c.clear_entries.ensures.alters.ok clean)
