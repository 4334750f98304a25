use Rattle.std.proofs.Common.{sym, subst, refl}
use Rattle.std.specs.FinMap.{get}
use Rattle.node.specs.inner.Drafts.{change_inside}
use Rattle.node.specs.Causes.{EndsBefore}
use Rattle.node.specs.declared.early_end.EarlyEnd.{EarlyEnd}
use Rattle.node.proofs.Faults.{change_ends, change_made}
use Rattle.node.proofs.dispatch.write.Goals as goal

pub returns-in-Ok-clause-ok : goal.returns-in-Ok-clause-ok
returns-in-Ok-clause-ok g c = λ honest.
    let before = g.S.Store.contents c.args.store.now in
    change_made before (g.S.Store.contents c.apply.new.store) c.args.planned.database c.args.planned.changes (get before c.args.planned.database) refl (c.in-Ok.ensures.ok honest)

pub returns-in-Err-clause-ends : goal.returns-in-Err-clause-ends
returns-in-Err-clause-ends g c =
    let name = c.args.planned.database in
    let changes = c.args.planned.changes in
    let old = c.args.store.now in
    let new = c.apply.new.store in
    subst (λ (stop : EarlyEnd). EndsBefore g.S.Store old new (change_inside name changes (get (g.S.Store.contents old) name)) stop) (sym c.stop_after.ensures)
    (change_ends g.S.Store old new name changes c.in-Err.fault (λ honest. (c.requires (c.in-Err.ensures.changes.goes_on.honest honest)).1) c.in-Err.ensures.only c.in-Err.ensures.passed)
