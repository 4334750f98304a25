use Rattle.std.proofs.Common.{Err, Option, ap, not, true}
use Rattle.std.specs.FinMap.{get}
use Rattle.std.specs.Prelude.{is_some}
use Rattle.store.specs.Database.{Database}
use Rattle.lab.proofs.JudgedLemmas.{judged_err, judged_memory, store_judged}
use Rattle.couch_json.specs.Value.{object, no_members}
use Rattle.lab.proofs.LayoutLemmas.{made_there, opened}
use Rattle.lab.specs.Playing.{fault_of_store}
use Rattle.lab.proofs.layout.open_to_all.Goals as goal

pub returns-clause-made : goal.returns-clause-made
returns-clause-made g c = (
  c.in_ok-create.ensures.absent (g.met.S.LabStore.honest _),
  opened (g.S.Store.contents c.args.store.now) (g.S.Store.contents c.create.new.self) (g.S.Store.contents c.set_security.new.self) c.args.name.now (object no_members)
      (c.in_ok-create.ensures.ok (g.met.S.LabStore.honest _)) (rw c.in_ok-security.ensures at (c.in_ok-set_security.ensures.ok (g.met.S.LabStore.honest _))),
)

pub returns-in_err-security-clause-judged : goal.returns-in_err-security-clause-judged
returns-in_err-security-clause-judged g c = judged_memory true (not (is_some (get (g.S.Store.contents c.args.store.now) c.args.name.now))) c.from_residual.result c.from_residual.ensures.1

pub returns-in_err-create-clause-judged : goal.returns-in_err-create-clause-judged
returns-in_err-create-clause-judged g c =
    let can = not (is_some (get (g.S.Store.contents c.args.store.now) c.args.name.now)) in
    let fault = c.in_err-create.field-0.0 in
    judged_err true can (fault_of_store fault) c.from_residual-in_err-create.result c.from_residual-in_err-create.ensures.1
    (store_judged can fault (λ is. c.in_err-create.ensures.others (ap Err is)) (λ is. ap not (c.in_err-create.ensures.exists (g.met.S.LabStore.honest _) (ap Err is))))

pub returns-in_err-set_security-clause-judged : goal.returns-in_err-set_security-clause-judged
returns-in_err-set_security-clause-judged g c =
    let can = not (is_some (get (g.S.Store.contents c.args.store.now) c.args.name.now)) in
    let fault = c.in_err-set_security.field-0.0 in
    judged_err true can (fault_of_store fault) c.from_residual-in_err-set_security.result c.from_residual-in_err-set_security.ensures.1
    (store_judged can fault
    (λ is. made_there (g.S.Store.contents c.args.store.now) (g.S.Store.contents c.create.new.self) c.args.name.now
    (c.in_ok-create.ensures.ok (g.met.S.LabStore.honest _)) (c.in_err-set_security.ensures.missing (g.met.S.LabStore.honest _) (ap Err is)))
    (λ is. absurd (c.in_err-set_security.ensures.others (ap Err is))))

pub returns-clause-judged : goal.returns-clause-judged
returns-clause-judged g c = ap (λ (o : Option Database). not (is_some o)) (c.in_ok-create.ensures.absent (g.met.S.LabStore.honest _))
