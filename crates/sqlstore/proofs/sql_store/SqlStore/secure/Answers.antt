use Rattle.sqlstore.proofs.Lemmas.{Held, IsLawful, IsSecured, Some, ap, canonical, contents_in, dropped, forgotten, secures, secures_beside, some_contents_set, stands, state, subst, sym, told, undone, ◌∙◌}
use Rattle.sqlstore.proofs.sql_store.SqlStore.secure.Goals as goal

pub invariant_of-self : goal.invariant_of-self
invariant_of-self g c =
    let s = c.args.self.now in
    let e = c.in-Ok.ensures in
    let new = state g.S.Store c.change_security.new.conn in
    let text = c.as_str.ensures.value ∙ c.in_ok-text.ensures.text ∙ ap canonical c.value.ensures.value in
    let lawful = subst IsLawful c.value.ensures.value c.in_ok-text.ensures.lawful in
    record {
      standing = stands g.S.Store s.conn c.change_security.new.conn s.origin.value s.last.value e.turns (dropped g.S.Store s.standing) e.done (IsSecured new.now c.args.name.now c.args.security.now)
          (λ clean was is store same. secures new.now c.args.name.now _ _ store same c.args.number.now (c.requires (was, is)) c.args.security.now _ c.value.ensures.lawful lawful text (e.ok clean store.store))
          c.forget_named.new.earlier.items
          (λ clean was is store same all. secures_beside new.now c.args.name.now _ _ store same _ c.forget_named.ensures.apart (c.forget_named.ensures.known _ all) c.args.number.now (c.requires (was, is)) c.args.security.now _ c.value.ensures.lawful lawful text (e.ok clean store.store)) c.of.result.value c.of.ensures;
    }

pub returns-in-Ok-clause-ok : goal.returns-in-Ok-clause-ok
returns-in-Ok-clause-ok g c honest =
    let s = c.args.self.now in
    let e = c.in-Ok.ensures in
    let new = state g.S.Store c.change_security.new.conn in
    let text = c.as_str.ensures.value ∙ c.in_ok-text.ensures.text ∙ ap canonical c.value.ensures.value in
    let lawful = subst IsLawful c.value.ensures.value c.in_ok-text.ensures.lawful in
    told g.S.Store s.conn c.change_security.new.conn s.origin.value s.last.value e.turns (dropped g.S.Store s.standing) e.done (IsSecured new.now c.args.name.now c.args.security.now)
    (λ clean was is store same. secures new.now c.args.name.now _ _ store same c.args.number.now (c.requires (was, is)) c.args.security.now _ c.value.ensures.lawful lawful text (e.ok clean store.store)) (some_contents_set _ _) honest.0 honest.1
    ∙ ap (λ (h : Held g.row.S.Denot). Some (contents_in (state g.S.Store h).now.trees)) (sym c.of.ensures)

pub invariant_of-self-in-Err : goal.invariant_of-self-in-Err
invariant_of-self-in-Err g c = record { standing = undone g.S.Store _ _ _ _ c.in-Err.ensures.turns (forgotten g.S.Store c.forget_named.ensures.known (dropped g.S.Store c.args.self.now.standing)) (λ store same clean is up. c.in-Err.ensures.undone clean up) }
