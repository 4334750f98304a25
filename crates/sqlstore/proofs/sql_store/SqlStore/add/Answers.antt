use Rattle.sqlstore.proofs.Lemmas.{IsAdded, adds, adds_beside, ap, canonical, contents_in, contents_set, dropped, forgotten, stands, state, told, undone, ◌∙◌}
use Rattle.sqlstore.proofs.sql_store.SqlStore.add.Goals as goal

pub invariant_of-self : goal.invariant_of-self
invariant_of-self g c =
    let s = c.args.self.now in
    let e = c.in-Ok.ensures in
    let new = state g.S.Store c.add_database.new.conn in
    let name = c.as_bytes.ensures.value ∙ c.as_str.ensures.text in
    let text = c.as_str-2.ensures.value ∙ c.in_ok-text.ensures.text ∙ ap canonical (c.value.ensures.value ∙ c.in_ok-security.ensures) in
    record {
      standing = stands g.S.Store s.conn c.add_database.new.conn s.origin.value s.last.value e.turns (dropped g.S.Store s.standing) e.done (IsAdded new.now c.args.name.now)
          (λ clean was is store same. adds new.now c.args.name.now _ _ store same _ _ c.as_str.ensures.lawful (c.requires (was, is)) name text (e.ok clean store.store))
          c.forget_named.new.earlier.items
          (λ clean was is store same all. adds_beside new.now c.args.name.now _ _ store same _ c.forget_named.ensures.apart (c.forget_named.ensures.known _ all) _ _ c.as_str.ensures.lawful (c.requires (was, is)) name text (e.ok clean store.store)) c.of.result.value c.of.ensures;
    }

pub returns-in-Ok-clause-ok : goal.returns-in-Ok-clause-ok
returns-in-Ok-clause-ok g c honest =
    let s = c.args.self.now in
    let e = c.in-Ok.ensures in
    let new = state g.S.Store c.add_database.new.conn in
    let name = c.as_bytes.ensures.value ∙ c.as_str.ensures.text in
    let text = c.as_str-2.ensures.value ∙ c.in_ok-text.ensures.text ∙ ap canonical (c.value.ensures.value ∙ c.in_ok-security.ensures) in
    ap (λ h. contents_in (state g.S.Store h).now.trees) c.of.ensures ∙ told g.S.Store s.conn c.add_database.new.conn s.origin.value s.last.value e.turns (dropped g.S.Store s.standing) e.done (IsAdded new.now c.args.name.now)
    (λ clean was is store same. adds new.now c.args.name.now _ _ store same _ _ c.as_str.ensures.lawful (c.requires (was, is)) name text (e.ok clean store.store)) (contents_set _ _) honest.0 honest.1

pub invariant_of-self-in-Err : goal.invariant_of-self-in-Err
invariant_of-self-in-Err g c = record { standing = undone g.S.Store _ _ _ _ c.in-Err.ensures.turns (forgotten g.S.Store c.forget_named.ensures.known (dropped g.S.Store c.args.self.now.standing)) (λ store same clean is up. c.in-Err.ensures.undone clean up) }
