use Rattle.sqlstore.proofs.Common.{HasCleanDisk, WasStore}
use Rattle.sqlstore.proofs.Lemmas.{HasLocal, Held, IsKnown, IsLawful, Some, ap, canonical, contents_in, put_beside, put_known, puts, some_contents_set, stands_knowing, state, subst, sym, told, told_knowing, undone, ∥∥₁_prop, ◌∙◌, ◌≡◌}
use Rattle.sqlstore.specs.Standing.{AreKnown}
use Rattle.transactions.specs.Indexing.{IsIndexedStore}
use Rattle.sqlstore.proofs.sql_store.SqlStore.put_local.Goals as goal

pub invariant_of-self : goal.invariant_of-self
invariant_of-self g c =
    let s = c.args.self.now in
    let e = c.in-Ok.ensures in
    let new = state g.S.Store c.write_local.new.conn in
    let named = c.as_bytes.ensures.value ∙ c.as_str.ensures.text in
    let text = c.as_str-2.ensures.value ∙ c.in_ok-text.ensures.text ∙ ap canonical c.json.ensures in
    let lawful = subst IsLawful c.json.ensures c.in_ok-text.ensures.lawful in
    let makes = λ (clean : HasCleanDisk new) (was : HasCleanDisk (state g.S.Store s.conn)) (is : WasStore g.S.Store s.origin.value) (store : IsIndexedStore (state g.S.Store s.conn).now) (same : (state g.S.Store s.conn).now.trees ≡ (state g.S.Store s.last.value).now.trees).
    puts new.now c.args.name.now _ _ store same c.args.number.now (c.requires.there (was, is)) c.args.id.now _ _ c.args.document.now c.as_str.ensures.lawful (c.requires.local (was, is)) lawful named text (e.ok clean store.store) in
    let x = stands_knowing g.S.Store s.conn c.write_local.new.conn s.origin.value s.last.value e.turns s.standing e.done (HasLocal new.now c.args.name.now c.args.id.now c.args.document.now) (λ k. makes)
    s.earlier.items
    (λ k clean was is store same all. put_beside (state g.S.Store s.conn).now new.now _ _ _ _ store.store.schema_is (e.ok clean store.store) s.earlier.items (subst (λ t. AreKnown t s.earlier.items) (sym same) all)) c.of.result.value c.of.ensures in
    record {
      standing = record {
        idle = x.idle;
        unlimited = x.unlimited;
        held = x.held;
        known_so = λ clean is.
            subst (λ (h : Held g.row.S.Denot). ∥ IsKnown (state g.S.Store h).now.trees s.known ∥₁) (sym c.of.ensures)
            (told_knowing g.S.Store s.conn c.write_local.new.conn s.origin.value s.last.value e.turns s.standing e.done (λ _. ∥ IsKnown new.now.trees s.known ∥₁)
            (λ k clean was is store same.
            ((makes clean was is store same).0, ∣ put_known (state g.S.Store s.conn).now new.now _ _ _ _ store.store.schema_is (e.ok clean store.store) s.known (subst (λ t. IsKnown t s.known) (sym same) k) ∣₁)) ∥∥₁_prop clean is);
        earlier_so = x.earlier_so;
      };
    }

pub returns-in-Ok-clause-ok : goal.returns-in-Ok-clause-ok
returns-in-Ok-clause-ok g c honest =
    let s = c.args.self.now in
    let e = c.in-Ok.ensures in
    let new = state g.S.Store c.write_local.new.conn in
    let named = c.as_bytes.ensures.value ∙ c.as_str.ensures.text in
    let text = c.as_str-2.ensures.value ∙ c.in_ok-text.ensures.text ∙ ap canonical c.json.ensures in
    let lawful = subst IsLawful c.json.ensures c.in_ok-text.ensures.lawful in
    told g.S.Store s.conn c.write_local.new.conn s.origin.value s.last.value e.turns s.standing e.done (HasLocal new.now c.args.name.now c.args.id.now c.args.document.now)
    (λ clean was is store same. puts new.now c.args.name.now _ _ store same c.args.number.now (c.requires.there (was, is)) c.args.id.now _ _ c.args.document.now c.as_str.ensures.lawful (c.requires.local (was, is)) lawful named text (e.ok clean store.store)) (some_contents_set _ _) honest.0 honest.1
    ∙ ap (λ (h : Held g.row.S.Denot). Some (contents_in (state g.S.Store h).now.trees)) (sym c.of.ensures)

pub invariant_of-self-in-Err : goal.invariant_of-self-in-Err
invariant_of-self-in-Err g c = record { standing = undone g.S.Store _ _ _ _ c.in-Err.ensures.turns c.args.self.now.standing (λ store same clean is up. c.in-Err.ensures.undone clean up) }
