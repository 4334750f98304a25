use Rattle.sqlstore.proofs.Lemmas.{IsRemoved, ap, clears, clears_beside, contents_in, contents_set, dropped, forgotten, stands, state, told, undone, ◌∙◌}
use Rattle.std.specs.Prelude.{⊤}
use Rattle.sqlstore.proofs.Committed.{sound, told as told_of}
use Rattle.sqlstore.proofs.sql_store.SqlStore.clear.Goals as goal

pub invariant_of-self : goal.invariant_of-self
invariant_of-self g c =
    let s = c.args.self.now in
    let e = c.in-Ok.ensures in
    let new = state g.S.Store c.remove_database.new.conn in
    record {
      standing = stands g.S.Store s.conn c.remove_database.new.conn s.origin.value s.last.value e.turns (dropped g.S.Store s.standing) e.done (IsRemoved new.now c.args.name.now)
          (λ clean was is store same. clears new.now c.args.name.now _ _ store same c.args.number.now (c.requires (was, is)) (e.ok clean store))
          c.forget_named.new.earlier.items
          (λ clean was is store same all. clears_beside new.now c.args.name.now _ _ store same _ c.forget_named.ensures.apart (c.forget_named.ensures.known _ all) c.args.number.now (c.requires (was, is)) (e.ok clean store)) c.of.result.value c.of.ensures;
    }

pub returns-in-Ok-clause-ok : goal.returns-in-Ok-clause-ok
returns-in-Ok-clause-ok g c honest =
    let s = c.args.self.now in
    let e = c.in-Ok.ensures in
    let new = state g.S.Store c.remove_database.new.conn in
    ap (λ h. contents_in (state g.S.Store h).now.trees) c.of.ensures ∙ told g.S.Store s.conn c.remove_database.new.conn s.origin.value s.last.value e.turns (dropped g.S.Store s.standing) e.done (IsRemoved new.now c.args.name.now)
    (λ clean was is store same. clears new.now c.args.name.now _ _ store same c.args.number.now (c.requires (was, is)) (e.ok clean store)) (contents_set _ _) honest.0 honest.1

pub invariant_of-self-in-Err : goal.invariant_of-self-in-Err
invariant_of-self-in-Err g c = record { standing = undone g.S.Store _ _ _ _ c.in-Err.ensures.turns (forgotten g.S.Store c.forget_named.ensures.known (dropped g.S.Store c.args.self.now.standing)) (λ store same clean is up. c.in-Err.ensures.undone store clean up) }

pub returns-in-Err-clause-told : goal.returns-in-Err-clause-told
returns-in-Err-clause-told g c =
    let s = c.args.self.now in
    let e = c.in-Err.ensures in
    told_of _ _ _ _ c.in-Err.fault _ e.err c.judge_write.ensures.told
    (λ honest. sound g.S.Store (λ _. ⊤) s.conn c.remove_database.new.conn s.origin.value s.last.value e.turns.clean s.standing.held honest.0 honest.1 tt)
