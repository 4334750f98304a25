use Rattle.sqlstore.proofs.Lemmas.{AreDue, Database, Held, IsKnown, IsWritten, None, Some, Trees, addition_of, additions, advances, ap, appends, appends_beside, at_sequence, contents_in, dropped, forgotten, known_after, length, length-map, rules, some_contents_set, stands_knowing, state, subst, sym, told_knowing, undone_knowing, ∥∥₁_elim, ∥∥₁_prop, ◌+◌, ◌∙◌, ◌≡◌}
use Rattle.transactions.specs.Indexing.{AreKnownIndexes}
use Rattle.sqlstore.proofs.Common.{IsStanding}
use Rattle.sqlstore.proofs.Committed.{due_at, sound, told as told_of}
use Rattle.sqlstore.proofs.MarkRows.{written_elsewhere}
use Rattle.sqlstore.specs.inner.Marks.{KeepsElsewhere, documents_at, ids_of}
use Rattle.sqlstore.proofs.sql_store.SqlStore.append_rows.Goals as goal

pub invariant_of-self : goal.invariant_of-self
invariant_of-self g c =
    let s = c.args.self.now in
    let e = c.in-Ok.ensures in
    let new = state g.S.Store c.commit_writes.new.conn in
    let name = c.args.name.now in
    let n = c.args.number.now in
    let all = additions c.args.writes.now in
    let trees = (state g.S.Store s.last.value).now.trees in
    let taken = λ (k : IsKnown trees s.known). subst (IsKnown trees) (sym c.take-was.ensures.value) k in
    let every = λ (k : IsKnown trees s.known) (t : Trees) (same : t ≡ trees). subst (AreKnownIndexes c.take_indexes-known.result.1 n) (sym same) (c.take_indexes-known.ensures.indexes trees (taken k)) in
    let x = stands_knowing g.S.Store s.conn c.commit_writes.new.conn s.origin.value s.last.value e.turns s.standing e.done (IsWritten new.now name all)
    (λ k clean was is store same. appends new.now name _ _ store same all n c.args.sequence (c.requires.due (was, is)) (e.ok name clean store (every k _ same)))
    c.forget_named.new.earlier.items
    (λ k clean was is store same beside.
    let here = subst (AreDue all name n c.args.sequence) (sym same) (c.requires.due (was, is)) in
    let done = e.ok name clean store (every k _ same) here in
    appends_beside new.now name _ _ store same _ c.forget_named.ensures.apart (c.forget_named.ensures.known _ beside) all n c.args.sequence here (done.0, done.1) (e.others name clean store (every k _ same) here)) c.of.result.value c.of.ensures in
    record {
      standing = record {
        idle = x.idle;
        unlimited = x.unlimited;
        held = x.held;
        known_so = λ clean is.
            known_after (state g.S.Store c.of.result.value).now.trees c.take_indexes-known.result.0 name (c.args.sequence + length c.args.writes.now) c.in-Ok.all c.advance.result c.advance.ensures (λ was kept named.
            subst (λ (h : Held g.row.S.Denot). ∥ IsKnown (state g.S.Store h).now.trees (Some (at_sequence (c.args.sequence + length c.args.writes.now) c.in-Ok.all was)) ∥₁) (sym c.of.ensures)
            (subst (λ m. ∥ IsKnown new.now.trees (Some (at_sequence (c.args.sequence + m) c.in-Ok.all was)) ∥₁) (length-map c.args.writes.now addition_of)
            (told_knowing g.S.Store s.conn c.commit_writes.new.conn s.origin.value s.last.value e.turns s.standing e.done (λ _. ∥ IsKnown new.now.trees (Some (at_sequence (c.args.sequence + length all) c.in-Ok.all was)) ∥₁)
            (λ k clean honest is store same.
            let due = c.requires.due (honest, is) in
            let writes = e.ok name clean store (every k _ same) in (
              (appends new.now name _ _ store same all n c.args.sequence due writes).0,
              ∣ advances new.now name _ _ store same all n c.args.sequence c.in-Ok.all due writes was named (subst (IsKnown trees) kept (c.take_indexes-known.ensures.known trees (taken k))) ∣₁,
            )) ∥∥₁_prop clean is)));
        earlier_so = x.earlier_so;
      };
    }

pub returns-in-Ok-clause-ok : goal.returns-in-Ok-clause-ok
returns-in-Ok-clause-ok g c honest =
    let s = c.args.self.now in
    let e = c.in-Ok.ensures in
    let new = state g.S.Store c.commit_writes.new.conn in
    let name = c.args.name.now in
    let n = c.args.number.now in
    let all = additions c.args.writes.now in
    let trees = (state g.S.Store s.last.value).now.trees in
    let every = λ (k : IsKnown trees s.known) (t : Trees) (same : t ≡ trees).
    subst (AreKnownIndexes c.take_indexes-known.result.1 n) (sym same) (c.take_indexes-known.ensures.indexes trees (subst (IsKnown trees) (sym c.take-was.ensures.value) k)) in
    told_knowing g.S.Store s.conn c.commit_writes.new.conn s.origin.value s.last.value e.turns s.standing e.done (IsWritten new.now name all)
    (λ k clean was is store same. appends new.now name _ _ store same all n c.args.sequence (c.requires.due (was, is)) (e.ok name clean store (every k _ same))) (some_contents_set _ _) honest.0 honest.1
    ∙ ap (λ (h : Held g.row.S.Denot). Some (contents_in (state g.S.Store h).now.trees)) (sym c.of.ensures)

pub invariant_of-self-in-Err : goal.invariant_of-self-in-Err
invariant_of-self-in-Err g c =
    let s = c.args.self.now in
    let name = c.args.name.now in
    let n = c.args.number.now in
    let all = additions c.args.writes.now in
    let e = c.in-Err.ensures in
    let trees = (state g.S.Store s.last.value).now.trees in
    let every = λ (k : IsKnown trees s.known) (t : Trees) (same : t ≡ trees).
    subst (AreKnownIndexes c.take_indexes-known.result.1 n) (sym same) (c.take_indexes-known.ensures.indexes trees (subst (IsKnown trees) (sym c.take-was.ensures.value) k)) in
    let gone : c.take-was.new.self ≡ None = search rules in
    record {
      standing = subst (λ k. IsStanding g.S.Store c.commit_writes.new.conn s.origin.value s.last.value k c.forget_named.new.earlier.items) (sym gone)
          (forgotten g.S.Store c.forget_named.ensures.known (dropped g.S.Store (undone_knowing g.S.Store s.conn c.commit_writes.new.conn s.origin.value s.last.value e.turns s.standing
          (λ k store same clean is up. e.undone name store (every k _ same) (due_at all name n c.args.sequence _ _ same (c.requires.due (e.turns.clean clean, is))) clean up))));
    }

pub returns-in-Err-clause-told : goal.returns-in-Err-clause-told
returns-in-Err-clause-told g c =
    let s = c.args.self.now in
    let name = c.args.name.now in
    let n = c.args.number.now in
    let e = c.in-Err.ensures in
    let trees = (state g.S.Store s.last.value).now.trees in
    told_of _ _ _ _ c.in-Err.fault _ (e.err name) c.judge_write.ensures.told
    (λ honest none.
    ∥∥₁_elim (s.standing.known_so (e.turns.clean honest.0) honest.1) (λ p q. absurd p) (λ k.
    sound g.S.Store (λ (d : Database). AreKnownIndexes c.take_indexes-known.result.1 n d.trees × AreDue (additions c.args.writes.now) name n c.args.sequence d.trees) s.conn c.commit_writes.new.conn s.origin.value s.last.value e.turns.clean s.standing.held honest.0 honest.1
    (c.take_indexes-known.ensures.indexes trees (subst (IsKnown trees) (sym c.take-was.ensures.value) k), c.requires.due (e.turns.clean honest.0, honest.1)) none))

pub returns-in-Ok-clause-elsewhere : goal.returns-in-Ok-clause-elsewhere
returns-in-Ok-clause-elsewhere g c honest =
    let s = c.args.self.now in
    let e = c.in-Ok.ensures in
    let new = state g.S.Store c.commit_writes.new.conn in
    let name = c.args.name.now in
    let n = c.args.number.now in
    let ws = c.args.writes.now in
    let all = additions ws in
    let trees = (state g.S.Store s.last.value).now.trees in
    let every = λ (k : IsKnown trees s.known) (t : Trees) (same : t ≡ trees).
    subst (AreKnownIndexes c.take_indexes-known.result.1 n) (sym same) (c.take_indexes-known.ensures.indexes trees (subst (IsKnown trees) (sym c.take-was.ensures.value) k)) in
    subst (λ (h : Held g.row.S.Denot). ∥ KeepsElsewhere (ids_of ws) (documents_at trees n) (documents_at (state g.S.Store h).now.trees n) ∥₁) (sym c.of.ensures)
    (told_knowing g.S.Store s.conn c.commit_writes.new.conn s.origin.value s.last.value e.turns s.standing e.done (λ (d : Database). ∥ KeepsElsewhere (ids_of ws) (documents_at d.trees n) (documents_at new.now.trees n) ∥₁)
    (λ k clean was is store same.
    let here = subst (AreDue all name n c.args.sequence) (sym same) (c.requires.due (was, is)) in (
      (appends new.now name _ _ store same all n c.args.sequence (c.requires.due (was, is)) (e.ok name clean store (every k _ same))).0,
      ∣ written_elsewhere ws name here.row n (state g.S.Store s.conn).now new.now here.numbered (e.ok name clean store (every k _ same) here).0 ∣₁,
    )) ∥∥₁_prop honest.0 honest.1)
