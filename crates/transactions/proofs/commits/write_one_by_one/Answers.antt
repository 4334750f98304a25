use Rattle.transactions.proofs.Lemmas.{CommitFault, HasBest, HasCleanDisk, HasWritten, IsHeldOpen, IsUnwritten, addition_of, additions, ap, arith, asks_itself, asks_then, best_in_turn, database_of_row, further_followed, history_with, keeps_itself, keeps_then, map, may_in_turn, none_held, none_written, refl, rules, state, stored_further, subst, sym, take_all, to_z-of_z, unwritten_of, w64, writings_in, ◌∙◌, ◌≡◌}
use Rattle.std.proofs.Common.{of_z, to_z}
use Rattle.std.proofs.Common.{Global, Vec}
use Rattle.index.proofs.Going.{if_err, if_ok}
use Rattle.index.specs.Steps.{AreFit}
use Rattle.std.proofs.lemmas.List.{nil_from_length}
use Rattle.transactions.proofs.Common.{List, [], ℕ, ◌≢◌}
use Rattle.transactions.specs.inner.Postponing.{IsCaughtUp}
use Rattle.index.specs.Shown.{declared}
use Rattle.index.specs.declared.declaration.Declaration.{Declaration}
use Rattle.transactions.proofs.IndexSteps.{none_postponed, on_some, written_still}
use Rattle.transactions.proofs.OtherRows.{others_followed, others_still}
use Rattle.transactions.specs.Indexing.{AreAllIndexes, IsIndexedBut, IsIndexedStoreBut, IsSoundBut, MayBeWritten}
use Rattle.transactions.proofs.AllWrites.{Given, all_failed}
use Rattle.transactions.specs.inner.Histories.{AreHeld}
use Rattle.transactions.proofs.commits.write_one_by_one.Goals as goal

pub loop-i-init : goal.loop-i-init
loop-i-init g c =
    let old = state g.S.Store c.args.tx.now.conn.now in
    let none : c.new-postponed.result.keys ≡ [] = nil_from_length c.new-postponed.result.keys c.new-postponed.ensures.len in
    record {
      same = refl;
      asks = asks_itself old;
      held = λ clean. none_held _ c.new-histories.result c.new-histories.ensures.empty;
      opened = λ clean some. absurd (some none);
      so_far = λ name clean was every due.
          (none_written old.now name due.row was.store due.first, subst (λ ids. IsIndexedBut c.args.db.now ids old.now.trees) (sym none) (none_postponed c.args.db.now old.now.trees was.indexed), every, keeps_itself old, none_held _ c.new-histories.result c.new-histories.ensures.empty, (λ up. up), (λ within. within), refl);
    }

pub loop-i-preserved : goal.loop-i-preserved
loop-i-preserved g c =
    let inv = c.loop-i.invariant in
    let old = state g.S.Store c.args.tx.now.conn.now in
    let mid = state g.S.Store c.loop-i.tx.conn.now in
    let new = state g.S.Store c.write_and_index.new.tx.conn.now in
    let e = c.in_ok-write_and_index.ensures in
    record {
      same = e.same_reference ∙ inv.same;
      asks = asks_then old mid new inv.asks e.writes.asks;
      held = λ clean id h is.
          let mid-clean : HasCleanDisk mid = omega (arith, e.writes.asks.survives.clean, clean) in
          inv.asks.was_open mid-clean (e.writes.served clean);
      opened = λ clean some.
          let mid-clean : HasCleanDisk mid = omega (arith, e.writes.asks.survives.clean, clean) in
          inv.asks.was_open mid-clean (e.writes.served clean);
      so_far = λ name clean was every due.
          let mid-clean : HasCleanDisk mid = omega (arith, e.writes.asks.survives.clean, clean) in
          let before = inv.so_far name mid-clean was every due in
          let may = may_in_turn c.args.writes.now c.loop-i.i c.index-writes-i.result name c.args.db.now c.args.sequence _ old.now mid.now c.loop-i-test.true c.index-writes-i.is c.requires (to_z-of_z {w = w64} {z = c.integer_of-next.result} (record { sfits = c.integer_of-next.type_inv }) ∙ c.integer_of-next.ensures) due before.0 in
          let these = ap (map declared) c.deref.ensures.value in
          let both = e.ok clean (record { store = before.0.store; indexed = before.1 }) (these ∙ before.2) before.4 may in
          let followed = both.0 in
          let inside = e.writes.inside clean before.0.store before.4 may in
          let done = further_followed c.args.writes.now c.loop-i.i c.index-writes-i.result name c.args.db.now c.write_and_index.new.postponed.keys c.args.sequence _ old.now mid.now new.now c.loop-i-test.true c.index-writes-i.is c.requires
          (to_z-of_z {w = w64} {z = c.integer_of-next.result} (record { sfits = c.integer_of-next.type_inv }) ∙ c.integer_of-next.ensures) due before.0 e.writes.lawful followed in (
            done,
            followed.indexed,
            sym these ∙ both.1,
            keeps_then old mid new before.3 (e.writes.kept clean before.0.store before.4 may),
            stored_further c.args.writes.now c.loop-i.i c.index-writes-i.result name c.args.db.now due.row old.now mid.now new.now c.loop-i.histories c.write_and_index.new.histories c.loop-i-test.true c.index-writes-i.is due.numbered
                before.0 done before.4 (e.writes.after clean before.0.store before.4),
            (λ up. inside.0),
            (λ within. inside.1),
            others_followed c.args.db.now c.write_and_index.new.postponed.keys may.row _ mid.now new.now may.numbered before.0.store.schema_is followed ∙ before.7,
          );
    }

pub returns-in_err-write_and_index-clause-writes : goal.returns-in_err-write_and_index-clause-writes
returns-in_err-write_and_index-clause-writes g c =
    let inv = c.loop-i.invariant in
    let first = c.args.tx.now.conn.now in
    let last = c.loop-i.tx.conn.now in
    let now = c.write_and_index.new.tx.conn.now in
    let old = state g.S.Store first in
    let mid = state g.S.Store last in
    let new = state g.S.Store now in
    let e = c.in_err-write_and_index.ensures.writes in
    let fault = c.in_err-write_and_index.field-0.0 in
    let w = c.index-writes-i.result in
    let a = addition_of w in
    let db = c.args.db.now in
    let all = additions c.args.writes.now in
    let at = to_z-of_z {w = w64} {z = c.integer_of-next.result} (record { sfits = c.integer_of-next.type_inv }) ∙ c.integer_of-next.ensures in
    all_failed g.S.Store all db c.args.sequence (AreAllIndexes (map declared c.args.indexes.items) db) (λ (all : Vec Declaration Global). AreAllIndexes (map declared all.items) db) first now fault c.from_residual.result (search rules)
    (asks_then old mid new inv.asks e.asks)
    (λ name clean was every due.
    let mid-clean : HasCleanDisk mid = omega (arith, e.asks.survives.clean, clean) in
    let before = inv.so_far name mid-clean was every due in
    keeps_then old mid new before.3 (e.kept clean before.0.store before.4 (may_in_turn c.args.writes.now c.loop-i.i w name db c.args.sequence _ old.now mid.now c.loop-i-test.true c.index-writes-i.is c.requires at due before.0)))
    (λ name.
    unwritten_of
    (IsHeldOpen c.loop-i.histories mid
    × IsSoundBut g.S.Store db c.loop-i.postponed.keys (λ d. AreHeld c.loop-i.histories db d.trees × HasBest (history_with d.trees db a) × MayBeWritten db (to_z w64 (of_z w64 c.integer_of-next.result)) a d) last now)
    (Given g.S.Store all db c.args.sequence name (AreAllIndexes (map declared c.args.indexes.items) db) first now) fault
    (λ it.
    let mid-clean : HasCleanDisk mid = omega (arith, e.asks.survives.clean, it.0) in (
      (λ id h is.
          let up = inv.held mid-clean id h is in
          let had = it.1 up in
          (inv.so_far name mid-clean had.0 had.1.0 had.1.1).5 up),
      (
        it.0,
        λ up.
            let had = it.1 (inv.asks.was_open mid-clean up) in
            let far = inv.so_far name mid-clean had.0 had.1.0 had.1.1 in (
              record { store = far.0.store; indexed = far.1 },
              (
                far.4,
                best_in_turn c.args.writes.now c.loop-i.i w name db c.args.sequence old.now mid.now c.loop-i-test.true c.index-writes-i.is had.1.1 far.0,
                may_in_turn c.args.writes.now c.loop-i.i w name db c.args.sequence _ old.now mid.now c.loop-i-test.true c.index-writes-i.is c.requires at had.1.1 far.0,
              ),
            ),
      ),
    )) (e.err c.loop-i.postponed.keys))

pub returns-clause-writes : goal.returns-clause-writes
returns-clause-writes g c =
    let inv = c.loop-i.invariant in
    let first = c.args.tx.now.conn.now in
    let last = c.loop-i.tx.conn.now in
    let now = c.catch_up.new.tx.conn.now in
    let old = state g.S.Store first in
    let mid = state g.S.Store last in
    let new = state g.S.Store now in
    let db = c.args.db.now in
    let all = additions c.args.writes.now in
    let ids : List (List ℕ) = c.loop-i.postponed.keys in
    let end = c.catch_up.ensures in
    record {
      done = λ name clean was every due.
          let mid-clean : HasCleanDisk mid = omega (arith, end.asks.survives.clean, clean) in
          let far = inv.so_far name mid-clean was every due in
          let ws = writings_in (database_of_row old.now.trees due.row) all in
          let done : HasWritten ws name due.row old.now mid.now =
          subst (λ ws. HasWritten (writings_in (database_of_row old.now.trees due.row) (additions ws)) name due.row old.now mid.now) (take_all c.loop-i.i c.args.writes.now (omega (arith, c.loop-i-test.false))) far.0 in
          let caught = end.ok clean (record { store = far.0.store; indexed = far.1 }) far.2 in
          record {
            ok = if_ok c.catch_up.result
                (λ (all : Vec Declaration Global) (both : IsCaughtUp mid.now new.now × AreAllIndexes (map declared all.items) db new.now.trees).
                (written_still ws name due.row old.now mid.now new.now done both.0.only, both.0.indexed, both.1)) caught;
            others = on_some c.catch_up.result (λ all both. others_still db old.now mid.now new.now far.0.store.schema_is both.0.only far.7) caught;
            kept = keeps_then old mid new far.3 (end.kept clean far.0.store.schema_is);
            inside = λ within. end.inside clean far.0.store.schema_is (λ some. far.5 (inv.opened mid-clean some)) (far.6 within);
          };
      err = λ name.
          let Told : Type 0 = ids ≢ [] → AreFit g.S.Store (IsIndexedStoreBut db ids) last now in
          let Asked : Type 0 = Given g.S.Store all db c.args.sequence name (AreAllIndexes (map declared c.args.indexes.items) db) first now in
          if_err {P = IsUnwritten Told} {Q = IsUnwritten Asked} c.catch_up.result
          (λ (fault : CommitFault) h.
          unwritten_of Told Asked fault
          (λ it some.
          let mid-clean : HasCleanDisk mid = omega (arith, end.asks.survives.clean, it.0) in
          let had = it.1 (inv.opened mid-clean some) in
          let far = inv.so_far name mid-clean had.0 had.1.0 had.1.1 in
          (it.0, record { store = far.0.store; indexed = far.1 })) h) end.err;
      asks = asks_then old mid new inv.asks end.asks;
    }
