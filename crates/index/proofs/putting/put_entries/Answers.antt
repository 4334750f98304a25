use Rattle.index.proofs.Common.{AreEntryRows, Changes, Err, Error, List, Ok, [], arith, drop, entries_tree, entry_cells, length, map, refl, rules, state, subst, with_cells, ℕ, ⊤, ◌+◌, ◌∙◌, ◌≡◌}
use Rattle.index.proofs.Beside.{put_next}
use Rattle.index.proofs.Going.{only_itself}
use Rattle.index.proofs.StepLemmas.{steps_alter, steps_none, steps_so, steps_stop, steps_then}
use Rattle.index.specs.inner.Gathering.{AreToPut, HasEntriesBeside, entry_of}
use Rattle.std.proofs.Common.{◌≤◌}
use Rattle.std.proofs.lemmas.List.{drop_all}
use Rattle.index.proofs.putting.put_entries.Goals as goal

pub loop-entry-init : goal.loop-entry-init
loop-entry-init g c = record {
  same = refl;
  so_far = λ due.
      let all = map entry_of c.args.entries.now in
      steps_none g.S.Store (AreToPut due all) (HasEntriesBeside due all) c.args.tx.now.conn.now (Ok tt)
      (λ fit. record { entries = fit.entries; only = only_itself entries_tree (state g.S.Store c.args.tx.now.conn.now).now }) tt;
}

pub loop-entry-preserved : goal.loop-entry-preserved
loop-entry-preserved g c =
    let inv = c.loop-entry.invariant in
    let first = c.args.tx.now.conn.now in
    let second = c.loop-entry.tx.conn.now in
    let third = c.insert_entry.new.tx.conn.now in
    let es = c.args.entries.now in
    let i = c.loop-entry.entry-index in
    let x = c.entry-item.result in
    let k : List ℕ = c.deref.result.now in
    let id : List ℕ = c.deref-in-loop-entry.result.now in
    let f = c.in_ok-insert_entry.ensures in
    record {
      same = f.same_reference ∙ inv.same;
      so_far = λ due.
          let now = map entry_of (drop i es) in
          steps_then g.S.Store {E = Error} (AreToPut due (map entry_of es)) (AreToPut due now) (HasEntriesBeside due now) (λ p q. Changes entries_tree (with_cells (p.trees entries_tree) (entry_cells x.declaration k id)) p q)
          (HasEntriesBeside due (map entry_of (drop (i + 1) es))) first second third tt (Ok tt)
          (inv.so_far due)
          (steps_alter g.S.Store (AreToPut due now) entries_tree AreEntryRows (λ rows. with_cells rows (entry_cells x.declaration k id)) second third (Ok tt) f.alters (λ fit. (fit.schema_is, fit.entries.laid)))
          (λ was fit made. record { schema_is = made.only.schema ∙ fit.schema_is; entries = made.entries })
          (λ was fit made change. put_next due es i x c.loop-entry-test.true c.entry-item.is (state g.S.Store first).now (state g.S.Store second).now made (state g.S.Store third).now
          (subst (λ cells. Changes entries_tree (with_cells ((state g.S.Store second).now.trees entries_tree) cells) (state g.S.Store second).now (state g.S.Store third).now) (λ j. entry_cells x.declaration (c.deref.ensures.value j) (c.deref-in-loop-entry.ensures.value j)) change));
    }

pub returns-in_err-insert_entry-clause-puts : goal.returns-in_err-insert_entry-clause-puts
returns-in_err-insert_entry-clause-puts g c due =
    let second = c.loop-entry.tx.conn.now in
    let es = c.args.entries.now in
    let i = c.loop-entry.entry-index in
    let x = c.entry-item.result in
    let k : List ℕ = c.deref.result.now in
    let id : List ℕ = c.deref-in-loop-entry.result.now in
    let now = map entry_of (drop i es) in
    let fault = c.in_err-insert_entry.field-0.0 in
    let is : c.from_residual.result ≡ Err fault = search rules in
    steps_stop g.S.Store {X = Unit {0}} (AreToPut due (map entry_of es)) (λ p q. ⊤) (HasEntriesBeside due []) c.args.tx.now.conn.now c.insert_entry.new.tx.conn.now fault fault c.from_residual.result is
    (steps_then g.S.Store {E = Error} (AreToPut due (map entry_of es)) (AreToPut due now) (HasEntriesBeside due now) (λ p q. Changes entries_tree (with_cells (p.trees entries_tree) (entry_cells x.declaration k id)) p q)
    (λ p q. ⊤) c.args.tx.now.conn.now second c.insert_entry.new.tx.conn.now tt (Err fault)
    (c.loop-entry.invariant.so_far due)
    (steps_alter g.S.Store (AreToPut due now) entries_tree AreEntryRows (λ rows. with_cells rows (entry_cells x.declaration k id)) second c.insert_entry.new.tx.conn.now (Err fault) c.in_err-insert_entry.ensures.alters (λ fit. (fit.schema_is, fit.entries.laid)))
    (λ was fit made. record { schema_is = made.only.schema ∙ fit.schema_is; entries = made.entries }) (λ was fit made change. tt))

pub returns-clause-puts : goal.returns-clause-puts
returns-clause-puts g c due =
    let first = c.args.tx.now.conn.now in
    let second = c.loop-entry.tx.conn.now in
    let es = c.args.entries.now in
    let i = c.loop-entry.entry-index in
    let none : length es ≤ i = omega (arith, c.loop-entry-test.false) in
    steps_so g.S.Store (AreToPut due (map entry_of es)) (HasEntriesBeside due (map entry_of (drop i es))) (HasEntriesBeside due []) first second (Ok tt) (c.loop-entry.invariant.so_far due)
    (λ fit made. subst (λ l. HasEntriesBeside due (map entry_of l) (state g.S.Store first).now (state g.S.Store second).now) (drop_all i es none) made)
