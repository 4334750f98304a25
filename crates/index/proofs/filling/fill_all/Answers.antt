use Rattle.index.proofs.Common.{Err, HasEntries, IndexFault, Ok, [], ap, codes, declared, false, map, rules, state, subst, ◌∷◌, ◌≡◌}
use Rattle.index.proofs.Refusals.{refused_as, refused_then}
use Rattle.index.proofs.StepLemmas.{steps_stop}
use Rattle.index.proofs.GatherSteps.{first_from, first_refused}
use Rattle.index.proofs.ToGather.{all_put, both_gathered, is_behind, second_range}
use Rattle.index.specs.Filling.{AreBare, numbers_of}
use Rattle.index.specs.inner.Gathering.{HasEntriesBeside, IsToGatherRange, entry_of, without_documents}
use Rattle.index.specs.Steps.{AreFit}
use Rattle.index.specs.declared.fault.IndexFault.TheVariants as fault
use Rattle.index.proofs.filling.fill_all.Goals as goal

pub returns-in_err-gather_range-clause-fills : goal.returns-in_err-gather_range-clause-fills
returns-in_err-gather_range-clause-fills g c due =
    let why = c.in_err-gather_range.field-0.0 in
    steps_stop g.S.Store {X = Unit {0}} (AreBare c.args.db.now (map declared c.args.declarations.now) due) (HasEntriesBeside (without_documents due (numbers_of (map declared c.args.declarations.now)) is_behind) (map entry_of c.gather_range.new.gathered.entries.items)) (HasEntries due) c.args.tx.now.conn.now c.gather_range.new.tx.conn.now why why c.from_residual.result (search rules)
    (first_from g.S.Store c.args.db.now (map declared c.args.declarations.now) due (map entry_of c.new-gathered.result.entries.items) (ap (map entry_of) c.new-gathered.ensures) c.args.tx.now.conn.now c.gather_range.new.tx.conn.now (map entry_of c.gather_range.new.gathered.entries.items) (Err why) (c.in_err-gather_range.ensures.gathers is_behind due))

pub returns-in_err-gather_range-2-clause-fills : goal.returns-in_err-gather_range-2-clause-fills
returns-in_err-gather_range-2-clause-fills g c due =
    let why = c.in_err-gather_range-2.field-0.0 in
    steps_stop g.S.Store {X = Unit {0}} (AreBare c.args.db.now (map declared c.args.declarations.now) due) (HasEntriesBeside due (map entry_of c.gather_range-2.new.gathered.entries.items)) (HasEntries due) c.args.tx.now.conn.now c.gather_range-2.new.tx.conn.now why why c.from_residual-in_err-gather_range-2.result (search rules)
    (both_gathered g.S.Store c.args.db.now (map declared c.args.declarations.now) due {E = IndexFault} (map entry_of c.gather_range.new.gathered.entries.items) (map entry_of c.gather_range-2.new.gathered.entries.items) c.args.tx.now.conn.now c.gather_range.new.tx.conn.now c.gather_range-2.new.tx.conn.now tt (Err why)
    (first_from g.S.Store c.args.db.now (map declared c.args.declarations.now) due (map entry_of c.new-gathered.result.entries.items) (ap (map entry_of) c.new-gathered.ensures) c.args.tx.now.conn.now c.gather_range.new.tx.conn.now (map entry_of c.gather_range.new.gathered.entries.items) (Ok tt) (c.in_ok-gather_range.ensures.gathers is_behind due))
    (c.in_err-gather_range-2.ensures.gathers (λ id. false) due))

pub returns-in_err-put_gathered-clause-fills : goal.returns-in_err-put_gathered-clause-fills
returns-in_err-put_gathered-clause-fills g c due =
    let e = c.in_err-put_gathered.field-0.0 in
    let p = c.in_err-put_gathered.ensures.puts due in
    steps_stop g.S.Store {X = Unit {0}} (AreBare c.args.db.now (map declared c.args.declarations.now) due) (HasEntries due) (HasEntries due) c.args.tx.now.conn.now c.put_gathered.new.tx.conn.now e (fault.Sqlite e) c.from_residual-in_err-put_gathered.result (search rules)
    (all_put g.S.Store c.args.db.now (map declared c.args.declarations.now) due {E = IndexFault} (map entry_of c.gather_range-2.new.gathered.entries.items) c.args.tx.now.conn.now c.gather_range-2.new.tx.conn.now c.put_gathered.new.tx.conn.now tt (Err e)
    (both_gathered g.S.Store c.args.db.now (map declared c.args.declarations.now) due {E = IndexFault} {D = IndexFault} (map entry_of c.gather_range.new.gathered.entries.items) (map entry_of c.gather_range-2.new.gathered.entries.items) c.args.tx.now.conn.now c.gather_range.new.tx.conn.now c.gather_range-2.new.tx.conn.now tt (Ok tt)
    (first_from g.S.Store c.args.db.now (map declared c.args.declarations.now) due (map entry_of c.new-gathered.result.entries.items) (ap (map entry_of) c.new-gathered.ensures) c.args.tx.now.conn.now c.gather_range.new.tx.conn.now (map entry_of c.gather_range.new.gathered.entries.items) (Ok tt) (c.in_ok-gather_range.ensures.gathers is_behind due))
    (c.in_ok-gather_range-2.ensures.gathers (λ id. false) due))
    (record { ok = λ clean fit. tt; keeps = λ clean has. tt; kept = p.kept; goes_on = λ clean has up within. tt; asks = p.asks }))

pub returns-clause-fills : goal.returns-clause-fills
returns-clause-fills g c due =
    all_put g.S.Store c.args.db.now (map declared c.args.declarations.now) due {E = IndexFault} {D = IndexFault} (map entry_of c.gather_range-2.new.gathered.entries.items) c.args.tx.now.conn.now c.gather_range-2.new.tx.conn.now c.put_gathered.new.tx.conn.now tt (Ok tt)
    (both_gathered g.S.Store c.args.db.now (map declared c.args.declarations.now) due {E = IndexFault} {D = IndexFault} (map entry_of c.gather_range.new.gathered.entries.items) (map entry_of c.gather_range-2.new.gathered.entries.items) c.args.tx.now.conn.now c.gather_range.new.tx.conn.now c.gather_range-2.new.tx.conn.now tt (Ok tt)
    (first_from g.S.Store c.args.db.now (map declared c.args.declarations.now) due (map entry_of c.new-gathered.result.entries.items) (ap (map entry_of) c.new-gathered.ensures) c.args.tx.now.conn.now c.gather_range.new.tx.conn.now (map entry_of c.gather_range.new.gathered.entries.items) (Ok tt) (c.in_ok-gather_range.ensures.gathers is_behind due))
    (c.in_ok-gather_range-2.ensures.gathers (λ id. false) due))
    (let p = c.in_ok-put_gathered.ensures.puts due in
    let gone : map entry_of c.put_gathered.new.gathered.entries.items ≡ [] = ap (map entry_of) c.in_ok-put_gathered.ensures.forgets in
    record {
      ok = λ clean fit. subst (λ l. HasEntriesBeside due l (state g.S.Store c.gather_range-2.new.tx.conn.now).now (state g.S.Store c.put_gathered.new.tx.conn.now).now) gone (p.ok clean fit);
      keeps = p.keeps;
      kept = p.kept;
      goes_on = p.goes_on;
      asks = p.asks;
    })

pub returns-in_err-gather_range-clause-err : goal.returns-in_err-gather_range-clause-err
returns-in_err-gather_range-clause-err g c due =
    first_refused g.S.Store c.args.db.now (map declared c.args.declarations.now) due (map entry_of c.new-gathered.result.entries.items) (ap (map entry_of) c.new-gathered.ensures) c.args.tx.now.conn.now c.gather_range.new.tx.conn.now
    c.in_err-gather_range.field-0.0 c.from_residual.result (search rules) (c.in_err-gather_range.ensures.err is_behind due)

pub returns-in_err-gather_range-2-clause-err : goal.returns-in_err-gather_range-2-clause-err
returns-in_err-gather_range-2-clause-err g c due =
    let why = c.in_err-gather_range-2.field-0.0 in
    refused_as (AreFit g.S.Store (AreBare c.args.db.now (map declared c.args.declarations.now) due) c.args.tx.now.conn.now c.gather_range-2.new.tx.conn.now) c.from_residual-in_err-gather_range-2.result why (search rules)
    (refused_then g.S.Store {E = IndexFault} (AreBare c.args.db.now (map declared c.args.declarations.now) due) (IsToGatherRange c.args.db.now (map declared c.args.declarations.now) (codes "_e") (255 ∷ []) (λ id. false) (map entry_of c.gather_range.new.gathered.entries.items) due) (HasEntriesBeside (without_documents due (numbers_of (map declared c.args.declarations.now)) is_behind) (map entry_of c.gather_range.new.gathered.entries.items)) c.args.tx.now.conn.now c.gather_range.new.tx.conn.now c.gather_range-2.new.tx.conn.now tt why
    (first_from g.S.Store c.args.db.now (map declared c.args.declarations.now) due (map entry_of c.new-gathered.result.entries.items) (ap (map entry_of) c.new-gathered.ensures) c.args.tx.now.conn.now c.gather_range.new.tx.conn.now (map entry_of c.gather_range.new.gathered.entries.items) (Ok tt) (c.in_ok-gather_range.ensures.gathers is_behind due))
    (c.in_err-gather_range-2.ensures.gathers (λ id. false) due).asks
    (λ was fit made. second_range c.args.db.now (map declared c.args.declarations.now) due (state g.S.Store c.args.tx.now.conn.now).now fit (map entry_of c.gather_range.new.gathered.entries.items) (state g.S.Store c.gather_range.new.tx.conn.now).now made) (c.in_err-gather_range-2.ensures.err (λ id. false) due))
