use Rattle.index.proofs.Common.{Err, IndexFault, List, Ok, ap, declared, entries_tree, map, refl, rules, state, subst, sym, ⊤, ◌||◌, ◌∙◌, ◌≡◌, ℕ}
use Rattle.index.proofs.GatherSteps.{next_gathered, part_failed, part_refused, range_ended}
use Rattle.index.proofs.Going.{only_itself}
use Rattle.index.proofs.Refusals.{refused_as}
use Rattle.index.proofs.ShownDeclarations.{refused_of}
use Rattle.index.proofs.StepLemmas.{steps_none, steps_stop}
use Rattle.index.proofs.ToGather.{bound_read, next_inside}
use Rattle.index.specs.Filling.{numbers_of}
use Rattle.index.specs.inner.Gathering.{HasEntriesBeside, IsToGatherRange, entry_of, without_documents}
use Rattle.index.specs.inner.Seen.{IsCut}
use Rattle.index.specs.Steps.{AreFit, Steps}
use Rattle.tables.specs.Listings.{is_between}
use Rattle.index.proofs.filling.gather_range.Goals as goal

pub loop-part-init : goal.loop-part-init
loop-part-init g c =
    let low = c.args.low.now in
    let high = c.args.high.now in
    let from : List ℕ = c.in_ok-from.from.items in
    let is : from ≡ low = c.in_ok-from.ensures.items in
    let xs = map declared c.args.declarations.now in
    let before = map entry_of c.args.gathered.now.entries.items in
    let tx = c.args.tx.now.conn.now in
    record {
      same = refl;
      inside = λ id within. sym (ap (λ f. is_between f high id) is) ∙ within;
      so_far = λ left due.
          subst (λ f. Steps {X = Unit {0}} {E = IndexFault} g.S.Store (IsToGatherRange c.args.db.now xs low high left before due) (HasEntriesBeside (without_documents due (numbers_of xs) (λ id. is_between f high id || left id)) before) tx tx (Ok tt)) (sym is)
          (steps_none g.S.Store (IsToGatherRange c.args.db.now xs low high left before due) (HasEntriesBeside (without_documents due (numbers_of xs) (λ id. is_between low high id || left id)) before) tx (Ok tt)
          (λ fit. record { entries = fit.entries; only = only_itself entries_tree (state g.S.Store tx).now }) tt);
    }

pub loop-part-preserved : goal.loop-part-preserved
loop-part-preserved g c =
    let inv = c.loop-part.invariant in
    let found = c.in_ok-bound.ensures in
    record {
      same = c.in_ok-gather_part.ensures.same_reference ∙ found.same_reference ∙ inv.same;
      inside = next_inside c.args.low.now c.args.high.now c.loop-part.from.items c.in_ok-bound.bound.items inv.inside (subst (λ f. IsCut f c.args.high.now c.in_ok-bound.bound.items) c.deref.ensures.value found.within);
      so_far = λ left due.
          next_gathered g.S.Store c.args.db.now (map declared c.args.declarations.now) c.args.low.now c.args.high.now c.loop-part.from.items c.in_ok-bound.bound.items left (map entry_of c.args.gathered.now.entries.items) (map entry_of c.loop-part.gathered.entries.items) (map entry_of c.gather_part.new.gathered.entries.items) due
          c.args.tx.now.conn.now c.find_bound.new.tx.conn.now c.gather_part.new.tx.conn.now c.in_ok-bound.bound inv.inside (subst (λ f. IsCut f c.args.high.now c.in_ok-bound.bound.items) c.deref.ensures.value found.within)
          (bound_read g.S.Store c.args.db.now (map declared c.args.declarations.now) c.args.low.now c.args.high.now c.loop-part.from.items c.in_ok-bound.bound.items left (map entry_of c.args.gathered.now.entries.items) (map entry_of c.loop-part.gathered.entries.items) due c.args.tx.now.conn.now c.loop-part.tx.conn.now c.find_bound.new.tx.conn.now {E = IndexFault} {D = IndexFault} tt (Ok c.in_ok-bound.bound) (inv.so_far left due) found.stands found.looks found.asks)
          c.deref-in-loop-part.result.now c.deref-in-loop-part.ensures.value c.deref-in-loop-part-2.result.now c.deref-in-loop-part-2.ensures.value
          (Ok tt) (c.in_ok-gather_part.ensures.gathers (λ id. is_between c.in_ok-bound.bound.items c.args.high.now id || left id) due);
    }

pub returns-in_err-bound-clause-gathers : goal.returns-in_err-bound-clause-gathers
returns-in_err-bound-clause-gathers g c left due =
    let inv = c.loop-part.invariant in
    let first = c.args.tx.now.conn.now in
    let second = c.loop-part.tx.conn.now in
    let third = c.find_bound.new.tx.conn.now in
    let xs = map declared c.args.declarations.now in
    let db = c.args.db.now in
    let low = c.args.low.now in
    let high = c.args.high.now in
    let before = map entry_of c.args.gathered.now.entries.items in
    let now = map entry_of c.loop-part.gathered.entries.items in
    let from : List ℕ = c.loop-part.from.items in
    let found = c.in_err-bound.ensures in
    let why = c.in_err-bound.field-0.0 in
    let is : c.from_residual-in_err-bound.result ≡ Err why = search rules in
    steps_stop g.S.Store {X = List ℕ} (IsToGatherRange db xs low high left before due) (HasEntriesBeside (without_documents due (numbers_of xs) (λ id. is_between from high id || left id)) now) (HasEntriesBeside (without_documents due (numbers_of xs) left) now) first third why why c.from_residual-in_err-bound.result is
    (bound_read g.S.Store db xs low high from from left before now due first second third {E = IndexFault} {D = IndexFault} tt (Err why) (inv.so_far left due) found.stands found.looks found.asks)

pub returns-in_err-bound-clause-err : goal.returns-in_err-bound-clause-err
returns-in_err-bound-clause-err g c left due =
    let xs = map declared c.args.declarations.now in
    let before = map entry_of c.args.gathered.now.entries.items in
    let why = c.in_err-bound.field-0.0 in
    let is : c.from_residual-in_err-bound.result ≡ Err why = search rules in
    let P = AreFit g.S.Store (IsToGatherRange c.args.db.now xs c.args.low.now c.args.high.now left before due) c.args.tx.now.conn.now c.find_bound.new.tx.conn.now in
    refused_as P c.from_residual-in_err-bound.result why is (refused_of ⊤ P why (λ it. tt) c.in_err-bound.ensures.err)

pub returns-in_err-gather_part-clause-gathers : goal.returns-in_err-gather_part-clause-gathers
returns-in_err-gather_part-clause-gathers g c left due =
    let found = c.in_ok-bound.ensures in
    part_failed g.S.Store c.args.db.now (map declared c.args.declarations.now) c.args.low.now c.args.high.now c.loop-part.from.items c.in_ok-bound.bound.items left (map entry_of c.args.gathered.now.entries.items) (map entry_of c.loop-part.gathered.entries.items) (map entry_of c.gather_part.new.gathered.entries.items) due
    c.args.tx.now.conn.now c.find_bound.new.tx.conn.now c.gather_part.new.tx.conn.now c.in_ok-bound.bound c.loop-part.invariant.inside (subst (λ f. IsCut f c.args.high.now c.in_ok-bound.bound.items) c.deref.ensures.value found.within)
    (bound_read g.S.Store c.args.db.now (map declared c.args.declarations.now) c.args.low.now c.args.high.now c.loop-part.from.items c.in_ok-bound.bound.items left (map entry_of c.args.gathered.now.entries.items) (map entry_of c.loop-part.gathered.entries.items) due c.args.tx.now.conn.now c.loop-part.tx.conn.now c.find_bound.new.tx.conn.now {E = IndexFault} {D = IndexFault} tt (Ok c.in_ok-bound.bound) (c.loop-part.invariant.so_far left due) found.stands found.looks found.asks)
    c.deref-in-loop-part.result.now c.deref-in-loop-part.ensures.value c.deref-in-loop-part-2.result.now c.deref-in-loop-part-2.ensures.value
    c.in_err-gather_part.field-0.0 c.from_residual-in_err-gather_part.result (search rules) (c.in_err-gather_part.ensures.gathers (λ id. is_between c.in_ok-bound.bound.items c.args.high.now id || left id) due)

pub returns-in_err-gather_part-clause-err : goal.returns-in_err-gather_part-clause-err
returns-in_err-gather_part-clause-err g c left due =
    let found = c.in_ok-bound.ensures in
    let rest = λ (id : List ℕ). is_between c.in_ok-bound.bound.items c.args.high.now id || left id in
    part_refused g.S.Store c.args.db.now (map declared c.args.declarations.now) c.args.low.now c.args.high.now c.loop-part.from.items c.in_ok-bound.bound.items left (map entry_of c.args.gathered.now.entries.items) (map entry_of c.loop-part.gathered.entries.items) (map entry_of c.gather_part.new.gathered.entries.items) due
    c.args.tx.now.conn.now c.find_bound.new.tx.conn.now c.gather_part.new.tx.conn.now c.in_ok-bound.bound c.loop-part.invariant.inside (subst (λ f. IsCut f c.args.high.now c.in_ok-bound.bound.items) c.deref.ensures.value found.within)
    (bound_read g.S.Store c.args.db.now (map declared c.args.declarations.now) c.args.low.now c.args.high.now c.loop-part.from.items c.in_ok-bound.bound.items left (map entry_of c.args.gathered.now.entries.items) (map entry_of c.loop-part.gathered.entries.items) due c.args.tx.now.conn.now c.loop-part.tx.conn.now c.find_bound.new.tx.conn.now {E = IndexFault} {D = IndexFault} tt (Ok c.in_ok-bound.bound) (c.loop-part.invariant.so_far left due) found.stands found.looks found.asks)
    c.deref-in-loop-part.result.now c.deref-in-loop-part.ensures.value c.deref-in-loop-part-2.result.now c.deref-in-loop-part-2.ensures.value
    c.in_err-gather_part.field-0.0 c.from_residual-in_err-gather_part.result (search rules) (c.in_err-gather_part.ensures.gathers rest due).asks (c.in_err-gather_part.ensures.err rest due)

pub returns-then-eq-clause-gathers : goal.returns-then-eq-clause-gathers
returns-then-eq-clause-gathers g c left due =
    let found = c.in_ok-bound.ensures in
    range_ended g.S.Store c.args.db.now (map declared c.args.declarations.now) c.args.low.now c.args.high.now c.loop-part.from.items c.in_ok-bound.bound.items left (map entry_of c.args.gathered.now.entries.items) (map entry_of c.loop-part.gathered.entries.items) (map entry_of c.gather_part.new.gathered.entries.items) due
    c.args.tx.now.conn.now c.find_bound.new.tx.conn.now c.gather_part.new.tx.conn.now c.in_ok-bound.bound c.loop-part.invariant.inside (subst (λ f. IsCut f c.args.high.now c.in_ok-bound.bound.items) c.deref.ensures.value found.within)
    (bound_read g.S.Store c.args.db.now (map declared c.args.declarations.now) c.args.low.now c.args.high.now c.loop-part.from.items c.in_ok-bound.bound.items left (map entry_of c.args.gathered.now.entries.items) (map entry_of c.loop-part.gathered.entries.items) due c.args.tx.now.conn.now c.loop-part.tx.conn.now c.find_bound.new.tx.conn.now {E = IndexFault} {D = IndexFault} tt (Ok c.in_ok-bound.bound) (c.loop-part.invariant.so_far left due) found.stands found.looks found.asks)
    c.deref-in-loop-part.result.now c.deref-in-loop-part.ensures.value c.deref-in-loop-part-2.result.now c.deref-in-loop-part-2.ensures.value
    (search rules) (c.in_ok-gather_part.ensures.gathers (λ id. is_between c.in_ok-bound.bound.items c.args.high.now id || left id) due)

pub returns-clause-gathers : goal.returns-clause-gathers
returns-clause-gathers g c left due =
    let p = c.loop-part.invariant.so_far left due in
    record { ok = λ clean fit. tt; keeps = λ clean has. tt; kept = p.kept; goes_on = λ clean has up within. tt; asks = p.asks }
