use Rattle.transactions.proofs.Lemmas.{refl, rules, subst, ◌∙◌}
use Rattle.transactions.proofs.Common.{CommitFault, Ok}
use Rattle.index.specs.Declaring.{IsRebuildable}
use Rattle.index.specs.Steps.{Steps}
use Rattle.transactions.proofs.DesignTurns.{clearing_begins, clearing_one_stopped, one_more_cleared, still_within, within_all}
use Rattle.transactions.specs.inner.Postponing.{AreClearedAsStored}
use Rattle.transactions.proofs.postponing.clear_all_stored.Goals as goal

pub loop-id-init : goal.loop-id-init
loop-id-init g c =
    let start = c.into_iter-id-iterator.ensures.into_iter_gives.0 in
    record {
      same = refl;
      within = within_all g.S.Store c.args.db.now c.args.designs.now.keys c.into_iter-id-iterator.result start c.args.tx.now.conn.now;
      so_far = clearing_begins g.S.Store c.args.db.now c.args.designs.now.keys c.into_iter-id-iterator.result start c.args.tx.now.conn.now;
    }

pub loop-id-preserved : goal.loop-id-preserved
loop-id-preserved g c =
    let inv = c.loop-id.invariant in
    record {
      same = c.in_ok-clear_stored.ensures.same_reference ∙ inv.same;
      within = still_within g.S.Store c.args.db.now c.args.designs.now.keys c.loop-id.id-iterator c.in-Some.id.now c.next.new.self c.in-Some.ensures.steps inv.within c.args.tx.now.conn.now c.loop-id.tx.conn.now c.clear_stored.new.tx.conn.now;
      so_far = λ declares sees.
          one_more_cleared g.S.Store c.args.db.now c.args.designs.now.keys c.loop-id.id-iterator c.in-Some.id.now c.next.new.self c.in-Some.ensures.steps inv.within c.args.tx.now.conn.now c.loop-id.tx.conn.now c.clear_stored.new.tx.conn.now
          inv.so_far declares sees c.in_ok-clear_stored.ensures.clears;
    }

pub returns-in_err-clear_stored-clause-clears : goal.returns-in_err-clear_stored-clause-clears
returns-in_err-clear_stored-clause-clears g c declares sees =
    let inv = c.loop-id.invariant in
    clearing_one_stopped g.S.Store c.args.db.now c.args.designs.now.keys c.loop-id.id-iterator c.in-Some.id.now c.next.new.self c.in-Some.ensures.steps inv.within c.args.tx.now.conn.now c.loop-id.tx.conn.now c.clear_stored.new.tx.conn.now
    inv.so_far declares sees c.in_err-clear_stored.field-0.0 c.from_residual.result (search rules) c.in_err-clear_stored.ensures.clears

pub returns-clause-clears : goal.returns-clause-clears
returns-clause-clears g c declares sees =
    let all =
    subst (λ l. Steps {X = Unit {0}} {E = CommitFault} g.S.Store (IsRebuildable declares sees c.args.db.now) (AreClearedAsStored declares sees c.args.db.now c.args.designs.now.keys l) c.args.tx.now.conn.now c.loop-id.tx.conn.now (Ok tt))
    c.in-None.ensures.steps.0 (c.loop-id.invariant.so_far declares sees) in
    record { steps = all; err = tt }
