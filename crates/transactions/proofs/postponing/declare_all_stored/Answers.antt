use Rattle.transactions.proofs.Lemmas.{map, refl, rules, subst, ◌∙◌}
use Rattle.transactions.proofs.Common.{CommitFault, Ok}
use Rattle.index.specs.Shown.{declared}
use Rattle.index.specs.Steps.{Steps}
use Rattle.transactions.proofs.DesignTurns.{declaring_begins, declaring_one_stopped, one_more_declared, still_within, within_all}
use Rattle.transactions.specs.inner.Postponing.{AreDeclaredAsStored, AreToDeclare}
use Rattle.transactions.proofs.postponing.declare_all_stored.Goals as goal

pub loop-id-init : goal.loop-id-init
loop-id-init g c =
    let start = c.into_iter-id-iterator.ensures.into_iter_gives.0 in
    record {
      same = refl;
      within = within_all g.S.Store c.args.db.now c.args.designs.now.keys c.into_iter-id-iterator.result start c.args.tx.now.conn.now;
      so_far = declaring_begins g.S.Store c.args.db.now c.args.designs.now.keys c.into_iter-id-iterator.result start c.args.tx.now.conn.now (map declared c.args.fresh.now.items);
    }

pub loop-id-preserved : goal.loop-id-preserved
loop-id-preserved g c =
    let inv = c.loop-id.invariant in
    record {
      same = c.in_ok-declare_stored.ensures.same_reference ∙ inv.same;
      within = still_within g.S.Store c.args.db.now c.args.designs.now.keys c.loop-id.id-iterator c.in-Some.id.now c.next.new.self c.in-Some.ensures.steps inv.within c.args.tx.now.conn.now c.loop-id.tx.conn.now c.declare_stored.new.tx.conn.now;
      so_far = λ sees.
          one_more_declared g.S.Store c.args.db.now c.args.designs.now.keys c.loop-id.id-iterator c.in-Some.id.now c.next.new.self c.in-Some.ensures.steps inv.within c.args.tx.now.conn.now c.loop-id.tx.conn.now c.declare_stored.new.tx.conn.now
          (map declared c.args.fresh.now.items) (map declared c.loop-id.fresh.items) inv.so_far (map declared c.declare_stored.new.fresh.items) sees c.in_ok-declare_stored.ensures.declares;
    }

pub returns-in_err-declare_stored-clause-declares : goal.returns-in_err-declare_stored-clause-declares
returns-in_err-declare_stored-clause-declares g c sees =
    let inv = c.loop-id.invariant in
    declaring_one_stopped g.S.Store c.args.db.now c.args.designs.now.keys c.loop-id.id-iterator c.in-Some.id.now c.next.new.self c.in-Some.ensures.steps inv.within c.args.tx.now.conn.now c.loop-id.tx.conn.now c.declare_stored.new.tx.conn.now
    (map declared c.args.fresh.now.items) (map declared c.loop-id.fresh.items) inv.so_far (map declared c.declare_stored.new.fresh.items) sees c.in_err-declare_stored.field-0.0 c.from_residual.result (search rules)
    c.in_err-declare_stored.ensures.declares

pub returns-clause-declares : goal.returns-clause-declares
returns-clause-declares g c sees =
    let all =
    subst (λ l. Steps {X = Unit {0}} {E = CommitFault} g.S.Store (AreToDeclare sees c.args.db.now c.args.designs.now.keys (map declared c.args.fresh.now.items))
    (AreDeclaredAsStored sees c.args.db.now c.args.designs.now.keys l (map declared c.loop-id.fresh.items)) c.args.tx.now.conn.now c.loop-id.tx.conn.now (Ok tt)) c.in-None.ensures.steps.0 (c.loop-id.invariant.so_far sees) in
    record { steps = all; err = tt }
