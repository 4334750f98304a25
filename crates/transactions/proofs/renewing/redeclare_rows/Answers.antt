use Rattle.transactions.proofs.Lemmas.{ap, arith, refl, rules, state, subst, ◌+◌, ◌∙◌, ◌≡◌}
use Rattle.transactions.proofs.Common.{Err, Ok, [], drop, get_or, length, length-map}
use Rattle.std.proofs.Common.{◌≤◌}
use Rattle.std.proofs.lemmas.List.{drop_all}
use Rattle.transactions.proofs.Redeclared.{next_done, next_row, none_redeclared, unwritten_as, unwritten_then}
use Rattle.transactions.specs.Renewing.{AreRedeclared, AreToRedeclare, IsToRedeclare}
use Rattle.index.proofs.StepLemmas.{steps_failed, steps_none, steps_so, steps_then}
use Rattle.index.specs.Steps.{AreFit}
use Rattle.tables.specs.Listings.{named_document}
use Rattle.transactions.proofs.renewing.redeclare_rows.Goals as goal

pub loop-row-init : goal.loop-row-init
loop-row-init g c = record {
  same = refl;
  so_far = λ docs.
      let a = c.args.tx.now.conn.now in
      steps_none g.S.Store (AreToRedeclare c.args.rows.now docs) (AreRedeclared docs) a (Ok tt) (λ fit. none_redeclared c.args.rows.now docs (state g.S.Store a).now fit) tt;
}

pub loop-row-preserved : goal.loop-row-preserved
loop-row-preserved g c =
    let inv = c.loop-row.invariant in
    let a = (state g.S.Store c.args.tx.now.conn.now).now in
    let b = (state g.S.Store c.loop-row.tx.conn.now).now in
    let e = (state g.S.Store c.redeclare_row.new.tx.conn.now).now in
    let rows = c.args.rows.now in
    let i = c.loop-row.row-index in
    let s = c.row-item.result in
    record {
      same = c.in_ok-redeclare_row.ensures.same_reference ∙ inv.same;
      so_far = λ docs.
          let d = get_or docs i [] in
          let left = drop (i + 1) docs in
          steps_then g.S.Store (AreToRedeclare rows docs) (IsToRedeclare s d left) (AreRedeclared (drop i docs)) (AreRedeclared left) (AreRedeclared left) c.args.tx.now.conn.now c.loop-row.tx.conn.now c.redeclare_row.new.tx.conn.now tt (Ok tt)
          (inv.so_far docs) (c.in_ok-redeclare_row.ensures.makes d left).steps
          (λ was fit made. next_row rows docs i s c.loop-row-test.true c.row-item.is a b fit made)
          (λ was fit made got. next_done rows docs i s c.loop-row-test.true c.row-item.is a b fit made e got);
    }

pub returns-in_err-redeclare_row-clause-makes : goal.returns-in_err-redeclare_row-clause-makes
returns-in_err-redeclare_row-clause-makes g c docs =
    let inv = c.loop-row.invariant in
    let first = c.args.tx.now.conn.now in
    let between = c.loop-row.tx.conn.now in
    let last = c.redeclare_row.new.tx.conn.now in
    let a = (state g.S.Store first).now in
    let b = (state g.S.Store between).now in
    let rows = c.args.rows.now in
    let i = c.loop-row.row-index in
    let s = c.row-item.result in
    let d = get_or docs i [] in
    let left = drop (i + 1) docs in
    let fault = c.in_err-redeclare_row.field-0.0 in
    let makes = c.in_err-redeclare_row.ensures.makes d left in
    let is : c.from_residual.result ≡ Err fault = search rules in
    record {
      steps = steps_failed g.S.Store {X = Unit {0}} (AreToRedeclare rows docs) (IsToRedeclare s d left) (AreRedeclared (drop i docs)) (AreRedeclared left) (AreRedeclared []) first between last tt fault fault c.from_residual.result is
          (inv.so_far docs) makes.steps (λ was fit made. next_row rows docs i s c.loop-row-test.true c.row-item.is a b fit made);
      err = unwritten_as (AreFit g.S.Store (AreToRedeclare rows docs) first last) c.from_residual.result fault is
          (unwritten_then g.S.Store (AreToRedeclare rows docs) (IsToRedeclare s d left) (AreRedeclared (drop i docs)) first between last tt fault (inv.so_far docs) makes.steps.asks
          (λ was fit made. next_row rows docs i s c.loop-row-test.true c.row-item.is a b fit made) makes.err);
    }

pub returns-clause-makes : goal.returns-clause-makes
returns-clause-makes g c docs =
    let a = (state g.S.Store c.args.tx.now.conn.now).now in
    let b = (state g.S.Store c.loop-row.tx.conn.now).now in
    let rows = c.args.rows.now in
    let i = c.loop-row.row-index in
    let none : length rows ≤ i = omega (arith, c.loop-row-test.false) in
    record {
      steps = steps_so g.S.Store (AreToRedeclare rows docs) (AreRedeclared (drop i docs)) (AreRedeclared []) c.args.tx.now.conn.now c.loop-row.tx.conn.now (Ok tt) (c.loop-row.invariant.so_far docs)
          (λ fit made.
          let size : length rows ≡ length docs = ap length fit.shown_is ∙ length-map docs named_document in
          let end : length docs ≤ i = omega (arith, none, size) in
          subst (λ l. AreRedeclared l a b) (drop_all i docs end) made);
      err = tt;
    }
