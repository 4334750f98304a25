use Rattle.transactions.proofs.Lemmas.{ap, map, rules}
use Rattle.transactions.proofs.CatchingUp.{all_followed, clearing_stopped, declaring_stopped, filling_stopped}
use Rattle.index.specs.Shown.{declared}
use Rattle.transactions.proofs.postponing.redeclare_postponed.Goals as goal

pub returns-in_err-clear_all_stored-clause-makes : goal.returns-in_err-clear_all_stored-clause-makes
returns-in_err-clear_all_stored-clause-makes g c =
    clearing_stopped g.S.Store c.args.db.now c.args.postponed.now.keys c.args.tx.now.conn.now c.clear_all_stored.new.tx.conn.now c.in_err-clear_all_stored.field-0.0 c.from_residual.result (search rules)
    c.in_err-clear_all_stored.ensures.clears

pub returns-in_err-declare_all_stored-clause-makes : goal.returns-in_err-declare_all_stored-clause-makes
returns-in_err-declare_all_stored-clause-makes g c =
    declaring_stopped g.S.Store c.args.db.now c.args.postponed.now.keys c.args.tx.now.conn.now c.clear_all_stored.new.tx.conn.now c.in_ok-clear_all_stored.ensures.clears
    c.declare_all_stored.new.tx.conn.now (map declared c.new-fresh.result.items) (map declared c.declare_all_stored.new.fresh.items) (search rules) c.in_err-declare_all_stored.field-0.0
    c.from_residual-in_err-declare_all_stored.result (search rules) c.in_err-declare_all_stored.ensures.declares

pub returns-in_err-fill_indexes-clause-makes : goal.returns-in_err-fill_indexes-clause-makes
returns-in_err-fill_indexes-clause-makes g c =
    filling_stopped g.S.Store c.args.db.now c.args.postponed.now.keys c.args.tx.now.conn.now c.clear_all_stored.new.tx.conn.now c.in_ok-clear_all_stored.ensures.clears
    c.declare_all_stored.new.tx.conn.now (map declared c.new-fresh.result.items) (map declared c.declare_all_stored.new.fresh.items) (search rules) c.in_ok-declare_all_stored.ensures.declares
    c.fill_indexes.new.tx.conn.now (map declared c.deref.result.now) (ap (map declared) c.deref.ensures.value) c.in_err-fill_indexes.field-0.0 c.from_residual-in_err-fill_indexes.result (search rules)
    c.in_err-fill_indexes.ensures.fills c.in_err-fill_indexes.ensures.err

pub returns-clause-makes : goal.returns-clause-makes
returns-clause-makes g c =
    all_followed g.S.Store c.args.db.now c.args.postponed.now.keys c.args.tx.now.conn.now c.clear_all_stored.new.tx.conn.now c.in_ok-clear_all_stored.ensures.clears
    c.declare_all_stored.new.tx.conn.now (map declared c.new-fresh.result.items) (map declared c.declare_all_stored.new.fresh.items) (search rules) c.in_ok-declare_all_stored.ensures.declares
    c.fill_indexes.new.tx.conn.now (map declared c.deref.result.now) (ap (map declared) c.deref.ensures.value) c.in_ok-fill_indexes.ensures.fills
