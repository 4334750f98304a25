use Rattle.std.proofs.Common.{Err, IfOk, Ok, OnOk, ap, inr, rules, subst, sym, ◌∙◌, ◌≡◌}
use Rattle.sqlite.specs.Held.{state}
use Rattle.file_check.specs.Checks.{FailsOnly, IsSame}
use Rattle.file_check.proofs.Stores.{IsStoreChecked}
use Rattle.file_check.proofs.Verdicts.{committed_store, index_named, index_refuted, resting, rows_counted, same_all, same_indexes}
use Rattle.file_check.proofs.file.check.Goals as goal

pub returns-in-Some-2-clause-unsound : goal.returns-in-Some-2-clause-unsound
returns-in-Some-2-clause-unsound g c = λ clean.
    index_refuted g.S.Store c.args.conn.now c.check_tables.new.conn c.check_indexes.new.conn c.check_tables.result c.check_indexes.result _ c.in-Some-2.finding
    (c.in_ok-finding.was ∙ ap Ok c.in_default.is) (c.in_ok-finding-2.was ∙ ap Ok c.in-Some-2.is) clean c.check_tables.ensures.served c.check_tables.ensures.goes c.check_indexes.ensures

pub returns-in-Some-2-clause-names : goal.returns-in-Some-2-clause-names
returns-in-Some-2-clause-names g c = λ clean has kept.
    inr (index_named g.S.Store c.args.conn.now c.check_tables.new.conn c.check_indexes.new.conn c.check_tables.result c.check_indexes.result _ c.in-Some-2.finding
    (c.in_ok-finding.was ∙ ap Ok c.in_default.is) (c.in_ok-finding-2.was ∙ ap Ok c.in-Some-2.is) clean c.check_tables.ensures.served c.check_tables.ensures.goes c.check_indexes.ensures has kept c.check_tables.ensures.live
    (λ found is clean. subst (λ r. IfOk r (IsStoreChecked (state g.S.Store c.args.conn.now).now)) is (c.check_tables.ensures.sound clean has kept.tables)))

pub returns-clause-sound : goal.returns-clause-sound
returns-clause-sound g c clean kept =
    committed_store g.S.Store c.args.conn.now c.check_tables.new.conn c.check_tables.result (c.in_ok-finding.was ∙ ap Ok c.in_default.is) kept c.check_tables.ensures.live c.check_tables.ensures.ours
    (λ clean has. c.check_tables.ensures.sound clean has kept.tables) c.check_tables.ensures.served c.check_tables.ensures.stays
    c.check_indexes.new.conn c.check_indexes.result c.check_indexes.ensures c.count_rows.new.conn (c.in_ok-finding-2.was ∙ ap Ok c.in_default-2.is) c.in_ok-counts.counts c.in_ok-counts.ensures clean

pub returns-clause-counts : goal.returns-clause-counts
returns-clause-counts g c clean kept =
    rows_counted g.S.Store c.args.conn.now c.check_tables.new.conn c.check_tables.result (c.in_ok-finding.was ∙ ap Ok c.in_default.is) kept c.check_tables.ensures.live c.check_tables.ensures.ours
    (λ clean has. c.check_tables.ensures.sound clean has kept.tables) c.check_tables.ensures.served c.check_tables.ensures.stays
    c.check_indexes.new.conn c.check_indexes.result c.check_indexes.ensures c.count_rows.new.conn (c.in_ok-finding-2.was ∙ ap Ok c.in_default-2.is) c.in_ok-counts.counts c.in_ok-counts.ensures clean

pub returns-clause-stays : goal.returns-clause-stays
returns-clause-stays g c clean kept =
    same_all g.S.Store c.args.conn.now c.check_tables.new.conn c.check_tables.result (c.in_ok-finding.was ∙ ap Ok c.in_default.is) kept c.check_tables.ensures.live c.check_tables.ensures.ours
    (λ clean has. c.check_tables.ensures.sound clean has kept.tables) c.check_tables.ensures.served c.check_tables.ensures.stays
    c.check_indexes.new.conn c.check_indexes.result c.check_indexes.ensures c.count_rows.new.conn (c.in_ok-finding-2.was ∙ ap Ok c.in_default-2.is) c.in_ok-counts.counts c.in_ok-counts.ensures clean

pub returns-in-Some-2-clause-stays : goal.returns-in-Some-2-clause-stays
returns-in-Some-2-clause-stays g c clean kept =
    subst (λ r. OnOk r (IsSame (state g.S.Store c.args.conn.now) (state g.S.Store c.check_indexes.new.conn))) (c.in_ok-finding-2.was ∙ ap Ok c.in-Some-2.is)
    (same_indexes g.S.Store c.args.conn.now c.check_tables.new.conn c.check_tables.result (c.in_ok-finding.was ∙ ap Ok c.in_default.is) kept c.check_tables.ensures.live c.check_tables.ensures.ours
    (λ clean has. c.check_tables.ensures.sound clean has kept.tables) c.check_tables.ensures.served c.check_tables.ensures.stays c.check_indexes.new.conn c.check_indexes.result c.check_indexes.ensures clean)

pub returns-in_err-finding-clause-failed : goal.returns-in_err-finding-clause-failed
returns-in_err-finding-clause-failed g c = λ kept none.
    let is : c.from_residual.result ≡ Err c.in_err-finding.field-0.0 = search rules in
    subst (FailsOnly g.S.Store c.args.conn.now c.check_tables.new.conn) (sym is) c.in_err-finding.ensures.goes.accounts.failed

pub returns-in_err-finding-2-clause-failed : goal.returns-in_err-finding-2-clause-failed
returns-in_err-finding-2-clause-failed g c = λ kept none has clean.
    absurd (none (resting g.S.Store c.args.conn.now c.check_tables.new.conn c.check_tables.result (c.in_ok-finding.was ∙ ap Ok c.in_default.is) kept c.check_tables.ensures.live c.check_tables.ensures.ours
    (λ clean has. c.check_tables.ensures.sound clean has kept.tables) c.check_tables.ensures.served c.check_tables.ensures.stays (c.in_err-finding-2.ensures.asks.clean clean)))

pub returns-in_err-counts-clause-failed : goal.returns-in_err-counts-clause-failed
returns-in_err-counts-clause-failed g c = λ kept none has clean.
    absurd (none (resting g.S.Store c.args.conn.now c.check_tables.new.conn c.check_tables.result (c.in_ok-finding.was ∙ ap Ok c.in_default.is) kept c.check_tables.ensures.live c.check_tables.ensures.ours
    (λ clean has. c.check_tables.ensures.sound clean has kept.tables) c.check_tables.ensures.served c.check_tables.ensures.stays (c.check_indexes.ensures.asks.clean (c.in_err-counts.ensures.asks.clean clean))))
