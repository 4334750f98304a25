use Rattle.transactions.proofs.Lemmas.{Err, HasCleanDisk, arith, rules, state, ◌≡◌}
use Rattle.transactions.proofs.Common.{Error, Ok, []}
use Rattle.transactions.proofs.Redeclared.{carried, renewed_bare, steps_renewed}
use Rattle.transactions.proofs.Committing.{unwritten_of}
use Rattle.transactions.specs.Renewing.{AreRedeclared, HasNoIndexes, IsCarriedOver}
use Rattle.transactions.specs.declared.commit_fault.CommitFault.TheVariants as fault
use Rattle.index.proofs.Going.{if_err}
use Rattle.index.proofs.StepLemmas.{steps_stop, steps_then}
use Rattle.index.specs.Steps.{AreFit, WasFit}
use Rattle.tables.specs.Layout.{IsFirstStore, IsRenewed}
use Rattle.transactions.proofs.renewing.renew.Goals as goal

pub returns-in_err-renew_tables-clause-steps : goal.returns-in_err-renew_tables-clause-steps
returns-in_err-renew_tables-clause-steps g c =
    let first = c.args.tx.now.conn.now in
    let between = c.renew_tables.new.tx.conn.now in
    let e = c.in_err-renew_tables.field-0.0 in
    let h = c.in_err-renew_tables.ensures in
    let is : c.from_residual.result ≡ Err (fault.Sqlite e) = search rules in
    steps_stop g.S.Store {X = Unit {0}} IsFirstStore IsRenewed IsCarriedOver first between e (fault.Sqlite e) c.from_residual.result is (steps_renewed g.S.Store first between (Err e) h.ok h.keeps h.inside h.proceeds)

pub returns-clause-steps : goal.returns-clause-steps
returns-clause-steps g c =
    let first = c.args.tx.now.conn.now in
    let between = c.renew_tables.new.tx.conn.now in
    let last = c.redeclare_all.new.tx.conn.now in
    let h = c.in_ok-renew_tables.ensures in
    steps_then g.S.Store {E = Error} IsFirstStore HasNoIndexes IsRenewed (AreRedeclared []) IsCarriedOver first between last c.in_ok-renew_tables.field-0 c.redeclare_all.result
    (steps_renewed g.S.Store first between (Ok c.in_ok-renew_tables.field-0) h.ok h.keeps h.inside h.proceeds) c.redeclare_all.ensures.makes.steps
    (λ was fit made. renewed_bare (state g.S.Store first).now (state g.S.Store between).now made)
    (λ was fit made got. carried (state g.S.Store first).now (state g.S.Store between).now (state g.S.Store last).now made got)

pub returns-clause-inside : goal.returns-clause-inside
returns-clause-inside g c clean has =
    let h = c.in_ok-renew_tables.ensures in
    let before : HasCleanDisk (state g.S.Store c.renew_tables.new.tx.conn.now) = omega (arith, c.redeclare_all.ensures.makes.steps.asks.survives.clean, clean) in
    c.redeclare_all.ensures.makes.steps.goes_on clean (h.keeps before has) (h.inside before).is_open (h.inside before).inside

pub returns-clause-err : goal.returns-clause-err
returns-clause-err g c =
    let first = c.args.tx.now.conn.now in
    let between = c.renew_tables.new.tx.conn.now in
    let last = c.redeclare_all.new.tx.conn.now in
    let h = c.in_ok-renew_tables.ensures in
    if_err c.redeclare_all.result
    (λ e. unwritten_of (AreFit g.S.Store HasNoIndexes between last) (WasFit g.S.Store IsFirstStore first last) e
    (λ it.
    let before : HasCleanDisk (state g.S.Store between) = omega (arith, c.redeclare_all.ensures.makes.steps.asks.survives.clean, it.0) in
    let was = it.1 ((h.proceeds.kept before).was_open (h.inside before).is_open) in
    (it.0, renewed_bare (state g.S.Store first).now (state g.S.Store between).now (h.ok before was)))) c.redeclare_all.ensures.makes.err
