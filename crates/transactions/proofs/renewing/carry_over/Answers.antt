use Rattle.transactions.proofs.Lemmas.{arith, on_err, rules, ◌≡◌}
use Rattle.transactions.specs.Renewing.{IsCarriedOver}
use Rattle.tables.specs.Layout.{IsFirstStore}
use Rattle.tables.specs.Schema.{schema}
use Rattle.transactions.proofs.Undone.{committed_as, refused_inside, undone_by_commit, undone_by_drop}
use Rattle.transactions.proofs.renewing.carry_over.Goals as goal

pub returns-in_err-renew-clause-err : goal.returns-in_err-renew-clause-err
returns-in_err-renew-clause-err g c =
    refused_inside g.S.Store _ c.transaction-tx.result.conn.now c.renew.new.tx.conn.now c.drop-tx.new.self.0 c.conn-1.given.0 (search rules) c.transaction-tx.ensures.begun (λ late. omega (arith, c.drop-tx.ensures.survives.clean, late))
    IsFirstStore c.in_err-renew.field-0.0 c.from_residual.result (search rules) c.in_err-renew.ensures.err

pub returns-in_err-renew-clause-undone : goal.returns-in_err-renew-clause-undone
returns-in_err-renew-clause-undone g c has late up =
    on_err _
    (undone_by_drop g.S.Store _ c.transaction-tx.result.conn.now c.renew.new.tx.conn.now c.drop-tx.new.self.0 c.conn-1.given.0 (search rules) c.transaction-tx.ensures.begun (λ late. omega (arith, c.drop-tx.ensures.survives.clean, late))
    (λ h. h.schema ≡ schema) c.in_err-renew.ensures.steps.kept has c.drop-tx.ensures.undone late up)

pub returns-in_err-commit-clause-undone : goal.returns-in_err-commit-clause-undone
returns-in_err-commit-clause-undone g c has late up =
    on_err _
    (undone_by_commit g.S.Store _ c.transaction-tx.result.conn.now c.renew.new.tx.conn.now c.commit.new.self.0 c.conn-2-1.given.0 (search rules) c.transaction-tx.ensures.begun (λ late. omega (arith, c.commit.ensures.survives.clean, late))
    (λ h. h.schema ≡ schema) c.in_ok-renew.ensures.steps.kept has _ (λ clean fit. (c.in_ok-renew.ensures.inside clean fit).1) c.in_err-commit.ensures.err late up)

pub returns-clause-ok : goal.returns-clause-ok
returns-clause-ok g c late store =
    committed_as g.S.Store _ c.transaction-tx.result.conn.now c.renew.new.tx.conn.now c.commit.new.self.0 c.conn-2-1.given.0 (search rules) c.transaction-tx.ensures.begun (λ late. omega (arith, c.commit.ensures.survives.clean, late))
    IsFirstStore IsCarriedOver (λ late. (c.in_ok-commit.ensures.ok late).1.now_is) c.in_ok-renew.ensures.steps.ok late store
