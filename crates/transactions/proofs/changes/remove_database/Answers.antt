use Rattle.transactions.proofs.Lemmas.{arith, on_err, rules, state, ⊤}
use Rattle.transactions.specs.Indexing.{IsIndexedStore, IsRemoved}
use Rattle.transactions.proofs.Undone.{committed_as, refused_inside, undone_by_commit, undone_by_drop}
use Rattle.transactions.proofs.changes.remove_database.Goals as goal

pub returns-in_err-clear_indexed-clause-err : goal.returns-in_err-clear_indexed-clause-err
returns-in_err-clear_indexed-clause-err g c =
    refused_inside g.S.Store _ c.transaction-tx.result.conn.now c.clear_indexed.new.tx.conn.now c.drop-tx.new.self.0 c.conn-1.given.0 (search rules) c.transaction-tx.ensures.begun (λ late. omega (arith, c.drop-tx.ensures.survives.clean, late))
    (λ d. IsIndexedStore d × ⊤) c.in_err-clear_indexed.field-0.0 c.from_residual.result (search rules) c.in_err-clear_indexed.ensures.err

pub returns-in_err-clear_indexed-clause-undone : goal.returns-in_err-clear_indexed-clause-undone
returns-in_err-clear_indexed-clause-undone g c store late up =
    on_err _
    (undone_by_drop g.S.Store _ c.transaction-tx.result.conn.now c.clear_indexed.new.tx.conn.now c.drop-tx.new.self.0 c.conn-1.given.0 (search rules) c.transaction-tx.ensures.begun (λ late. omega (arith, c.drop-tx.ensures.survives.clean, late))
    (λ h. IsIndexedStore (state g.S.Store h).now) c.in_err-clear_indexed.ensures.kept store c.drop-tx.ensures.undone late up)

pub returns-in_err-commit-clause-undone : goal.returns-in_err-commit-clause-undone
returns-in_err-commit-clause-undone g c store late up =
    on_err _
    (undone_by_commit g.S.Store _ c.transaction-tx.result.conn.now c.clear_indexed.new.tx.conn.now c.commit.new.self.0 c.conn-2-1.given.0 (search rules) c.transaction-tx.ensures.begun (λ late. omega (arith, c.commit.ensures.survives.clean, late))
    (λ h. IsIndexedStore (state g.S.Store h).now) c.in_ok-clear_indexed.ensures.kept store _ (λ clean fit. (c.in_ok-clear_indexed.ensures.inside clean fit).1) c.in_err-commit.ensures.err late up)

pub returns-clause-ok : goal.returns-clause-ok
returns-clause-ok g c late store =
    committed_as g.S.Store _ c.transaction-tx.result.conn.now c.clear_indexed.new.tx.conn.now c.commit.new.self.0 c.conn-2-1.given.0 (search rules) c.transaction-tx.ensures.begun (λ late. omega (arith, c.commit.ensures.survives.clean, late))
    IsIndexedStore (IsRemoved c.args.number.now) (λ late. (c.in_ok-commit.ensures.ok late).1.now_is) c.in_ok-clear_indexed.ensures.ok late store
