use Rattle.transactions.proofs.Lemmas.{AreDue, HasWritten, additions, ap, arith, database_of_row, map, on_err, rules, state, writings_in}
use Rattle.index.specs.Indexed.{IsIndexed}
use Rattle.transactions.specs.Commits.{KeepsOthers}
use Rattle.index.specs.Shown.{declared}
use Rattle.transactions.specs.Indexing.{AreAllIndexes, AreKnownIndexes, IsIndexedStore}
use Rattle.transactions.proofs.Undone.{committed_as, refused_inside, undone_by_commit, undone_by_drop}
use Rattle.transactions.proofs.commits.commit_writes.Goals as goal

pub returns-in_err-after-clause-err : goal.returns-in_err-after-clause-err
returns-in_err-after-clause-err g c name =
    refused_inside g.S.Store _ c.transaction-tx.result.conn.now c.list_then_write.new.tx.conn.now c.drop-tx.new.self.0 c.conn-1.given.0 (search rules) c.transaction-tx.ensures.begun (λ late. omega (arith, c.drop-tx.ensures.survives.clean, late))
    (λ d. IsIndexedStore d × (AreKnownIndexes c.args.indexes c.args.db.now d.trees × AreDue (additions c.args.writes.now) name c.args.db.now c.args.sequence d.trees)) c.in_err-after.field-0.0 c.from_residual.result (search rules) (c.in_err-after.ensures.writes.err name)

pub returns-in_err-after-clause-undone : goal.returns-in_err-after-clause-undone
returns-in_err-after-clause-undone g c name store every due late up =
    on_err _
    (undone_by_drop g.S.Store _ c.transaction-tx.result.conn.now c.list_then_write.new.tx.conn.now c.drop-tx.new.self.0 c.conn-1.given.0 (search rules) c.transaction-tx.ensures.begun (λ late. omega (arith, c.drop-tx.ensures.survives.clean, late))
    (λ h. IsIndexedStore (state g.S.Store h).now × (AreKnownIndexes c.args.indexes c.args.db.now (state g.S.Store h).now.trees × AreDue (additions c.args.writes.now) name c.args.db.now c.args.sequence (state g.S.Store h).now.trees)) (λ clean fit. (c.in_err-after.ensures.writes.done name clean fit.0 fit.1.0 fit.1.1).kept) (store, (every, due)) c.drop-tx.ensures.undone late up)

pub returns-in_err-commit-clause-undone : goal.returns-in_err-commit-clause-undone
returns-in_err-commit-clause-undone g c name store every due late up =
    on_err _
    (undone_by_commit g.S.Store _ c.transaction-tx.result.conn.now c.list_then_write.new.tx.conn.now c.commit.new.self.0 c.conn-2-1.given.0 (search rules) c.transaction-tx.ensures.begun (λ late. omega (arith, c.commit.ensures.survives.clean, late))
    (λ h. IsIndexedStore (state g.S.Store h).now × (AreKnownIndexes c.args.indexes c.args.db.now (state g.S.Store h).now.trees × AreDue (additions c.args.writes.now) name c.args.db.now c.args.sequence (state g.S.Store h).now.trees)) (λ clean fit. (c.in_ok-after.ensures.writes.done name clean fit.0 fit.1.0 fit.1.1).kept) (store, (every, due)) _ (λ clean fit. (c.in_ok-after.ensures.writes.done name clean fit.0 fit.1.0 fit.1.1).inside (ap (λ h. (state g.S.Store h).in_transaction) c.transaction-tx.ensures.begun)) c.in_err-commit.ensures.err late up)

pub returns-clause-ok : goal.returns-clause-ok
returns-clause-ok g c name late store =
    let db = c.args.db.now in
    let all = additions c.args.writes.now in
    committed_as g.S.Store _ c.transaction-tx.result.conn.now c.list_then_write.new.tx.conn.now c.commit.new.self.0 c.conn-2-1.given.0 (search rules) c.transaction-tx.ensures.begun (λ late. omega (arith, c.commit.ensures.survives.clean, late))
    IsIndexedStore (λ d e. AreKnownIndexes c.args.indexes db d.trees → (due : AreDue all name db c.args.sequence d.trees)
    → HasWritten (writings_in (database_of_row d.trees due.row) all) name due.row d e × IsIndexed e.trees × AreAllIndexes (map declared c.in_ok-after.after.items) db e.trees)
    (λ late. (c.in_ok-commit.ensures.ok late).1.now_is) (λ clean was every due. (c.in_ok-after.ensures.writes.done name clean was every due).ok) late store

pub returns-clause-others : goal.returns-clause-others
returns-clause-others g c name late store =
    let db = c.args.db.now in
    committed_as g.S.Store _ c.transaction-tx.result.conn.now c.list_then_write.new.tx.conn.now c.commit.new.self.0 c.conn-2-1.given.0 (search rules) c.transaction-tx.ensures.begun (λ late. omega (arith, c.commit.ensures.survives.clean, late))
    IsIndexedStore (λ d e. AreKnownIndexes c.args.indexes db d.trees → AreDue (additions c.args.writes.now) name db c.args.sequence d.trees → KeepsOthers db d e)
    (λ late. (c.in_ok-commit.ensures.ok late).1.now_is) (λ clean was every due. (c.in_ok-after.ensures.writes.done name clean was every due).others) late store
