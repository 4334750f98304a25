use Rattle.transactions.proofs.Lemmas.{additions, map, rules, unwritten_of}
use Rattle.std.proofs.Common.{Global, Vec}
use Rattle.index.specs.Shown.{declared}
use Rattle.index.specs.declared.declaration.Declaration.{Declaration}
use Rattle.transactions.proofs.AllWrites.{Given, all_after, all_failed}
use Rattle.transactions.proofs.Lemmas.{⊤}
use Rattle.transactions.specs.Indexing.{AreAllIndexes, AreKnownIndexes, IsSoundIndexed}
use Rattle.transactions.proofs.commits.list_then_write.Goals as goal

pub returns-in_err-known-clause-writes : goal.returns-in_err-known-clause-writes
returns-in_err-known-clause-writes g c =
    let first = c.args.tx.now.conn.now in
    let last = c.list_unknown.new.tx.conn.now in
    let db = c.args.db.now in
    let e = c.in_err-known.ensures in
    let fault = c.in_err-known.field-0.0 in
    all_failed g.S.Store (additions c.args.writes.now) db c.args.sequence (AreKnownIndexes c.args.indexes db) (λ (all : Vec Declaration Global). AreAllIndexes (map declared all.items) db) first last
    fault c.from_residual.result (search rules) e.asks (λ name clean was known due. (e.looks was.store.schema_is).kept clean)
    (λ name. unwritten_of (IsSoundIndexed g.S.Store (λ _. ⊤) first last) (Given g.S.Store (additions c.args.writes.now) db c.args.sequence name (AreKnownIndexes c.args.indexes db) first last) fault
    (λ it. (it.0, λ up. ((it.1 up).0, tt))) e.err)

pub returns-clause-writes : goal.returns-clause-writes
returns-clause-writes g c =
    let db = c.args.db.now in
    let find = c.in_ok-known.ensures in
    all_after g.S.Store (additions c.args.writes.now) db c.args.sequence (AreAllIndexes (map declared c.in_ok-known.known.items) db) (AreKnownIndexes c.args.indexes db)
    (λ (all : Vec Declaration Global). AreAllIndexes (map declared all.items) db) c.args.tx.now.conn.now c.list_unknown.new.tx.conn.now c.choose_sequencing.new.tx.conn.now find.asks find.looks
    (λ clean was. find.stays clean was.store.schema_is) (λ clean was known. find.ok clean was known) c.choose_sequencing.result c.choose_sequencing.ensures.writes
