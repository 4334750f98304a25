use Rattle.transactions.proofs.Lemmas.{addition_of, map, state, sym, ◌∙◌, ◌≡◌}
use Rattle.transactions.proofs.Common.{[]}
use Rattle.transactions.proofs.IndexSteps.{no_items, plain_followed}
use Rattle.transactions.proofs.NextWrites.{followed_alone}
use Rattle.index.proofs.Going.{on_ok}
use Rattle.index.specs.Shown.{declared}
use Rattle.transactions.proofs.indexing.index_document.Goals as goal

pub returns-then-are_none-clause-ok : goal.returns-then-are_none-clause-ok
returns-then-are_none-clause-ok g c ids plain clean was every held due =
    let old = (state g.S.Store c.args.tx.now.conn.now).now in
    let new = (state g.S.Store c.write_and_advance.new.tx.conn.now).now in
    let items = c.args.indexes.now in
    let none : map declared items ≡ [] = no_items declared items (sym c.are_none.ensures ∙ c.if-are_none.true) in
    on_ok c.write_and_advance.result (λ write. plain_followed due.row (addition_of c.args.write.now) c.args.db.now ids (map declared items) old new was every none plain due.numbered write)
    (c.write_and_advance.ensures.ok due.row clean was.store held due.placed due.numbered due.at)

pub returns-then-are_none-clause-writes : goal.returns-then-are_none-clause-writes
returns-then-are_none-clause-writes g c =
    followed_alone g.S.Store c.args.histories.now c.write_and_advance.new.histories c.args.db.now c.args.sequence.now (addition_of c.args.write.now) c.args.tx.now.conn.now c.write_and_advance.new.tx.conn.now
    c.write_and_advance.result c.write_and_advance.ensures.writes
