use Rattle.transactions.proofs.Lemmas.{Database, HasCleanDisk, addition_of, ap, arith, filter, map, rules, state, subst, sym, ◌∙◌}
use Rattle.transactions.proofs.IndexSteps.{on_both}
use Rattle.transactions.proofs.NextWrites.{followed_by, read_failed, write_failed, written_next}
use Rattle.transactions.proofs.SameWinner.{design_postponed}
use Rattle.index.specs.Rows.{is_at_home}
use Rattle.index.specs.Shown.{declared_at}
use Rattle.transactions.specs.Indexing.{AreAllIndexes, IsFollowed, write_in}
use Rattle.transactions.proofs.indexing.write_and_postpone.Goals as goal

pub returns-in_err-before-clause-writes : goal.returns-in_err-before-clause-writes
returns-in_err-before-clause-writes g c =
    read_failed g.S.Store c.args.histories.now c.args.histories.now c.args.db.now c.args.sequence.now (addition_of c.args.write.now) c.args.tx.now.conn.now c.find_winner.new.tx.conn.now
    c.in_err-before.field-0.0 c.from_residual.result (search rules) c.in_err-before.ensures.finds

pub returns-in_err-write_and_advance-clause-writes : goal.returns-in_err-write_and_advance-clause-writes
returns-in_err-write_and_advance-clause-writes g c =
    write_failed g.S.Store c.args.histories.now c.write_and_advance.new.histories c.args.db.now c.args.sequence.now (addition_of c.args.write.now) c.args.tx.now.conn.now c.find_winner.new.tx.conn.now c.in_ok-before.ensures.finds
    c.write_and_advance.new.tx.conn.now c.in_err-write_and_advance.field-0.0 c.from_residual-in_err-write_and_advance.result (search rules) c.in_err-write_and_advance.ensures.writes

pub returns-clause-writes : goal.returns-clause-writes
returns-clause-writes g c =
    let w = c.in_ok-write_and_advance.ensures in
    followed_by g.S.Store c.args.histories.now c.write_and_advance.new.histories c.args.db.now c.args.sequence.now (addition_of c.args.write.now) c.args.tx.now.conn.now c.find_winner.new.tx.conn.now c.in_ok-before.ensures.finds
    c.write_and_advance.new.tx.conn.now w.writes w.ok c.note_winner.new.tx.conn.now c.note_winner.result c.note_winner.ensures.finds

pub returns-clause-ok : goal.returns-clause-ok
returns-clause-ok g c all design clean was every held due =
    let old = state g.S.Store c.args.tx.now.conn.now in
    let mid = state g.S.Store c.find_winner.new.tx.conn.now in
    let put = state g.S.Store c.write_and_advance.new.tx.conn.now in
    let db = c.args.db.now in
    let a = addition_of c.args.write.now in
    let w = c.in_ok-write_and_advance.ensures in
    let note = c.note_winner.ensures.finds in
    let put-clean : HasCleanDisk put = omega (arith, note.asks.survives.clean, clean) in
    let mid-clean : HasCleanDisk mid = omega (arith, w.writes.asks.survives.clean, put-clean) in
    let write = written_next g.S.Store c.args.histories.now c.write_and_advance.new.histories db c.args.sequence.now a c.args.tx.now.conn.now c.find_winner.new.tx.conn.now c.in_ok-before.ensures.finds c.write_and_advance.new.tx.conn.now w.writes w.ok put-clean was.store held due in
    let left = due.store w.writes.lawful put.now write in
    on_both c.note_winner.result (note.ok clean left) (note.stands left.schema_is clean)
    (λ noted stands.
    let both = design_postponed due.row a db c.args.postponed.now.keys c.note_winner.new.postponed.keys c.in_ok-before.before old.now put.now was design due.numbered write (c.in_ok-before.ensures.finds.ok mid-clean was.store) noted in
    subst (λ (d : Database). IsFollowed db c.note_winner.new.postponed.keys due.row (write_in old.now.trees due.row a) old.now d × AreAllIndexes all db d.trees) (sym stands.0.now_is)
    (both.0, every ∙ ap (λ rows. map declared_at (filter (is_at_home db) rows)) (sym both.1)))
