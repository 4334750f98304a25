use Rattle.transactions.proofs.Lemmas.{additions, ap, map, rules, sym, ◌∙◌, ◌≡◌}
use Rattle.std.proofs.Common.{Global, Vec}
use Rattle.std.specs.Prelude.{◌==◌}
use Rattle.index.specs.Shown.{declared}
use Rattle.index.specs.declared.declaration.Declaration.{Declaration}
use Rattle.transactions.proofs.AllWrites.{all_so, all_stop}
use Rattle.transactions.proofs.Common.{[], length}
use Rattle.transactions.proofs.IndexSteps.{no_items}
use Rattle.transactions.specs.Indexing.{AreAllIndexes}
use Rattle.transactions.proofs.commits.choose_sequencing.Goals as goal

pub returns-in_err-write_with_one_sequence_update-clause-writes : goal.returns-in_err-write_with_one_sequence_update-clause-writes
returns-in_err-write_with_one_sequence_update-clause-writes g c =
    let items = c.args.indexes.items in
    let db = c.args.db.now in
    let none : map declared items ≡ [] = no_items declared items (ap (λ xs. length xs == 0) (sym c.deref.ensures.value) ∙ sym c.are_none.ensures ∙ c.if-are_none.true) in
    all_stop g.S.Store (additions c.args.writes.now) db c.args.sequence (AreAllIndexes [] db) (AreAllIndexes (map declared items) db) (λ _. AreAllIndexes [] db) (λ (all : Vec Declaration Global). AreAllIndexes (map declared all.items) db)
    (λ trees every. sym none ∙ every) c.args.tx.now.conn.now c.write_with_one_sequence_update.new.tx.conn.now c.in_err-write_with_one_sequence_update.field-0.0 c.from_residual.result (search rules)
    (c.in_err-write_with_one_sequence_update.ensures.writes (c.are_plain.ensures.0 c.if-are_plain.true))

pub returns-then-are_plain-clause-writes : goal.returns-then-are_plain-clause-writes
returns-then-are_plain-clause-writes g c =
    let items = c.args.indexes.items in
    let db = c.args.db.now in
    let none : map declared items ≡ [] = no_items declared items (ap (λ xs. length xs == 0) (sym c.deref.ensures.value) ∙ sym c.are_none.ensures ∙ c.if-are_none.true) in
    all_so g.S.Store (additions c.args.writes.now) db c.args.sequence (AreAllIndexes [] db) (AreAllIndexes (map declared items) db) (λ _. AreAllIndexes [] db) (λ (all : Vec Declaration Global). AreAllIndexes (map declared all.items) db)
    (λ trees every. sym none ∙ every) c.args.tx.now.conn.now c.write_with_one_sequence_update.new.tx.conn.now tt c.args.indexes (λ trees every. none ∙ every)
    (c.in_ok-write_with_one_sequence_update.ensures.writes (c.are_plain.ensures.0 c.if-are_plain.true))
