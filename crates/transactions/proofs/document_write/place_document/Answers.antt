use Rattle.transactions.proofs.Lemmas.{ap, not, placed_new, placed_there, rules, state, ◌∙◌, ◌≡◌}
use Rattle.transactions.proofs.Common.{false, true}
use Rattle.transactions.proofs.document_write.place_document.Goals as goal

pub returns-then-is_new-clause-ok : goal.returns-then-is_new-clause-ok
returns-then-is_new-clause-ok g c clean has fit there =
    let old = (state g.S.Store c.args.tx.now.conn.now).now in
    let new = (state g.S.Store c.insert_document.new.tx.conn.now).now in
    let is : c.args.is_new ≡ true = search rules in
    placed_new c.insert_document.result c.args.db.now c.args.id.now c.args.sequence.now c.args.winner.now c.args.deleted old new (there ∙ ap not is) (c.insert_document.ensures.alters.ok clean has fit.keyed)

pub returns-clause-ok : goal.returns-clause-ok
returns-clause-ok g c clean has fit there =
    let old = (state g.S.Store c.args.tx.now.conn.now).now in
    let new = (state g.S.Store c.advance_document.new.tx.conn.now).now in
    let is : c.args.is_new ≡ false = search rules in
    placed_there c.advance_document.result c.args.db.now c.args.id.now c.args.sequence.now c.args.winner.now c.args.deleted old new (there ∙ ap not is) (c.advance_document.ensures.alters.ok clean has fit)
