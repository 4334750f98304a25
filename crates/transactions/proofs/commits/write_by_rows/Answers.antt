use Rattle.transactions.proofs.Lemmas.{HasCleanDisk, addition_of, arith, document_written, history_in_rows, history_of, own_serves, refl, revs_tree, state, ◌∙◌, ◌≡◌}
use Rattle.transactions.proofs.Lemmas.{HasBest, HistoryContent, rules, subst, sym, with_addition}
use Rattle.transactions.proofs.Loading.{load_unput, load_unread}
use Rattle.transactions.specs.inner.Histories.{stored_history}
use Rattle.tree.specs.Outline.{marked_winner}
use Rattle.transactions.proofs.commits.write_by_rows.Goals as goal

pub returns-clause-ok : goal.returns-clause-ok
returns-clause-ok g c clean store =
    let old = state g.S.Store c.args.tx.now.conn.now in
    let mid = state g.S.Store c.read_document.new.tx.conn.now in
    let new = state g.S.Store c.write_by_history.new.tx.conn.now in
    let db = c.args.db.now in
    let a = addition_of c.args.write.now in
    let was : HasCleanDisk mid = omega (arith, c.in_ok-after.ensures.puts.proceeds.survives.clean, clean) in
    let same : mid.now ≡ old.now = (c.in_ok-history.ensures.finds.stands store.schema_is was).0.now_is in
    let known = history_of (old.now.trees revs_tree) db db c.as_bytes.result.now a.id c.in_ok-history.history refl (c.as_bytes.ensures.value ∙ c.as_str.ensures.text) (c.in_ok-history.ensures.finds.ok was store) in
    document_written db c.args.sequence.now a c.in_ok-history.history old.now mid.now new.now same store (own_serves a (history_in_rows (old.now.trees revs_tree) db a.id) c.in_ok-history.history known) (c.in_ok-after.ensures.puts.ok clean)

pub returns-in_err-history-clause-writes : goal.returns-in_err-history-clause-writes
returns-in_err-history-clause-writes g c =
    load_unread g.S.Store c.args.db.now (addition_of c.args.write.now) _ _ _ c.args.tx.now.conn.now c.read_document.new.tx.conn.now c.in_err-history.field-0.0 c.from_residual.result (search rules)
    (λ trees named. subst (λ i. c.args.winner.now ≡ marked_winner (stored_history trees c.args.db.now i)) (sym (c.as_bytes.ensures.value ∙ c.as_str.ensures.text)) named) c.in_err-history.ensures.finds

pub returns-in_err-after-clause-writes : goal.returns-in_err-after-clause-writes
returns-in_err-after-clause-writes g c =
    let db = c.args.db.now in
    let a = addition_of c.args.write.now in
    let p = c.in_err-after.ensures.puts in
    load_unput g.S.Store db a _ _ c.args.tx.now.conn.now c.read_document.new.tx.conn.now c.write_by_history.new.tx.conn.now c.in_ok-history.ensures.finds c.in_err-after.field-0.0 c.from_residual-in_err-after.result (search rules)
    (HasBest (with_addition c.in_ok-history.history a))
    (λ store best read.
    let known = history_of ((state g.S.Store c.args.tx.now.conn.now).now.trees revs_tree) db db c.as_bytes.result.now a.id c.in_ok-history.history refl (c.as_bytes.ensures.value ∙ c.as_str.ensures.text) read in
    subst (λ (k : HistoryContent). HasBest (with_addition k a)) (sym known) best) p.proceeds p.err
