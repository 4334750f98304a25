use Rattle.transactions.proofs.Common.{AreInserted, List, Option, Revision, Some, addition_of, ancestors_of_parent, entries_before, head, state, subst, unknown_in, ℕ, ◌∙◌}
use Rattle.transactions.proofs.document_write.insert_revisions.Goals as goal

pub returns-clause-ok : goal.returns-clause-ok
returns-clause-ok g c clean has keyed =
    let old = state g.S.Store c.args.tx.now.conn.now in
    let new = state g.S.Store c.insert_path.new.tx.conn.now in
    let h = c.args.history.now in
    let a = addition_of c.args.write.now in
    let db = c.args.db.now in
    let P : List Revision → Option Revision → List ℕ → Type 0 = λ path parent id. AreInserted (unknown_in h (entries_before (Some (record { deleted = a.deleted; body = a.body })) path parent)) db id old.now new.now in
    subst (P a.path (head (ancestors_of_parent h a.parent))) (c.as_bytes.ensures.value ∙ c.as_str-id.ensures.text)
    (subst (λ parent. P a.path parent c.as_bytes.result.now) c.known_parent-parent.ensures
    (subst (λ path. P path c.known_parent-parent.result c.as_bytes.result.now) c.deref-2.ensures.value
    (c.in_ok-insert_path.ensures.ok a.body (c.as_str.ensures.value ∙ c.in_ok-text.ensures.text) clean has keyed)))
