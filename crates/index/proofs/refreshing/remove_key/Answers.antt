use Rattle.index.proofs.Common.{List, None, Some, ap, entries_tree, is_key, option_map, rules, state, with_key, ℕ, ◌∙◌, ◌≡◌}
use Rattle.index.proofs.EntryChanges.{entry_removed}
use Rattle.index.proofs.Going.{has_changed, on_ok}
use Rattle.index.proofs.refreshing.remove_key.Goals as goal

pub returns-in-Some-clause-replaces : goal.returns-in-Some-clause-replaces
returns-in-Some-clause-replaces g c clean has due h was =
    let old = state g.S.Store c.args.tx.now.conn.now in
    let new = state g.S.Store c.delete_entry.new.tx.conn.now in
    let key : List ℕ = c.deref.result.now in
    let is : option_map {U = List ℕ} (λ bytes. bytes.items) c.args.key.now ≡ Some key = search rules in
    on_ok c.delete_entry.result
    (λ change. has_changed (with_key due c.args.declaration.now c.args.id.now None) _ old.now new.now (entry_removed due c.args.declaration.now c.args.id.now key (old.now.trees entries_tree) h (λ k. was k ∙ ap (λ o. is_key o k) is)) change)
    (c.delete_entry.ensures.alters.ok clean has h.laid)
