use Rattle.index.proofs.Common.{List, Some, entries_tree, option_map, rules, state, subst, sym, with_key, ℕ, ◌≡◌}
use Rattle.index.proofs.EntryChanges.{entry_added}
use Rattle.index.proofs.Going.{has_changed, on_ok}
use Rattle.index.specs.Calls.{HasEntries}
use Rattle.index.proofs.refreshing.add_key.Goals as goal

pub returns-in-Some-clause-replaces : goal.returns-in-Some-clause-replaces
returns-in-Some-clause-replaces g c clean has due h none =
    let old = state g.S.Store c.args.tx.now.conn.now in
    let new = state g.S.Store c.insert_entry.new.tx.conn.now in
    let d = c.args.declaration.now in
    let id = c.args.id.now in
    let key : List ℕ = c.deref.result.now in
    let is : option_map {U = List ℕ} (λ bytes. bytes.items) c.args.key.now ≡ Some key = search rules in
    on_ok c.insert_entry.result
    (λ change. subst (λ o. HasEntries (with_key due d id o) old.now new.now) (sym is) (has_changed (with_key due d id (Some key)) _ old.now new.now (entry_added due d id key (old.now.trees entries_tree) h none) change))
    (c.insert_entry.ensures.alters.ok clean has h.laid)
