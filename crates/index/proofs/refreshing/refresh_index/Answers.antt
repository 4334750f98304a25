use Rattle.index.proofs.Common.{HasEntries, List, ap, is_key, key_if_seen, option_map, state, subst, sym, with_key, ℕ, ◌∙◌, ◌≡◌}
use Rattle.couch_json.specs.Value.{Value}
use Rattle.couch_json.specs.View.{view}
use Rattle.index.proofs.refreshing.refresh_index.Goals as goal

pub returns-clause-replaces : goal.returns-clause-replaces
returns-clause-replaces g c clean has due h was =
    let old = state g.S.Store c.args.tx.now.conn.now in
    let new = state g.S.Store c.replace_entry.new.tx.conn.now in
    let before = option_map {U = Value} (λ v. view v.now) c.args.before in
    let after = option_map {U = Value} (λ v. view v.now) c.args.after in
    let first : option_map {U = List ℕ} (λ bytes. bytes.items) c.in_ok-old.old ≡ key_if_seen c.args.declaration.now.fields.items before = c.in_ok-old.ensures ∙ ap (λ fields. key_if_seen fields before) c.deref.ensures.value in
    let second : option_map {U = List ℕ} (λ bytes. bytes.items) c.in_ok-new.new ≡ key_if_seen c.args.declaration.now.fields.items after = c.in_ok-new.ensures ∙ ap (λ fields. key_if_seen fields after) c.deref-2.ensures.value in
    subst (λ o. HasEntries (with_key due c.args.declaration.now.number c.args.id.now o) old.now new.now) second
    (c.in_ok-replace_entry.ensures.replaces clean has due h (λ k. was k ∙ ap (λ o. is_key o k) (sym first)))
