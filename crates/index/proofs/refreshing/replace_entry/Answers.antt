use Rattle.index.proofs.Common.{HasCleanDisk, List, None, ap, arith, entries_tree, is_key, option_map, rules, state, with_key, ℕ, ◌∙◌, ◌≡◌}
use Rattle.index.proofs.EntryChanges.{entries_as, has_then, with_again, with_same}
use Rattle.index.proofs.Going.{has_after, has_as, has_itself, on_ok}
use Rattle.index.proofs.refreshing.replace_entry.Goals as goal

pub returns-then-are_same-clause-replaces : goal.returns-then-are_same-clause-replaces
returns-then-are_same-clause-replaces g c clean has due h was =
    let old = state g.S.Store c.args.tx.now.conn.now in
    let d = c.args.declaration.now in
    let id = c.args.id.now in
    let key = option_map {U = List ℕ} (λ bytes. bytes.items) c.args.new.now in
    let same : option_map {U = List ℕ} (λ bytes. bytes.items) c.args.old.now ≡ key = search rules in
    has_itself (with_key due d id key) old.now (entries_as due (with_key due d id key) (old.now.trees entries_tree) (with_same due d id key (λ k. was k ∙ ap (λ o. is_key o k) same)) h)

pub returns-clause-replaces : goal.returns-clause-replaces
returns-clause-replaces g c clean has due h was =
    let old = state g.S.Store c.args.tx.now.conn.now in
    let mid = state g.S.Store c.remove_key.new.tx.conn.now in
    let new = state g.S.Store c.add_key.new.tx.conn.now in
    let d = c.args.declaration.now in
    let id = c.args.id.now in
    let key = option_map {U = List ℕ} (λ bytes. bytes.items) c.args.new.now in
    let before : HasCleanDisk mid = omega (arith, c.add_key.ensures.proceeds.survives.clean, clean) in
    let first = c.in_ok-remove_key.ensures.replaces before has due h was in
    on_ok c.add_key.result (λ second. has_as (with_key (with_key due d id None) d id key) (with_key due d id key) old.now new.now (with_again due d id None key) (has_after _ old.now mid.now new.now first.only second))
    (c.add_key.ensures.replaces clean (first.only.schema ∙ has) (with_key due d id None) first.entries (has_then due d id None))

pub returns-clause-keeps : goal.returns-clause-keeps
returns-clause-keeps g c clean has =
    let before : HasCleanDisk (state g.S.Store c.remove_key.new.tx.conn.now) = omega (arith, c.add_key.ensures.proceeds.survives.clean, clean) in
    c.add_key.ensures.keeps clean (c.in_ok-remove_key.ensures.keeps before has)
