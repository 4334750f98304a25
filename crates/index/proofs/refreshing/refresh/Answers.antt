use Rattle.index.proofs.Common.{AreEntriesOf, Database, HasCleanDisk, HasEntries, HasIndexRows, OnOk, arith, declared, declared_at, decls_tree, entries_tree, filter, is_at_home, is_due, map, option_map, schema, state, subst, with_seen, ◌∙◌, ◌≡◌, ap}
use Rattle.couch_json.specs.Value.{Value}
use Rattle.couch_json.specs.View.{view}
use Rattle.index.proofs.Going.{on_ok, refreshed}
use Rattle.index.proofs.refreshing.refresh.Goals as goal

pub returns-clause-refreshes : goal.returns-clause-refreshes
returns-clause-refreshes g c clean has declares sees h was =
    let old = state g.S.Store c.args.tx.now.conn.now in
    let mid = state g.S.Store c.list_declarations.new.tx.conn.now in
    let new = state g.S.Store c.refresh_indexes.new.tx.conn.now in
    let seen = option_map {U = Value} (λ v. view v.now) c.args.after in
    let still : HasCleanDisk mid = omega (arith, c.refresh_indexes.ensures.proceeds.survives.clean, clean) in
    let decls = old.now.trees decls_tree in
    let after = with_seen sees c.args.db.now c.args.id.now seen in
    let fit : HasIndexRows old.now = record { schema_is = has; decls = h.decls; entries = h.entries.laid } in
    let same : mid.now ≡ old.now = (c.in_ok-declarations.ensures.stands has still).0.now_is in
    let all : map declared c.deref.result.now ≡ map declared_at (filter (is_at_home c.args.db.now) decls) = ap (map declared) c.deref.ensures.value ∙ c.in_ok-declarations.ensures.ok still fit in
    let P : Database → Type 0 = λ d. d.schema ≡ schema → AreEntriesOf (is_due sees decls) (d.trees entries_tree) → OnOk c.refresh_indexes.result (HasEntries (is_due after decls) d new.now) in
    let made : P mid.now = λ ours entries. c.refresh_indexes.ensures.follows clean ours decls sees (record { laid = h.decls; own = all; due = entries; now = was }) in
    on_ok c.refresh_indexes.result (refreshed declares sees after old.now new.now has h) (subst P same made has h.entries)
