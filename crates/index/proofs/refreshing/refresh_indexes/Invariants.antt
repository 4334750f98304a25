use Rattle.index.proofs.Common.{AreUpToDate, ChangesOnly, Documents, HasCleanDisk, IsTrue, List, Proceeds, Row, declared, drop, entries_tree, map, option_map, schema, state, true, ◌≡◌}
use Rattle.couch_json.specs.View.{view}
use Rattle.index.proofs.Following.{IsOnTheWay}
use Rattle.index.proofs.refreshing.refresh_indexes.Given as goal

-- the same transaction, and the entries are those where the indexes that come next are left
abbrev pub invariant-loop-declaration : goal.invariant-loop-declaration
invariant-loop-declaration g l =
    let old = state g.S.Store l.initial.tx.conn.now in
    let now = state g.S.Store l.tx.conn.now in
    record {
      same : l.tx.conn.ghost_name ≡ l.initial.tx.conn.ghost_name;
      proceeds : Proceeds old now;
      goes_on : HasCleanDisk now → IsTrue old.is_open → old.in_transaction ≡ true → IsTrue now.is_open × (now.in_transaction ≡ true);
      so_far : HasCleanDisk now → l.initial.tx.conn.now.schema ≡ schema → (decls : List Row) (sees : Documents)
          → AreUpToDate l.db (map declared l.declarations) l.id (option_map (λ v. view v.now) l.before) decls sees (old.now.trees entries_tree)
          → IsOnTheWay l.db l.id sees (option_map (λ v. view v.now) l.after) decls (map declared (drop l.declaration-index l.declarations)) (now.now.trees entries_tree) × ChangesOnly entries_tree old.now now.now;
    }
