use Rattle.index.proofs.Common.{AreEntriesOf, Declared, Entries, HasCleanDisk, HasEntries, IsTrue, Proceeds, declared, entries_tree, map, schema, state, take, true, without_numbers, ◌≡◌}
use Rattle.index.proofs.dropping.clear_all_entries.Given as goal

-- the same transaction, and the indexes so far have no entries
abbrev pub invariant-loop-declaration : goal.invariant-loop-declaration
invariant-loop-declaration g l =
    let old = state g.S.Store l.initial.tx.conn.now in
    let now = state g.S.Store l.tx.conn.now in
    record {
      same : l.tx.conn.ghost_name ≡ l.initial.tx.conn.ghost_name;
      proceeds : Proceeds old now;
      goes_on : HasCleanDisk now → IsTrue old.is_open → old.in_transaction ≡ true → IsTrue now.is_open × (now.in_transaction ≡ true);
      so_far : HasCleanDisk now → l.initial.tx.conn.now.schema ≡ schema → (due : Entries) → AreEntriesOf due (old.now.trees entries_tree)
          → HasEntries (without_numbers due (map (λ (d : Declared). d.number) (map declared (take l.declaration-index l.declarations)))) old.now now.now;
    }
