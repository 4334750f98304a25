use Rattle.tables.proofs.Writes.{insert_stays}
use Rattle.index.proofs.Common.{alters, entries_plain, entries_table, entry_cells, inserts_row, refl, rules, schema}
use Rattle.index.proofs.EntryStatements.{cast_entry, inserts_entry, numbered_entries}
use Rattle.index.proofs.entries.insert_entry.Goals as goal

pub returns-clause-alters : goal.returns-clause-alters
returns-clause-alters g c =
    let given = entry_cells c.args.declaration.now c.args.key.now c.args.id.now in
    alters g.S.Store _ _ _ _ (λ has fit. inserts_row 6 entries_table entries_plain _ _ has inserts_entry given _ (cast_entry _ _ _) (numbered_entries _ fit) refl c.change.result) (λ has. insert_stays schema 6 entries_table entries_plain _ _ has inserts_entry _ c.change.result)
    c.change.ensures.ok (search rules) c.change.ensures.inside c.change.ensures.proceeds
