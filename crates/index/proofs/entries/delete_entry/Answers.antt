use Rattle.tables.proofs.Writes.{delete_stays}
use Rattle.index.proofs.Common.{Blob, Int, [], alters, deletes_where, entries_plain, entries_table, is_entry_of, refl, rules, ◌∷◌, schema}
use Rattle.index.proofs.EntryStatements.{deletes_entry, numbered_entries, tests_entry}
use Rattle.index.proofs.entries.delete_entry.Goals as goal

pub returns-clause-alters : goal.returns-clause-alters
returns-clause-alters g c =
    let given = Int c.args.declaration.now ∷ Blob c.args.key.now ∷ Blob c.args.id.now ∷ [] in
    alters g.S.Store _ _ _ _
    (λ has fit. deletes_where 6 entries_table entries_plain _ _ has deletes_entry given (is_entry_of c.args.declaration.now c.args.key.now c.args.id.now) refl (numbered_entries _ fit) (tests_entry _ _ _ _ fit) c.change.result) (λ has. delete_stays schema 6 entries_table entries_plain _ _ has deletes_entry _ c.change.result)
    c.change.ensures.ok (search rules) c.change.ensures.inside c.change.ensures.proceeds
