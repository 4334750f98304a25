use Rattle.tables.proofs.Writes.{delete_stays}
use Rattle.index.proofs.Common.{Int, [], alters, deletes_where, entries_plain, entries_table, is_entry_in, refl, rules, ◌∷◌, schema}
use Rattle.index.proofs.EntryStatements.{clears_entries, numbered_entries, tests_declaration}
use Rattle.index.proofs.entries.clear_entries.Goals as goal

pub returns-clause-alters : goal.returns-clause-alters
returns-clause-alters g c =
    alters g.S.Store _ _ _ _
    (λ has fit. deletes_where 6 entries_table entries_plain _ _ has clears_entries (Int c.args.declaration.now ∷ []) (is_entry_in c.args.declaration.now) refl (numbered_entries _ fit) (tests_declaration _ _ fit) c.change.result) (λ has. delete_stays schema 6 entries_table entries_plain _ _ has clears_entries _ c.change.result)
    c.change.ensures.ok (search rules) c.change.ensures.inside c.change.ensures.proceeds
