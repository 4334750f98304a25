-- The names that most proofs of this crate cite, passed on from one place. Declares nothing.
unfoldable pub use Rattle.sqlite.specs.Listing.{understood}
unfoldable pub use Rattle.sqlite_tied.specs.Compute.{everything}
pub use Rattle.index.specs.Calls.{AreUpToDate, ChangesIndexes, ChangesOnly, ClearsAll, ClearsEntries, Drops, FollowsAll, StaysOpen, HasEntries, IsDropped, IsRefused, IsSound, Refreshes, ReplacesKey}
pub use Rattle.index.specs.Indexed.{AreEntriesOf, AreIndexed, Entries, IsIndexed, is_due, is_due_by, is_due_while, with_key, without_numbers}
pub use Rattle.index.specs.Layout.{AreDeclarationRows, AreEntryRows, HasIndexRows, IsDeclarationRow, IsEntryRow}
pub use Rattle.index.specs.Meaning.{Declarations, Documents, declares_in, is_key, key_at, key_if_seen, sees_in, with_declared, with_seen, without_declared}
pub use Rattle.index.specs.Rows.{declaration_at, declaration_cells, declaration_of, declaration_row, declared_by, design_of, entry_cells, entry_id, entry_row, fields_in_cell, fields_of, fields_text, has_entry, database_of_declaration, index_name_of_row, is_at_home, is_declaration_of, is_entry_in, is_entry_of, key_of, shown_declaration, shown_entry}
pub use Rattle.index.specs.Shown.{Declared, IsPathList, IsShownDeclaration, SpellsPaths, declared, declared_at, declared_shown}
pub use Rattle.index.specs.declared.declaration.Declaration.{Declaration}
pub use Rattle.index.specs.declared.fault.IndexFault.{IndexFault}
pub use Rattle.sqlite_sql.specs.declared.ops.CompareOp.TheVariants.{Eq}
pub use Rattle.sqlite_typed.proofs.TestLemmas.{last_term, then_term}
pub use Rattle.std.proofs.Math.Seq.{drop-cons}
pub use Rattle.std.proofs.lemmas.List.{drop-map}
pub use Rattle.std.proofs.lemmas.List.Folds.{list_any-append}
pub use Rattle.std.proofs.Common.{drop, get_or, take}
pub use Rattle.std.proofs.lemmas.List.{map-append, take_all, take_more}
pub use Rattle.std.specs.Prelude.{⊤, find}
pub use Rattle.tables.proofs.Cells.{by_db, cast_int, cast_null, compares, int_by, same_blob}
pub use Rattle.tables.proofs.Common.{AllByRecursion, AreNumbered, AsksInside, Binary, Blob, Bool, Changes, Database, Decides-int_eq, Delete, Equal, Err, Error, Ghosts, HasCleanDisk, Held, IfErr, IfOk, Insert, Int, IsAscending, IsNew, IsTrue, IsUnchanged, Key, Less-from_lt, List, None, Null, Ok, OnOk, Option, Ordering, Proceeds, Result, Row, Schema, Select, Shown, Some, State, Term, Text, Trees, Values, [], all-append, all-filter, all_both, all_map, all_of, all_weaker, and_from, and_parts, ap, ap₂, arith, ascending-append, ascending-filter, ascending_weaker, bytes_eq, bytes_eq-Decides, cases_Bool, cast_row, codes, col, column, cond, decls_table, decls_tree, entries_table, entries_tree, false, filter, filter-filter, has_number, holds, if◌then◌else◌, inl, inr, insert_sorted, int_cmp, int_eq, ints, is_eq, is_gt, length, list_all, list_any, lit, map, map-map, nat_tests, next_number, none_from_any, not, number_of, option_map, pos, refl, rowid, rules, same_int, schema, slice_get, sort_by, state, subst, suc, sym, then-Equal, true, value_cmp, value_cmp-Int, with_cells, ℕ, ℤ, ◌&&◌, ◌++◌, ◌+◌, ◌<ℤ◌, ◌<◌, ◌||◌, ◌∙◌, ◌∷◌, ◌≡◌, ◌≢◌, ◌⊎◌}
pub use Rattle.tables.proofs.DatabaseStatements.{by_number, tests_number}
pub use Rattle.tables.proofs.Deletes.{deletes_where}
pub use Rattle.tables.proofs.Finds.{alters, finds_one, reads_inside, reads_of}
pub use Rattle.tables.proofs.Kept.{numbered-with_cells}
pub use Rattle.tables.proofs.Queries.{program_on}
pub use Rattle.tables.proofs.RowMaps.{find_found, find_passes, passing}
pub use Rattle.tables.proofs.Single.{HasOneAtMost, inserts_row}
pub use Rattle.tables.proofs.Pages.{lists}
pub use Rattle.tables.proofs.Stays.{keeps_itself, proceeds_then}
pub use Rattle.tables.proofs.Tables.{decls_plain, entries_plain}
pub use Rattle.tables.proofs.Writes.{IsCommand}
pub use Rattle.tables.specs.Calls.{Alters, Stays}
pub use Rattle.tables.specs.Steps.{StaysInside}
