-- The names that most proofs of this crate cite, passed on from one place. Declares nothing.
pub use Rattle.couch_json.specs.Canonical.{canonical}
pub use Rattle.couch_json.specs.Lawful.{IsLawful}
pub use Rattle.policy.specs.Security.{admins_only, closed_security, is_security}
pub use Rattle.sqlite.proofs.Callers.{IsPlain, command_of, never_commits, one_permutation, one_step, reads_as, runs_as, statement_of}
pub use Rattle.sqlite.proofs.InsideLemmas.{keeps_then, unchanged_keeps}
pub use Rattle.sqlite.specs.Effect.{Database, value_rows}
pub use Rattle.sqlite.specs.Held.{Held, state}
pub use Rattle.sqlite.specs.Listing.{reads_listing}
unfoldable pub use Rattle.sqlite.specs.Listing.{understood}
pub use Rattle.sqlite.specs.State.{CommitsShowing, FailsToShow, HasCleanDisk, IsRolledBack, IsTooLate, IsUnchanged, KeepsCommit, ShowsRows, State, Survives, Writes, mode_of}
unfoldable pub use Rattle.sqlite.specs.State.{FailsToQuery, IsNotRun, Shown}
pub use Rattle.sqlite.specs.declared.error.Error.{Error}
pub use Rattle.sqlite_keyed.proofs.KeyedLemmas.{Less-from_lt, above_all, same_int}
pub use Rattle.sqlite_keyed.proofs.ListLemmas.{all-append, all-filter, all-slice_get, all_both, all_kept, all_map, all_of, all_unmap, all_weaker, ascending-append, ascending-filter, ascending-map, ascending_weaker, filter-filter, filter-map, filter_all, filter_none, filter_same, map-map, map_same, none_from_any, slice_get-filter}
pub use Rattle.sqlite_keyed.proofs.SliceLemmas.{any_is_found}
pub use Rattle.sqlite_keyed.proofs.SortLemmas.{IsPermutation-sort_by, sort_by-map, sorted_is-sort_by}
pub use Rattle.sqlite_keyed.specs.Lists.{insert_sorted, sort_by, update_where, without_key}
pub use Rattle.sqlite_rules.specs.Calls.{ids_of}
pub use Rattle.sqlite_rules.specs.Cast.{as_text, cast, cast_row}
pub use Rattle.sqlite_rules.specs.Edit.{Applies, Edit, edit_of, edited, id_in, next_rowid, taken_by, with_rowid, without_all}
pub use Rattle.sqlite_rules.specs.declared.error.Rowids.TheVariants.{Above, Chosen, Given}
pub use Rattle.sqlite_schema.specs.declared.command.Command.TheVariants.{CreateTable, Delete, Insert, Select, Update}
pub use Rattle.sqlite_schema.specs.declared.command.Source.TheVariants.{Values}
pub use Rattle.sqlite_schema.specs.declared.program.Program.{Program}
pub use Rattle.sqlite_schema.specs.declared.schema.Schema.{Schema}
pub use Rattle.sqlite_schema.specs.declared.schema.Table.{Table}
pub use Rattle.sqlite_sql.specs.Program.{overlay}
pub use Rattle.sqlite_sql.specs.Query.{IsAnswer, Output, Query, as_count, end, inner, limited, output, output_cmp}
pub use Rattle.sqlite_sql.specs.Term.{Env, Term, col, eval, eval_all, holds, lit, op2}
unfoldable pub use Rattle.sqlite_tied.specs.Compute.{everything}
pub use Rattle.sqlite_trees.specs.Tree.{IsAscending, Trees, has_rowid, put_row, rowid, without_rowid}
pub use Rattle.sqlite_trees.specs.declared.store.Store.{Ghosts}
pub use Rattle.sqlite_value.proofs.OrderLemmas.{then-Equal, value_cmp-Blob, value_cmp-Int}
pub use Rattle.sqlite_value.specs.Order.{Row, bytes, column, value_cmp}
pub use Rattle.sqlite_value.specs.declared.keys.Collation.TheVariants.{Binary}
pub use Rattle.sqlite_value.specs.declared.keys.Key.{Key}
pub use Rattle.sqlite_value.specs.declared.value.Value.{Value}
pub use Rattle.sqlite_value.specs.declared.value.Value.TheVariants.{Blob, Int, Null, Real, Text}
pub use Rattle.std.proofs.Common.{Bool, Equal, Err, Greater, IfErr, IfOk, IsPermutation, IsSome, IsTrue, Less, List, MatchBool, MatchOption, None, Ok, OnOk, Option, Ordering, Result, Some, [], ap, append-nil, append_assoc, ap₂, arith, bytes_eq, codes, cond, drop, eqb, eqb-true, false, filter, find, flat_map, fold, if◌then◌else◌, inl, inr, int_cmp, int_eq, int_lt, is_eq, is_gt, is_lt, is_some, length, length-append, map, nat_cmp, nat_le, negsuc, not, option_map, option_to_list, pos, refl, rules, slice_get, subst, subst₂, suc, sym, true, ℕ, ℤ, ◌&&◌, ◌++◌, ◌+ℤ◌, ◌+◌, ◌-◌, ◌/◌, ◌<ℤ◌, ◌<◌, ◌^◌, ◌||◌, ◌∙◌, ◌∷◌, ◌≡◌, ◌≢◌, ◌≤◌, ◌⊎◌}
pub use Rattle.std.proofs.Math.Logic.{∥∥₁_map}
pub use Rattle.std.proofs.lemmas.Bool.{and_from, and_left, and_parts, both_ways, cases_Bool, cond_both, false_from_ne_true, not-true, not_from_false}
pub use Rattle.std.proofs.lemmas.Bool.Decides.{Decides-int_eq, eqb_tells, nat_tests}
pub use Rattle.std.proofs.lemmas.Cmp.{nat_cmp_total, nat_list_cmp_total, on_total, upto}
pub use Rattle.std.proofs.lemmas.Int.{ints}
pub use Rattle.std.proofs.lemmas.List.{length-map, map-append}
pub use Rattle.std.proofs.lemmas.List.Sorted.{IsPermutation-map, IsPermutation-refl, length_permutation, list_any-IsPermutation, sum_by-IsPermutation}
pub use Rattle.std.proofs.lemmas.Map.Text.{is_eq-slice_cmp}
pub use Rattle.std.proofs.lemmas.Slice.Eq.{bytes_eq-Decides}
pub use Rattle.std.specs.Cmp.{Equal-is, IsTotalOrder, eq_by_cmp_equiv}
pub use Rattle.std.specs.Cmp.Lexicographic.{slice_cmp}
pub use Rattle.std.specs.FinMap.{FinMap, IsAntisymmetric, from_entries, get, get-from_entries, nat_cmp-IsAntisymmetric, same_map, slice_cmp-IsAntisymmetric}
pub use Rattle.std.specs.List.{AllByRecursion, list_all, list_any}
pub use Rattle.std.specs.Ordering.{eq_by_cmp, match_ordering, ordering_reverse, ordering_then}
pub use Rattle.std.specs.Prelude.{IsUtf8, ◌↔◌}
pub use Rattle.store.proofs.Contents.{with_all-append}
pub use Rattle.store.proofs.Lawfuls.{lawful_by_one, lawful_empty, lawful_insert, lawful_local, lawful_remove, lawful_secured}
pub use Rattle.store.specs.Contents.{AreAcceptable, Contents, IsAcceptable, new_database, with_local, with_security}
pub use Rattle.store.specs.Database.{Document, DocumentWrite, TextMap, history_at, with_all, with_one}
pub use Rattle.store.specs.DatabaseName.{is_database_name}
pub use Rattle.store.specs.Lawful.{AllEndAtLast, AreLawful, EndsAtLast, HasLast, IsBody, IsLocalDocument}
pub use Rattle.store.specs.Pages.{SequenceRow, document_counts, gone_count, in_sequence, is_gone_by, live_count, live_rev, live_rev_by, put_in_sequence, rows_of, with_row}
pub use Rattle.store.specs.Writing.{Addition, written_in}
pub use Rattle.store.specs.declared.local_document.LocalDocument.{LocalDocument}
pub use Rattle.store.specs.declared.listing.IdRow.{IdRow}
pub use Rattle.tables.specs.Calls.{Reads, ReadsInside}
pub use Rattle.tables.specs.Edits.{AreInserted, HasWritten, IsStorable, IsWritable, IsWrite, history_after, history_before, new_entries, row_after, with_revisions}
pub use Rattle.tables.specs.Layout.{AreDatabaseRows, AreDocumentRows, AreKeyed, AreNumbered, IsDatabaseNumber, IsDatabaseRow, IsDocumentRow, IsEmpty, IsFirstStore, IsKeyed, IsWellFormed, IsLaidAt, IsLocalRow, IsNew, IsRenewed, IsRevisionRow, IsStore, database_row_at, version_row}
pub use Rattle.tables.specs.Listings.{IsListedDocument, comes_after, first_rows, leaves_row, listed_counts, listed_id, listed_mark, live_row, live_rows, sequence_row}
pub use Rattle.tables.specs.Presence.{has_all, shown_version, version_in, version_shown}
pub use Rattle.tables.specs.Rows.{body_cell, by_id, by_name, by_sequence, contents_in, count_cell, count_in_cell, database_cells, database_of_row, database_row, db_of, document_cells, document_of_row, document_row, documents_in_rows, entry_of, flag, given_cells, has_number, history_in_rows, id_of, is_gone_row, is_held, is_row_of_database, is_held_deleted, is_named, is_row_of_document, is_revision_of, is_set, json_in_cell, sequence_of_database, listed_document, local_cells, local_of, local_row, locals_in, name_of, next_number, number_of, parent_cell, parent_in, revision_cells, revision_of_row, revision_row, row_at_sequence, row_with_security, row_with_winner, rows_at_sequence, rows_with_document, rows_with_security, rows_with_winner, security_of, security_text, sequence_of_row, shown_database, shown_document, shown_hash, shown_local, shown_name, shown_outline, shown_revision, text_cell, read_or_null, whole_in_cell, winner_text, with_cells}
pub use Rattle.tables.specs.Schema.{dbs_table, dbs_tree, docs_table, docs_tree, locals_table, locals_tree, meta_table, meta_tree, revs_table, revs_tree, schema, decls_table, decls_tree, entries_table, entries_tree}
pub use Rattle.tables.specs.Shown.{IsCount, IsShownDatabase, IsShownDocument, IsShownHash, IsShownLocal, IsShownOutline, IsShownRevision, SpellsJson, SpellsParentOf, SpellsRevision}
pub use Rattle.tables.specs.Steps.{AddsTable, Asks, AsksInside, Changes, OnlyLooks, Proceeds, Ran}
pub use Rattle.tree.proofs.Contents.{entry_kept, find-append, get-with_entries, or, write_shows}
pub use Rattle.tree.proofs.Kept.{Node, revision_cmp_total}
pub use Rattle.tree.proofs.RevisionText.{IsUtf8-revision, parts, read_of_text}
pub use Rattle.tree.proofs.Revisions.{revision_cmp_exact, same, tied}
pub use Rattle.tree.proofs.Shown.{inside, right_some, stands_found, whole_counts}
pub use Rattle.tree.specs.DocumentId.{is_document_id}
pub use Rattle.tree.specs.History.{HistoryContent, IsBetter, ancestors_of_parent, held_of, is_deleted, is_known, is_leaf, leaves, path_entries, placement, winner, with_entries, with_write, write_entries}
pub use Rattle.tree.specs.Nodes.{entries_before, next_of}
pub use Rattle.tree.specs.Revision.{Revision, greatest_number, is_revision, revision_cmp, revision_read, text_of}
pub use Rattle.tree.specs.Write.{StandsIn, counts_down, head, held_of_write}
pub use Rattle.tree.specs.declared.entry.Entry.{Entry}
