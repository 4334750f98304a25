-- The names that most proofs of this crate cite, passed on from one place. Declares nothing.
pub use Rattle.sqlite.proofs.Callers.{memory_is_clean}
pub use Rattle.sqlite_trees.specs.Props.{Trees-set, rows_set}
pub use Rattle.sqlstore.specs.inner.Listing.{AreEnoughBySequence, IsLimitFor, IsSequenceRow, listed_by_id, listed_by_sequence, page_with_leaves, winners_page, with_leaves}
pub use Rattle.sqlstore.specs.Model.{Answers, ChangesWhole, Finds, Moves, OnlyReads, Stands, contents_of, is_clean, is_honest, trees_of}
pub use Rattle.sqlstore.specs.inner.Reading.{FoundValues, HasNumber, IsShownName, NumberValues, at_sequence, found_in, found_shown, known_values, name_shown, numbers_in}
pub use Rattle.sqlstore.specs.Standing.{Holds, IsHeld, IsKnown, IsStanding, WasStore}
pub use Rattle.sqlstore.specs.declared.known_database.DatabaseNumbers.{DatabaseNumbers}
pub use Rattle.sqlstore.specs.declared.known_database.KnownDatabase.{KnownDatabase}
pub use Rattle.sqlstore.specs.declared.sql_store.SqlStore.{SqlStore}
pub use Rattle.std.proofs.Common.{Global, IfSome, Vec, is_le, nat_lt, reverse, zero}
pub use Rattle.std.proofs.Math.Logic.{∥∥₁_prop}
pub use Rattle.std.proofs.lemmas.List.{drop_all, drop_more, get_or-map}
pub use Rattle.std.proofs.lemmas.List.Sorted.{IsPermutation-sym}
pub use Rattle.std.specs.Coded.{Coded, code_by, coded_bool, coded_list, coded_ℕ, coded_ℤ, coded×}
pub use Rattle.std.specs.FinMap.{code, insert, remove}
pub use Rattle.std.specs.List.{All, count_by, take-map}
pub use Rattle.store.specs.Contents.{IfThere, local_at}
pub use Rattle.store.specs.DatabaseName.{is_name_byte}
pub use Rattle.store.specs.Indexes.{IndexPlace, index_fields_of, index_over, index_rows, place_code, put_in_index, queried_document}
pub use Rattle.store.specs.KeyPages.{KeyPage, key_page, page_of_keys}
pub use Rattle.store.specs.Pages.{IdPage, SequencePage, id_page, if_counted, in_direction, is_after_end_of, is_before_start_of, is_within, last_sequence, later_rows, page_by_sequence, page_of_ids, row_counts, rows_within, sequence_page, up_to_limit}
pub use Rattle.store.specs.PageStructs.{id_page_of, sequence_page_of, sequence_row_of, sequence_rows}
pub use Rattle.store.specs.Plain.{place_views}
pub use Rattle.store.specs.declared.listing.SeqRange.{SeqRange}
pub use Rattle.store.specs.declared.listing.SeqRow.{SeqRow}
pub use Rattle.tables.proofs.Common.{Addition, all-slice_get, any_is_found, has_number, inside, AllByRecursion, AreAcceptable, Asks, Bool, Changes, Contents, Database, Document, Equal, Err, Error, Ghosts, Greater, HasCleanDisk, HasWritten, Held, HistoryContent, IdRow, IfErr, IfOk, IsBody, IsDatabaseRow, IsDocumentRow, IsWellFormed, IsLawful, IsListedDocument, IsPermutation, IsPermutation-sort_by, IsShownDatabase, IsShownLocal, IsStore, IsTrue, Less, List, LocalDocument, None, Ok, OnOk, OnlyLooks, Option, Ordering, Reads, Result, Revision, Row, Schema, SequenceRow, Some, TextMap, Trees, [], all-filter, all_both, all_map, all_weaker, and_parts, ap, append-nil, ap₂, arith, by_id, by_name, by_sequence, canonical, closed_security, column, comes_after, cond, contents_in, database_cells, database_of_row, db_of, dbs_tree, docs_tree, document_counts, document_of_row, drop, false, filter, filter-filter, filter-map, filter_all, filter_same, find, first_rows, get, has_all, history_at, history_in_rows, id_of, in_sequence, inl, inr, int_lt, ints, is_database_name, is_document_id, is_row_of_database, is_lt, is_named, is_row_of_document, is_security, is_some, leaves_row, length, length-map, sequence_of_database, list_all, list_any, listed_counts, listed_document, listed_id, listed_mark, live_row, live_rows, local_of, locals_tree, map, map-append, map-map, meta_tree, name_of, nat_cmp, nat_list_cmp_total, nat_tests, negsuc, new_database, next_number, not, number_of, on_total, option_map, ordering_reverse, pos, refl, revs_tree, rows_of, rows_with_security, rules, same_int, schema, sequence_of_row, sequence_row, shown_database, shown_local, shown_name, shown_revision, slice_cmp, slice_get, sort_by, state, subst, suc, sym, true, with_all, with_cells, with_local, with_security, ℕ, ℤ, ∥∥₁_map, ◌&&◌, ◌++◌, ◌+◌, ◌-◌, ◌<◌, ◌^◌, ◌||◌, ◌∙◌, ◌∷◌, ◌≡◌, ◌≢◌, ◌≤◌, ◌⊎◌}
pub use Rattle.tables.specs.Listings.{listed_sequence, listed_winner}
pub use Rattle.tables.specs.Presence.{has_any}
pub use Rattle.tables.specs.Shown.{local_shown}
pub use Rattle.transactions.specs.declared.commit_fault.CommitFault.{CommitFault}
pub use Rattle.transactions.proofs.Common.{AreDue, Clears, Coded-set, Damaged, Exists, Failed, Full, IsRead, IsSound, IsUnwritten, Memory, NoDatabase, OnErr, Replaces, StoreFault, addition_of, additions, coded_option, content_code, get_or, take, to_z-of_z, w64, writings_in, ∥∥₁_elim}
pub use Rattle.transactions.specs.Reading.{IsLost}
pub use Rattle.tree.specs.Revision.{revision_code}
