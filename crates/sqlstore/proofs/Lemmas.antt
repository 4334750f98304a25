-- The same for answers, with the lemmas of this crate. Declares nothing.
pub use Rattle.sqlstore.proofs.Afterwards.{afterwards, stands_same}
pub use Rattle.sqlstore.proofs.Answering.{absent, also, answered, answered_unordered, database_read, known_so, laid, local_intact, local_there, missing, not_found, reads, refused, security_intact, security_there, stands_then, there, told_none, was_honest}
pub use Rattle.sqlstore.proofs.Changing.{moves_then, none_if, on_ok, same_contents, stands, stands_knowing, told, told_knowing, unchanged, undone, undone_knowing, whole}
pub use Rattle.sqlstore.proofs.Common.{AllByRecursion, Answers, AreDue, Bool, Database, DatabaseNumbers, Err, FoundValues, Full, Global, Held, HistoryContent, IdPage, IdRow, IfThere, IsBody, IsKnown, IsLawful, IsListedDocument, IsPermutation, IsRead, IsSequenceRow, IsStore, IsTrue, KeyPage, KnownDatabase, List, LocalDocument, None, Option, SeqRow, SequencePage, Some, Trees, Vec, [], addition_of, additions, ap, arith, at_sequence, by_id, by_name, canonical, comes_after, contents_in, contents_of, dbs_tree, drop, drop_more, false, filter, first_rows, found_in, has_all, has_any, history_at, history_in_rows, id_page, id_page_of, if_counted, index_fields_of, inr, inside, is_named, is_row_of_document, is_some, key_page, known_values, length, length-map, listed_by_id, listed_by_sequence, listed_id, live_rows, local_at, locals_tree, map, map-append, map-map, meta_tree, not, numbers_in, option_map, page_by_sequence, page_of_ids, page_of_keys, page_with_leaves, place_views, put_in_index, queried_document, refl, revs_tree, rows_set, rules, sequence_page, sequence_page_of, sequence_row, sequence_row_of, sequence_rows, shown_database, shown_local, shown_name, shown_revision, slice_get, sort_by, state, subst, sym, to_z-of_z, trees_of, true, w64, winners_page, with_leaves, ℕ, ∥∥₁_elim, ∥∥₁_map, ∥∥₁_prop, ◌++◌, ◌+◌, ◌<◌, ◌^◌, ◌∙◌, ◌∷◌, ◌≡◌, ◌≤◌}
pub use Rattle.sqlstore.proofs.ContentsCode.{contents_set, found_set, some_contents_set}
pub use Rattle.sqlstore.proofs.Enough.{if_enough_by_sequence}
pub use Rattle.sqlstore.proofs.FoundPages.{bounded_there, found_at, found_then, history_there, id_page_there, leaves_there, outline_there, revision_there, winner_there, winners_there}
pub use Rattle.sqlstore.proofs.ListedRows.{all_done, below_again, listed_intact, one_more, sequences_intact}
pub use Rattle.sqlstore.proofs.Making.{HasLocal, IsAdded, IsRemoved, IsSecured, IsWritten, adds, adds_beside, advances, appends, appends_beside, clears, clears_beside, known_after, put_beside, put_known, puts, secures, secures_beside}
pub use Rattle.sqlstore.proofs.NameBytes.{name_is_text, names_intact, names_set, names_there}
pub use Rattle.sqlstore.proofs.Standing.{dropped, finds, finds_fit, finds_index_rows, finds_rows, forgotten, kept_before, found, indexed_store, same_trees, still}
pub use Rattle.tables.proofs.Laid.{nothing}
pub use Rattle.transactions.proofs.HistoryRows.{history_intact, history_made, history_set, outline_intact, outline_made}
pub use Rattle.sqlstore.proofs.LeafRows.{hashes_intact, leaf_rows_lost, path_end_alone, revs_set}
pub use Rattle.transactions.proofs.OneRevision.{entry_set, revision_found, revision_intact}
pub use Rattle.transactions.proofs.WinningRows.{documents_intact, winner_found, winner_set}
