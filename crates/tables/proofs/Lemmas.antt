-- The same for answers, with the lemmas of this crate. Declares nothing.
pub use Rattle.tables.proofs.Common.{Blob, Err, Error, FailsToQuery, IfErr, IfOk, IsRolledBack, IsUnchanged, List, None, Ok, OnOk, Option, Result, Row, Shown, Some, State, Text, ap, as_text, [], dbs_table, docs_table, document_cells, Int, local_cells, given_cells, ◌∷◌, has_all, has_number, HasCleanDisk, arith, decls_table, entries_table, inl, locals_table, meta_table, refl, revs_table, rules, schema, state, version_in, version_shown, understood, ℕ, ◌∙◌, ◌≡◌, ◌⊎◌}
pub use Rattle.tables.proofs.DatabaseStatements.{advances_database, advances_stay, cast_database, database_is, deletes_database, finds_database, inserts_database, lists_names, names_are, secures_database, secures_stay, tests_number}
pub use Rattle.tables.proofs.Deletes.{clears, deletes_id, deletes_where, empties}
pub use Rattle.tables.proofs.DocumentStatements.{document_advance_stays, advances_document, cast_document, clears_documents, document_is, finds_document, inserts_document, later_are, lists_by_sequence, lists_later, sequences_are}
pub use Rattle.tables.proofs.DocumentWrites.{acceptable_in_turn, none_written, one_more_written}
pub use Rattle.tables.proofs.Finds.{alters, reads_inside, reads_nothing, reads_of, reads_so, shown_given}
pub use Rattle.tables.proofs.KnownRevisions.{known_are_revisions}
pub use Rattle.tables.proofs.Laid.{ours_has_all, shown_databases, shown_hashes, shown_locals, shown_outlines, shown_revisions}
pub use Rattle.tables.proofs.ListingRows.{documents_by_id, leaves_by_sequence, winners_by_sequence}
pub use Rattle.tables.proofs.LiveStatements.{counts_marked, lists_live_down, lists_live_up, live_down_are, live_up_are, marked_is}
pub use Rattle.tables.proofs.LocalStatements.{cast_local, clears_locals, deletes_local, finds_local, inserts_local, local_is}
pub use Rattle.tables.proofs.MetaStatements.{cast_version, clears_version, finds_version, inserts_version, shows_version, version_is}
pub use Rattle.tables.proofs.Numbered.{numbered_from_keyed}
pub use Rattle.tables.proofs.RevisionStatements.{cast_revision, clears_revisions, finds_hashes, finds_one_outline, finds_one_revision, finds_outline, finds_revisions, hash_is, inserts_revision, one_outline_is, one_revision_is, outline_is, revisions_are}
pub use Rattle.tables.proofs.Single.{inserts_row}
pub use Rattle.tables.proofs.Stays.{asks, looks, query_fails, query_stands, served}
pub use Rattle.tables.proofs.Tables.{dbs_plain, decls_plain, docs_plain, entries_plain, locals_plain, meta_plain, numbered_databases, revs_plain}
pub use Rattle.tables.proofs.Writes.{delete_stays, insert_stays}
pub use Rattle.tables.proofs.Renewed.{clears_declarations, clears_entries, renewed_if}
pub use Rattle.tables.proofs.PlaceStatements.{between_is, lists_between}
