-- The names that most proofs of this crate cite, passed on from one place. Declares nothing.
pub use Rattle.sqlite.specs.State.{KeepsCounts, Shows}
pub use Rattle.sqlite_keyed.proofs.ListLemmas.{IsPermutation-filter}
pub use Rattle.std.proofs.Common.{OnErr, get_or, string_bytes, take, to_z-of_z, w64}
pub use Rattle.std.proofs.Math.Logic.{∥∥₁_elim}
pub use Rattle.std.proofs.lemmas.List.{length-take, take-append-drop, take_all, take_more, take_rest}
pub use Rattle.std.specs.Coded.{coded_option}
pub use Rattle.std.specs.Prelude.{⊤}
pub use Rattle.store.proofs.Contents.{document_after, history_at-with_all, with_all-writings_in, writings_in-append}
pub use Rattle.store.proofs.Lawfuls.{has_winner}
pub use Rattle.store.specs.Plain.{with_addition}
pub use Rattle.store.specs.Writing.{addition_of, additions, writings_in, written_at}
pub use Rattle.store.specs.declared.fault.StoreFault.{StoreFault}
pub use Rattle.store.specs.declared.fault.StoreFault.TheVariants.{Damaged, Exists, Failed, Full, Memory, NoDatabase}
pub use Rattle.tables.proofs.Common.{Addition, AllByRecursion, AreAcceptable, AreDatabaseRows, AreInserted, AreKeyed, AsksInside, Bool, Changes, Database, Entry, Equal-is, Err, Error, HasCleanDisk, HasWritten, Held, HistoryContent, IfErr, IsAcceptable, IsAscending, IsWellFormed, IsPermutation, IsRolledBack, IsShownRevision, IsStorable, IsStore, IsTrue, IsWrite, KeepsCommit, List, None, Ok, OnOk, Option, Proceeds, Result, Revision, Row, Some, State, Trees, [], all-filter, all_map, ap, arith, ancestors_of_parent, bytes_eq-Decides, cond, contents_in, database_of_row, db_of, dbs_tree, docs_tree, document_cells, drop, entries_before, entry_of, eq_by_cmp, false, filter, has_number, head, history_at, history_in_rows, id_of, inl, inr, is_eq-slice_cmp, is_row_of_database, is_known, is_row_of_document, is_revision, keeps_then, lawful_by_one, length, length-append, length-map, sequence_of_database, local_cells, locals_tree, map, map-append, map-map, new_entries, next_of, not, number_of, option_map, pos, refl, revision_cells, revision_cmp, revision_cmp_exact, revision_cmp_total, revision_of_row, revs_tree, row_after, rows_at_sequence, rules, schema, shown_revision, slice_cmp, slice_get, state, subst, suc, sym, text_of, true, with_all, with_cells, with_entries, with_one, with_write, written_in, ℕ, ℤ, ◌++◌, ◌+◌, ◌<◌, ◌^◌, ◌∙◌, ◌∷◌, ◌≡◌, ◌≢◌}
pub use Rattle.tables.specs.Shown.{held_shown, parent_shown, revision_shown}
pub use Rattle.transactions.specs.Commits.{AreDue, IsSound, IsUnwritten, history_with}
pub use Rattle.transactions.specs.inner.Histories.{AreStored, IsHeldOpen, IsWith, IsWithin}
pub use Rattle.transactions.specs.inner.Inserting.{IsBest, IsLawfulAddition, IsOnTheWay, IsPlaced, entries_of, unknown_in}
pub use Rattle.transactions.specs.Reading.{HasBest, IsRead, entry_shown, history_shown, node_shown, outline_shown}
pub use Rattle.transactions.specs.Sequences.{Clears, Replaces}
pub use Rattle.transactions.specs.declared.commit_fault.CommitFault.{CommitFault}
pub use Rattle.tree.proofs.Contents.{rows_make}
pub use Rattle.tree.specs.History.{entry_of_row}
pub use Rattle.tree.specs.HistoryCode.{content_code}
pub use base.Stored.{Coded-set}
