-- The same for answers, with the lemmas of this crate. Declares nothing.
pub use Rattle.tables.proofs.DocumentWrites.{none_written}
pub use Rattle.tables.proofs.Stays.{keeps_itself, proceeds_then}
pub use Rattle.tables.proofs.Tables.{docs_keyed, locals_keyed, revs_keyed}
pub use Rattle.transactions.proofs.Committing.{asks_changed, asks_itself, asks_then, best_in_turn, document_written, further, further_followed, history_of, may_in_turn, own_serves, history_read, lost, on_err, refused_then, undone_then, unwritten_of}
pub use Rattle.transactions.proofs.Common.{AreDue, AreKeyed, AreStored, Clears, CommitFault, Database, Err, HasBest, HasCleanDisk, HasWritten, Held, HistoryContent, IfErr, IsBest, IsHeldOpen, IsPermutation, IsPlaced, IsSound, IsStore, IsTrue, IsUnwritten, KeepsCommit, Ok, OnOk, Replaces, Result, Some, addition_of, additions, ap, arith, ancestors_of_parent, database_of_row, entries_of, filter, history_in_rows, history_shown, history_with, is_row_of_document, keeps_then, map, next_of, not, number_of, refl, revs_tree, rules, shown_revision, slice_get, state, string_bytes, subst, sym, take_all, take_rest, to_z-of_z, unknown_in, w64, with_addition, with_write, writings_in, written_in, ⊤, ◌++◌, ◌+◌, ◌∙◌, ◌≡◌}
pub use Rattle.transactions.proofs.HeldHistories.{none_held, put_again, stored_further}
pub use Rattle.transactions.proofs.HistoryRows.{history_intact}
pub use Rattle.transactions.proofs.Inserting.{path_inserted, path_step, placed_new, placed_there}
pub use Rattle.transactions.proofs.Sequences.{Cleared, cleared, committed, dbs_fit, left_keyed, locals_fit, replaced, revs_fit}
pub use Rattle.transactions.proofs.OneRevision.{alone_is, entry_set, held_both, revision_found, revision_intact}
pub use Rattle.transactions.proofs.WinnerMarks.{lost_damaged, lost_of, outlines_intact, winner_has_mark, winner_known}
pub use Rattle.transactions.proofs.WinningRows.{documents_intact, never_written, parents_laid, winner_found}
pub use Rattle.transactions.proofs.HeldHistories.{left_within, with_within}
pub use Rattle.tree.proofs.Shown.{inside}
