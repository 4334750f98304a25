-- One write of a document, by the statements that were run for it.
use Rattle.transactions.proofs.Common.{Addition, AreDatabaseRows, AreInserted, Bool, Changes, Database, Entry, HistoryContent, IsBest, IsPlaced, IsStore, IsWrite, List, Revision, Row, ap, arith, dbs_tree, docs_tree, entries_of, history_in_rows, is_row_of_document, sequence_of_database, number_of, pos, revs_tree, rows_at_sequence, schema, subst, sym, text_of, unknown_in, with_addition, written_in, ℕ, ℤ, ◌+◌, ◌∙◌, ◌≡◌}
use Rattle.tables.proofs.DocumentWriteNews.{news_of_addition}
use Rattle.tables.proofs.DocumentWriteSteps.{revisions_changed}
use Rattle.tables.proofs.Rests.{leaves}
use Rattle.tables.proofs.Tables.{databases_laid, docs_keyed}
use Rattle.tables.specs.Layout.{AreDocumentRows}
use Rattle.tables.specs.Steps.{StaysInside}
use Rattle.transactions.proofs.Common.{HasCleanDisk, Proceeds, State}
use Rattle.std.specs.List.{list_any}
use Rattle.std.specs.Prelude.{is_some}
use Rattle.transactions.proofs.WinningRows.{has_row}
use Rattle.transactions.specs.inner.Following.{Serves}
use Rattle.transactions.specs.inner.Placed.{IsPlacedWrite}
use Rattle.tree.specs.History.{winner}

-- the statements of a write are that write, but for the one that moves the sequence, where the history serves in the place of that of the rows
pub placed_write : (k : HistoryContent) (a : Addition) (text : List ℕ) (deleted : Bool) (db sequence : ℤ) (old inserted new : Database) → Serves a (history_in_rows (old.trees revs_tree) db a.id) k → AreInserted (unknown_in k (entries_of k a)) db a.id old inserted
    → IsBest (with_addition k a) text deleted → IsPlaced db a.id sequence text deleted inserted new → IsPlacedWrite db sequence (written_in (history_in_rows (old.trees revs_tree) db a.id) a) old new
placed_write k a text deleted db sequence old inserted new serves revisions is_best document =
    let h = history_in_rows (old.trees revs_tree) db a.id in
    let best = serves.best text deleted is_best in
    let spelled : IsPlaced db a.id sequence (text_of best.best) deleted inserted new = subst (λ t. IsPlaced db a.id sequence t deleted inserted new) best.text_is document in
    let marked = subst (λ d. IsPlaced db a.id sequence (text_of best.best) d inserted new) best.deleted_is spelled in
    record {
      inserted = inserted;
      best = best.best;
      revisions = subst (λ es. AreInserted es db a.id old inserted) (serves.news ∙ sym (news_of_addition h a)) revisions;
      best_is = best.best_is;
      places = marked;
    }

-- and then the sequence of the database is moved
pub moved_write : (r : Row) (a : Addition) (db sequence : ℤ) (old mid new : Database) → db ≡ number_of r → sequence ≡ pos (sequence_of_database r + 1) → IsPlacedWrite db sequence (written_in (history_in_rows (old.trees revs_tree) db a.id) a) old mid
    → Changes dbs_tree (rows_at_sequence db sequence (mid.trees dbs_tree)) mid new → IsWrite r (written_in (history_in_rows (old.trees revs_tree) (number_of r) a.id) a) old new
moved_write r a db sequence old mid new numbered at write advances =
    let Write : ℤ → ℤ → Type 0 = λ d s. IsPlacedWrite d s (written_in (history_in_rows (old.trees revs_tree) d a.id) a) old mid in
    let Moved : ℤ → ℤ → Type 0 = λ d s. Changes dbs_tree (rows_at_sequence d s (mid.trees dbs_tree)) mid new in
    let placed = subst (λ d. Write d (pos (sequence_of_database r + 1))) numbered (subst (Write db) at write) in
    record {
      inserted = placed.inserted;
      placed = mid;
      best = placed.best;
      revisions = placed.revisions;
      best_is = placed.best_is;
      places = placed.places;
      advances = subst (λ d. Moved d (pos (sequence_of_database r + 1))) numbered (subst (Moved db) at advances);
    }

-- rows of the other tables are fit for the changes to come
module _ (es : List (Revision × Entry)) (db : ℤ) (id : List ℕ) (old inserted : Database) (store : IsStore old) (revisions : AreInserted es db id old inserted) where
  pub schema_after : inserted.schema ≡ schema
  schema_after = (revisions_changed es db id old inserted revisions).schema ∙ store.schema_is

  docs_stay : inserted.trees docs_tree ≡ old.trees docs_tree
  docs_stay = (leaves revs_tree _ old inserted store.schema_is (revisions_changed es db id old inserted revisions)).docs (omega arith)

  pub docs_fit : AreDocumentRows (inserted.trees docs_tree)
  docs_fit = subst AreDocumentRows (sym docs_stay) (record { keyed = docs_keyed old.trees store.laid; ids_apart = store.laid.ids_apart })

  -- the document has a row where its history had a winner
  pub row_there : list_any (is_row_of_document db id) (inserted.trees docs_tree) ≡ is_some (winner (history_in_rows (old.trees revs_tree) db id))
  row_there = ap (list_any (is_row_of_document db id)) docs_stay ∙ has_row old.trees db id store.laid

  module _ (sequence : ℤ) (text : List ℕ) (deleted : Bool) (placed : Database) (document : IsPlaced db id sequence text deleted inserted placed) where
    pub schema_placed : placed.schema ≡ schema
    schema_placed = document.schema ∙ schema_after

    pub dbs_fit : AreDatabaseRows (placed.trees dbs_tree)
    dbs_fit =
        let first = (leaves revs_tree _ old inserted store.schema_is (revisions_changed es db id old inserted revisions)).dbs (omega arith) in
        let second = (leaves docs_tree _ inserted placed schema_after document).dbs (omega arith) in
        subst AreDatabaseRows (sym (second ∙ first)) (databases_laid old.trees store.laid)

-- what goes on behind a statement goes on from before it
pub stays_on : (a b c : State) → Proceeds a b → Proceeds b c → (HasCleanDisk c → StaysInside b c) → HasCleanDisk c → StaysInside a c
stays_on a b c p q on clean =
    let was : HasCleanDisk b = omega (arith, q.survives.clean, clean) in
    let it = on clean in
    record { is_open = it.is_open; inside = it.inside; committed = it.committed ∙ (p.kept was).committed ((q.kept clean).was_open it.is_open) }
