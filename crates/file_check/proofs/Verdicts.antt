-- What a verdict of a check says of a connection.
use Rattle.tables.proofs.Common.{Database, Ghosts, Held, IsTrue, None, Ok, OnOk, Option, Result, Trees, ap, schema, state, subst, sym, ◌∙◌, ◌≡◌}
use Rattle.sqlite.specs.State.{HasCleanDisk, IsLive}
use Rattle.sqlite_catalog.specs.Listing.{IsSound}
use Rattle.std.proofs.Common.{IfOk, Some, refl}
use Rattle.sqlite_keyed.proofs.ListLemmas.{all_weaker}
use Rattle.index.specs.Layout.{IsDeclarationRow}
use Rattle.index.specs.Rows.{declaration_row, design_of, database_of_declaration, index_name_of_row}
use Rattle.tables.specs.Rows.{number_of}
use Rattle.tables.specs.Schema.{decls_tree}
use Rattle.transactions.specs.Indexing.{IsCommittedStore, IsIndexedStore}
use Rattle.file_check.specs.Checks.{Checks, IsSame}
use Rattle.file_check.specs.Counting.{CountsRows}
use Rattle.file_check.specs.Indexes.{AreIndexesChecked, HasDeclarationCells, IsCheckable, IsIndexFinding}
use Rattle.file_check.specs.Inspecting.{Goes, Inspects}
use Rattle.file_check.specs.Tables.{IsRestingStore, IsShaped}
use Rattle.file_check.specs.Verdicts.{AreAllKept}
use Rattle.file_check.specs.declared.finding.CheckFault.{CheckFault}
use Rattle.file_check.specs.inner.Counted.{HasOurSchema}
use Rattle.file_check.specs.declared.finding.Counts.{Counts}
use Rattle.file_check.specs.declared.finding.Finding.{Finding}
use Rattle.file_check.proofs.Accounts.{on_ok, same_then, unchanged_same}
use Rattle.file_check.proofs.IndexCells.{index_cells}
use Rattle.file_check.proofs.IndexRows.{not_indexed, own_text}
use Rattle.file_check.proofs.Stores.{IsStoreChecked}

abbrev pub Found : Type 0
Found = Result (Option Finding) CheckFault

-- where nothing is found in the tables
module _ {S : Type 0} (g : Ghosts S) (old mid : Held S) (tables : Found) (none : tables ≡ Ok None) (kept : AreAllKept (state g old).now.trees) (live : IsLive (state g old)) (ours : IfOk tables (λ found. found ≡ None → old.schema ≡ schema))
    (sound : HasCleanDisk (state g mid) → old.schema ≡ schema → IfOk tables (IsStoreChecked (state g old).now)) (served : HasCleanDisk (state g mid) → IfOk tables (λ found. found ≡ None → IsTrue (state g old).is_open))
    (stays : HasCleanDisk (state g mid) → OnOk tables (IsSame (state g old) (state g mid))) where
  has : old.schema ≡ schema
  has = (subst (λ (r : Found). IfOk r (λ found. found ≡ None → old.schema ≡ schema)) none ours) refl

  same_tables : HasCleanDisk (state g mid) → IsSame (state g old) (state g mid)
  same_tables clean = subst (λ r. OnOk r (IsSame (state g old) (state g mid))) none (stays clean)

  -- the tables are those of a store between two calls
  pub resting : HasCleanDisk (state g mid) → IsRestingStore (state g old).now
  resting clean = subst (λ r. IfOk r (IsStoreChecked (state g old).now)) none (sound clean has)

  -- the rows of indexes can be checked
  can_check : HasCleanDisk (state g mid) → IsCheckable (state g old).now
  can_check clean =
      let up = (subst (λ (r : Found). IfOk r (λ found. found ≡ None → IsTrue (state g old).is_open)) none (served clean)) refl in
      record {
        store = (resting clean).store;
        cells = index_cells (state g old).now has (subst (λ s. IsSound s (state g old).now.trees) has (live up).0) kept.decls kept.entries;
      }

  module _ (after : Held S) (indexes : Found) (checks : Checks g IsCheckable mid after AreIndexesChecked indexes) where
    fit : HasCleanDisk (state g mid) → IsCheckable (state g mid).now
    fit was = subst IsCheckable (sym (same_tables was).now) (can_check was)

    -- whatever is found in the rows of indexes
    pub same_indexes : HasCleanDisk (state g after) → OnOk indexes (IsSame (state g old) (state g after))
    same_indexes clean =
        let was = checks.asks.clean clean in
        on_ok indexes (same_then (state g old) (state g mid) (state g after) (same_tables was)) (checks.stays clean (fit was))

    -- nothing is found there, and the rows are counted
    module _ (new : Held S) (none' : indexes ≡ Ok None) (counts : Counts) (counted : Inspects g HasOurSchema after new CountsRows (Ok counts)) where
      same_after : HasCleanDisk (state g after) → IsSame (state g old) (state g after)
      same_after clean = subst (λ r. OnOk r (IsSame (state g old) (state g after))) none' (same_indexes clean)

      has_after : HasCleanDisk (state g after) → after.schema ≡ schema
      has_after clean = ap (λ (d : Database). d.schema) (same_after clean).now ∙ has

      pub same_all : HasCleanDisk (state g new) → IsSame (state g old) (state g new)
      same_all clean =
          let was = counted.asks.clean clean in
          same_then (state g old) (state g after) (state g new) (same_after was) (unchanged_same (state g after) (state g new) (counted.stands (has_after was) clean))

      pub rows_counted : HasCleanDisk (state g new) → CountsRows (state g old).now.trees counts
      rows_counted clean =
          let was = counted.asks.clean clean in
          subst (λ (d : Database). CountsRows d.trees counts) (same_after was).now (counted.found clean (has_after was))

      pub committed_store : HasCleanDisk (state g new) → IsCommittedStore (state g old).now
      committed_store clean =
          let was = counted.asks.clean clean in
          let before = checks.asks.clean was in
          let told = (subst (Checks g IsCheckable mid after AreIndexesChecked) none' checks).tells was (fit before) in
          record { rows = subst IsIndexedStore (same_tables before).now (record { store = (fit before).store; indexed = told }); ends = (resting before).ends }

-- what SQLite keeps of the rows of indexes those of a store have
checkable : (d : Database) → IsIndexedStore d → IsCheckable d
checkable d k = record {
  store = k.store;
  cells = record {
    schema_is = k.store.schema_is;
    decls = record {
      each = all_weaker IsDeclarationRow HasDeclarationCells (λ r h. h.is ∙ ap (declaration_row (number_of r) (database_of_declaration r) (design_of r) (index_name_of_row r)) (sym (own_text r h))) (d.trees decls_tree) k.indexed.decls.each;
      rising = k.indexed.decls.rising;
      apart = k.indexed.decls.apart;
    };
    entries = k.indexed.entries.laid;
  };
}

-- where nothing is found in the tables, but a row in those of indexes
module _ {S : Type 0} (g : Ghosts S) (old mid new : Held S) (tables indexes : Found) (Is : Trees → Option Finding → Type 0) (f : Finding) (none : tables ≡ Ok None) (some : indexes ≡ Ok (Some f)) (clean : HasCleanDisk (state g new))
    (served : HasCleanDisk (state g mid) → IfOk tables (λ found. found ≡ None → IsTrue (state g old).is_open)) (goes : Goes g IsShaped old mid Is tables) (checks : Checks g IsCheckable mid new AreIndexesChecked indexes) where
  was_clean : HasCleanDisk (state g mid)
  was_clean = checks.asks.clean clean

  was_open : IsTrue (state g old).is_open
  was_open = (subst (λ (r : Found). IfOk r (λ found. found ≡ None → IsTrue (state g old).is_open)) none (served was_clean)) refl

  told : old.schema ≡ schema → IsCheckable (state g old).now → IsIndexFinding (state g old).now.trees f
  told has fit =
      let still = (subst (Goes g IsShaped old mid Is) none goes).stands has was_clean was_open in
      let found = (subst (Checks g IsCheckable mid new AreIndexesChecked) some checks).tells clean (subst IsCheckable (sym still.0.now_is) fit) in
      subst (λ (d : Database). IsIndexFinding d.trees f) still.0.now_is found

  -- they are not those of a store
  pub index_refuted : ¬ IsCommittedStore (state g old).now
  index_refuted k = let rows = k.rows in not_indexed (state g old).now.trees f (told rows.store.schema_is (checkable (state g old).now rows)) rows.indexed

  -- and the row is named
  pub index_named : old.schema ≡ schema → AreAllKept (state g old).now.trees → IsLive (state g old) → ((found : Option Finding) → tables ≡ Ok found → HasCleanDisk (state g mid) → IsStoreChecked (state g old).now found)
      → IsIndexFinding (state g old).now.trees f
  index_named has kept live sound =
      told has (record { store = (sound None none was_clean).store; cells = index_cells (state g old).now has (subst (λ s. IsSound s (state g old).now.trees) has (live was_open).0) kept.decls kept.entries })
