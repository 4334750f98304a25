-- A file whose rows are all sound is a store.
use Rattle.tables.proofs.Common.{AllEndAtLast, Database, Err, Ghosts, HasCleanDisk, Held, IfOk, IsWellFormed, IsTrue, contents_in, MatchOption, None, Ok, OnOk, Option, Result, Some, inl, inr, schema, state, subst, Trees, ◌≡◌}
use Rattle.std.specs.Prelude.{IfSome}
use Rattle.sqlite.specs.State.{IsLive}
use Rattle.sqlite_catalog.specs.Listing.{IsSound}
use Rattle.file_check.proofs.Assembled.{AreSound, is_laid}
use Rattle.file_check.proofs.Accounts.{on_ok, unchanged_same}
use Rattle.file_check.proofs.IndexRows.{never_fails}
use Rattle.file_check.proofs.Laid.{all_end, kept_where_laid, sound_where_laid}
use Rattle.file_check.proofs.Shaped.{are_shaped}
use Rattle.file_check.specs.Checks.{IsSame}
use Rattle.file_check.specs.Inspecting.{Inspects}
use Rattle.file_check.specs.Tables.{AreKept, AreShaped, AreSoundRows, AreTablesChecked, HasSoundLocals, IsRestingStore, IsShaped, IsSoundRow, IsTableFinding, table_of_finding, tree_of}
use Rattle.file_check.specs.declared.finding.CheckFault.{CheckFault}
use Rattle.file_check.specs.declared.finding.Finding.{Finding}
use Rattle.file_check.specs.declared.layout.checked.Checked.{Checked}
use Rattle.file_check.specs.declared.layout.checked.Checked.TheVariants.{Databases, Documents, Locals, Revisions}

-- tables whose rows are all sound are laid out
pub laid_where_sound : (trees : Trees) → AreShaped trees → HasSoundLocals trees → IsWellFormed trees × AllEndAtLast (contents_in trees)
laid_where_sound trees shaped all =
    let sound : AreSound trees = record { dbs = all.before.before.before.dbs; docs = all.before.docs; revs = all.before.before.revs; locals = all.locals } in
    let laid = is_laid trees shaped sound all.before.before.before.version in
    (laid, all_end trees laid sound.dbs)

-- where a row is found that is not sound, they are not
pub unlaid_where_found : (db : Database) (f : Finding) → IsTableFinding db.trees f → ¬ IsRestingStore db
unlaid_where_found db f (inl version) h = version.fails h.store.laid.version
unlaid_where_found db f (inr (of, row)) h = let trees = db.trees in never_fails (table_of_finding of) (trees (tree_of of)) (IsSoundRow of trees) f (all of) row
  where
    sound : HasSoundLocals db.trees
    sound = sound_where_laid db.trees h.store.laid h.ends

    all : (table : Checked) → AreSoundRows table db.trees
    all Databases = sound.before.before.before.dbs
    all Documents = sound.before.docs
    all Revisions = sound.before.before.revs
    all Locals = sound.locals

abbrev pub IsStoreChecked : Database → Option Finding → Type 0
IsStoreChecked d found = MatchOption found (IsRestingStore d) (IsTableFinding d.trees)

module _ {S : Type 0} (g : Ghosts S) (old new : Held S) (live : IsLive (state g old)) (clean : HasCleanDisk (state g new)) where
  shaped : old.schema ≡ schema → AreKept (state g old).now.trees → IsTrue (state g old).is_open → IsShaped (state g old).now
  shaped has kept up = record { schema_is = has; shaped = are_shaped (state g old).now.trees (subst (λ s. IsSound s (state g old).now.trees) has (live up).0) kept }

  pub store_found : old.schema ≡ schema → AreKept (state g old).now.trees → (result : Result (Option Finding) CheckFault) → Inspects g IsShaped old new (AreTablesChecked HasSoundLocals) result → IfOk result (IsStoreChecked (state g old).now)
  store_found has kept (Err e) h = tt
  store_found has kept (Ok (Some f)) h = h.found clean (shaped has kept (h.served clean))
  store_found has kept (Ok None) h =
      let fit = shaped has kept (h.served clean) in
      let sound = laid_where_sound (state g old).now.trees fit.shaped (h.found clean fit) in
      record { store = record { schema_is = has; laid = sound.0 }; ends = ∣ sound.1 ∣₁ }

  -- where something is found they are not those of a store, whatever the schema is
  pub store_refuted : (result : Result (Option Finding) CheckFault) → Inspects g IsShaped old new (AreTablesChecked HasSoundLocals) result → IfOk result (λ found. IfSome found (λ f. ¬ IsRestingStore (state g old).now))
  store_refuted (Err e) h = tt
  store_refuted (Ok (Some f)) h =
      λ resting. let store = resting.store in unlaid_where_found (state g old).now f (h.found clean (shaped store.schema_is (kept_where_laid (state g old).now.trees store.laid) (h.served clean))) resting
  store_refuted (Ok None) h = tt

  -- it is open
  pub tables_served : (result : Result (Option Finding) CheckFault) → Inspects g IsShaped old new (AreTablesChecked HasSoundLocals) result → IfOk result (λ found. found ≡ None → IsTrue (state g old).is_open)
  tables_served (Err e) h = tt
  tables_served (Ok found) h = λ none. h.served clean

-- what reads at this server's schema leaves the connection as it was
pub reads_stay : {S X : Type 0} (g : Ghosts S) (old new : Held S) {F : Database → Type 0} {Is : Trees → X → Type 0} (r : Result X CheckFault) → old.schema ≡ schema → HasCleanDisk (state g new) → Inspects g F old new Is r → OnOk r (IsSame (state g old) (state g new))
reads_stay g old new r has clean h = on_ok r (unchanged_same (state g old) (state g new)) (h.stands has clean)
