-- What is found of an index, and of an entry.
use Rattle.std.proofs.Common.{◌≡◌, ◌||◌, Bool, true, false, cond, List, [], ◌∷◌, map, Option, Some, Result, Ok, Err, refl, sym, subst, IfOk, IfErr}
use Rattle.std.specs.List.{list_any}
use Rattle.std.specs.Prelude.{filter, find, is_some, option_map, slice_get}
use Rattle.sqlite.specs.Held.{Held, state}
use Rattle.sqlite.specs.State.{HasCleanDisk}
use Rattle.sqlite_trees.specs.Tree.{Trees}
use Rattle.sqlite_trees.specs.declared.store.Store.{Ghosts}
use Rattle.sqlite_value.specs.Order.{Row}
use Rattle.tables.specs.Calls.{KeepsConnection}
use Rattle.tables.specs.Schema.{schema}
use Rattle.tables.specs.Steps.{Asks, OnlyLooks}
use Rattle.index.specs.Calls.{IsRefused, IsSound}
use Rattle.index.specs.Layout.{HasIndexRows}
use Rattle.index.specs.declared.declaration.Declaration.{Declaration}
use Rattle.index.specs.declared.fault.IndexFault.{IndexFault}
use Rattle.index.specs.declared.fault.IndexFault.TheVariants as index
use Rattle.file_check.proofs.CheckSteps.{unchanged_same}
use Rattle.file_check.specs.Checks.{Checks}
use Rattle.file_check.specs.inner.IndexRows.{TellsFound}
use Rattle.file_check.specs.declared.finding.CheckFault.{CheckFault}

-- there is a first row where some row passes
pub any_row : (p : Row → Bool) (show : Row → Row) (rows : List Row) → is_some (slice_get (map show (filter p rows)) 0) ≡ list_any p rows
any_row p show [] = refl
any_row p show (r ∷ rows) = go (p r) (any_row p show rows)
  where
    go : (b : Bool) → is_some (slice_get (map show (filter p rows)) 0) ≡ list_any p rows → is_some (slice_get (map show (cond b (r ∷ filter p rows) (filter p rows))) 0) ≡ (b || list_any p rows)
    go true more = refl
    go false more = more

-- the first row that is shown is that which is found
pub first_shown : (p : Row → Bool) (show : Row → Row) (rows : List Row) → slice_get (map show (filter p rows)) 0 ≡ option_map show (find p rows)
first_shown p show [] = refl
first_shown p show (r ∷ rows) = go (p r) (first_shown p show rows)
  where
    go : (b : Bool) → slice_get (map show (filter p rows)) 0 ≡ option_map show (find p rows) → slice_get (map show (cond b (r ∷ filter p rows) (filter p rows))) 0 ≡ option_map show (cond b (Some r) (find p rows))
    go true more = refl
    go false more = more

module _ {S : Type 0} (g : Ghosts S) (a b : Held S) (Tells : Trees → Option Declaration → Type 0) where
  abbrev Told : Result (Option Declaration) CheckFault → Type 0
  Told told = Checks g HasIndexRows a b Tells told

  failed : (e : CheckFault) → (a.schema ≡ schema → OnlyLooks (state g a) (state g b)) → Asks (state g a) (state g b) → Told (Err e)
  failed e looks asks = record {
    tells = λ clean fit. tt;
    stays = λ clean fit. tt;
    leaves = λ clean fit. record { rows = (looks fit.schema_is).rows clean; kept = (looks fit.schema_is).kept clean };
    asks = asks;
  }

  -- what was found is told
  pub index_told : (r : Result (Option Declaration) IndexFault) (told : Result (Option Declaration) CheckFault) → (HasCleanDisk (state g b) → HasIndexRows (state g a).now → IfOk r (Tells (state g a).now.trees))
      → IfErr r (IsRefused (IsSound g a b)) → KeepsConnection g a b r → (a.schema ≡ schema → OnlyLooks (state g a) (state g b)) → Asks (state g a) (state g b) → TellsFound r told → Told told
  index_told (Ok found) told ok err stands looks asks is =
      subst Told (sym is) (record {
        tells = ok;
        stays = λ clean fit. unchanged_same (state g a) (state g b) (stands fit.schema_is clean);
        leaves = λ clean fit. record { rows = (looks fit.schema_is).rows clean; kept = (looks fit.schema_is).kept clean };
        asks = asks;
      })
  index_told (Err (index.Sqlite e)) told ok err stands looks asks is = subst Told (sym is) (failed _ looks asks)
  index_told (Err index.Memory) told ok err stands looks asks is = subst Told (sym is) (failed _ looks asks)
  index_told (Err index.Damaged) told ok err stands looks asks is =
      subst Told (sym is) (record {
        tells = λ clean fit. absurd (err (clean, λ up. fit));
        stays = λ clean fit. absurd (err (clean, λ up. fit));
        leaves = λ clean fit. record { rows = (looks fit.schema_is).rows clean; kept = (looks fit.schema_is).kept clean };
        asks = asks;
      })
