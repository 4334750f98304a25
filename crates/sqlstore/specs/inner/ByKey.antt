-- What a page by key is read from: the entries of an index, which are those of places.
-- This server's own: what entries say is said by `index`, and what a page is by `store`.
use Rattle.std.specs.Prelude.{◌≡◌, ℕ, ℤ, pos, List, Some, Result}
use Rattle.sqlite_trees.specs.declared.store.Store.{Ghosts}
use Rattle.sqlite_value.specs.Order.{Row}
use Rattle.store.specs.Indexes.{IndexPlace}
use Rattle.store.specs.Leaving as leaving
use Rattle.store.specs.declared.fault.StoreFault.{StoreFault}
use Rattle.store.specs.declared.index_page.KeyRange.{KeyRange}
use Rattle.tables.specs.Schema.{entries_tree}
use Rattle.index.specs.Places.{AreEntriesAt}
use Rattle.index.specs.Rows.{range_of}
use Rattle.sqlstore.specs.inner.Listing.{IsLimitFor}
use Rattle.sqlstore.specs.Model.{fault_count, is_honest, trees_of}
use Rattle.sqlstore.specs.declared.sql_store.SqlStore.{SqlStore}

-- what is answered of an honest store in which the entries of this declaration are those of these places
abbrev pub AnswersOf : {S X A : Type 0} (g : Ghosts S) → ℤ → List IndexPlace → SqlStore S g → SqlStore S g → (X → A) → A → Result X StoreFault → Type 0
AnswersOf g declaration places old new shown defined r =
    leaving.Answers (λ s. is_honest g s × AreEntriesAt declaration places (trees_of g s entries_tree)) (fault_count g) old new shown (Some defined) r

-- the rows of a range, as a statement shows them whose limit loses none of them
abbrev pub IsRangeOf : KeyRange → ℤ → List ℕ → List ℕ → List Row → List Row → Type 0
IsRangeOf range declaration low high rows shown = (most : ℤ) × IsLimitFor range.limit most × (shown ≡ range_of range.descending declaration low high most (pos range.skip) rows)
