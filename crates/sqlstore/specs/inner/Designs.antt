-- What is known of the design documents of a database: their rows in the list by id, their winners, and what is held of these.
-- CouchDB manual, ddocs/ddocs (the ids of design documents); that their rows are those of one range is this server's own.
use Rattle.std.specs.Prelude.{◌≡◌, ◌||◌, ℕ, ℤ, Bool, false, codes, filter, IfSome, List, map, None, not, Option, Some, Vec}
use Rattle.std.specs.FinMap.{get}
use Rattle.std.specs.List.{AllByRecursion}
use Rattle.std.specs.declared.alloc.Global.{Global}
use Rattle.sqlite_trees.specs.Tree.{Trees}
use Rattle.store.specs.Pages.{is_after_end_of, is_before_start_of}
use Rattle.store.specs.declared.listing.IdRange.{IdRange}
use Rattle.store.specs.declared.listing.IdRow.{IdRow}
use Rattle.tables.specs.Listings.{live_rows}
use Rattle.tables.specs.Rows.{history_in_rows}
use Rattle.tables.specs.Schema.{revs_tree}
use Rattle.tree.specs.Outline.{marked_winner}
use Rattle.sqlstore.specs.inner.Listing.{listed_by_id}
use Rattle.sqlstore.specs.declared.known_design.KnownDesign.{KnownDesign}

-- ---- the range

-- the id is within the range of design documents, whose end does not belong to it
abbrev pub is_in_design_range : List ℕ → Bool
is_in_design_range id = not (is_before_start_of false (Some (codes "_design/")) id || is_after_end_of false false (Some (codes "_design0")) id)

-- the range is this one, ascending and whole, and no counts are asked for
pub record IsWholeDesignRange (range : IdRange) : Type 0 where
  pub starts : range.start ≡ Some (codes "_design/")
  pub ends : range.end ≡ Some (codes "_design0")
  pub exclusive : range.inclusive_end ≡ false
  pub ascending : range.descending ≡ false
  pub from_the_first : range.skip ≡ 0
  pub whole : range.limit ≡ None
  pub uncounted : range.counted ≡ false

-- the rows whose ids are within it
abbrev pub design_rows : List IdRow → List IdRow
design_rows rows = filter (λ r. is_in_design_range r.id) rows

-- ---- what is known

-- the row of a design document
abbrev pub row_of_design : KnownDesign → IdRow
row_of_design d = record { id = d.id; rev = d.rev }

-- the winner of the document is this revision, and not deleted, and what is known of the revision is this entry
pub record IsDesign (trees : Trees) (db : ℤ) (d : KnownDesign) : Type 0 where
  pub winner : marked_winner (history_in_rows (trees revs_tree) db d.id) ≡ Some (record { rev = d.rev; deleted = false })
  pub entry : get (history_in_rows (trees revs_tree) db d.id) d.rev ≡ Some d.entry

-- their rows are all that the database of this number has within the range, and each is so
pub record AreDesigns (trees : Trees) (db : ℤ) (ds : List KnownDesign) : Type 0 where
  pub rows : map row_of_design ds ≡ design_rows (live_rows (listed_by_id trees db))
  pub each : AllByRecursion (IsDesign trees db) ds

-- the same, where they are known
abbrev pub AreKnownDesigns : Trees → ℤ → Option (Vec KnownDesign Global) → Type 0
AreKnownDesigns trees db known = IfSome known (λ ds. AreDesigns trees db ds.items)
