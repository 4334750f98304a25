-- The range of rows in which all design documents are.
-- CouchDB manual, ddocs/ddocs (the ids of design documents); that their rows are read by one range is this server's own.
use Rattle.std.specs.Prelude.{◌≡◌, ℕ, false, true, List, None}
use Rattle.tree.specs.DocumentId.{is_design_id}
use Rattle.store.specs.Pages.{is_within}
use Rattle.store.specs.declared.listing.IdRange.{IdRange}

-- all rows of design documents are in the range, ascending
pub record IsDesignRange (range : IdRange) : Type 0 where
  pub whole : range.limit ≡ None
  pub from_the_first : range.skip ≡ 0
  pub ascending : range.descending ≡ false
  pub within : (id : List ℕ) → is_design_id id ≡ true → is_within range id ≡ true
