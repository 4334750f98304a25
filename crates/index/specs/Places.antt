-- What the entries of an index say of the rows that its pages list.
-- This server's own: which rows an index lists is said by `store`, and the bytes of a key by `couch_json`.
use Rattle.std.specs.Prelude.{◌≡◌, ◌≤◌, true, false, ℕ, ℤ, IsTrue, IsUtf8, List, [], ◌∷◌, AllPairs, Contains}
use Rattle.std.specs.List.{AllByRecursion}
use Rattle.std.specs.declared.cmp.Ordering.TheVariants.{Less}
use Rattle.couch_json.specs.Key.{key}
use Rattle.couch_json.specs.KeyCuts.{lies_above_cut}
use Rattle.couch_json.specs.Lawful.{IsLawful}
use Rattle.couch_json.specs.Nesting.{max_open}
use Rattle.couch_json.specs.Value.{Value, depth}
use Rattle.sqlite_value.specs.Order.{Row, bytes, column}
use Rattle.sqlite_value.specs.declared.value.Value.TheVariants.{Blob}
use Rattle.store.specs.Indexes.{IndexPlace, place_order}
use Rattle.store.specs.KeyPages.{is_above}
use Rattle.store.specs.declared.index_page.KeyRange.{KeyRange}
use Rattle.tree.specs.DocumentId.{is_document_id}
use Rattle.index.specs.Layout.{AreEntryRows}
use Rattle.index.specs.Rows.{entry_id, has_entry, key_of}

-- the bytes of a key, and an id
abbrev pub Spot : Type 0
Spot = List ℕ × List ℕ

-- those of a place in an index
abbrev pub spot_of : IndexPlace → Spot
spot_of p = (key p.key, p.id)

-- those of an entry
abbrev pub spot_at : Row → Spot
spot_at r = (key_of r, entry_id r)

-- those of an entry as a query shows it
abbrev pub spot_shown : Row → Spot
spot_shown s = (bytes (column s 0), bytes (column s 1))

-- a place whose key and whose id can be read back from their bytes
pub record IsReadable (p : IndexPlace) : Type 0 where
  pub lawful : IsLawful p.key
  pub shallow : depth p.key ≤ max_open
  pub named : IsTrue (is_document_id p.id)
  pub text : IsUtf8 p.id

-- what a query shows of the entry of such a place
pub record IsShownEntry (s : Row) : Type 0 where
  pub place : IndexPlace
  pub readable : IsReadable place
  pub is : s ≡ Blob (key place.key) ∷ Blob place.id ∷ []

-- The entries of this declaration are those of these places: each place has its entry, and no other entry is there. The places ascend.
pub record AreEntriesAt (declaration : ℤ) (places : List IndexPlace) (rows : List Row) : Type 0 where
  pub laid : AreEntryRows rows
  pub ascending : AllPairs (λ a b. place_order a b ≡ Less) places
  pub readable : AllByRecursion IsReadable places
  pub there : (p : IndexPlace) → Contains places p → has_entry rows declaration (key p.key) p.id ≡ true
  pub only : (k id : List ℕ) → has_entry rows declaration k id ≡ true → (p : IndexPlace) × Contains places p × (spot_of p ≡ (k, id))

-- the keys that lie above the low end of a range are those whose bytes are not less than this bound
abbrev pub IsLowBound : KeyRange → List ℕ → Type 0
IsLowBound range bound = (v : Value) → IsLawful v → lies_above_cut bound (key v) ≡ is_above true range.low v

-- the same of the high end
abbrev pub IsHighBound : KeyRange → List ℕ → Type 0
IsHighBound range bound = (v : Value) → IsLawful v → lies_above_cut bound (key v) ≡ is_above false range.high v
