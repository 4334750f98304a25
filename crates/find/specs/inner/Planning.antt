-- Which part of an index has all the documents that a query finds.
-- This server's own: no outside source says which index serves a find.
use Rattle.std.specs.Prelude.{◌≡◌, ℕ, Bool, true, false, List, Option, Some, None, is_some, option_map, ⊤}
use Rattle.couch_json.specs.Collation.{collation}
use Rattle.couch_json.specs.FieldPath.{value_at}
use Rattle.couch_json.specs.Value.{Items, Value, array}
use Rattle.selector.specs.Truth.{selector_matches}
use Rattle.tree.specs.History.{HistoryContent}
use Rattle.store.specs.Database.{Database, history_at}
use Rattle.store.specs.Indexes.{field_values, index_fields_at, index_fields_of}
use Rattle.store.specs.KeyPages.{is_key_within}
use Rattle.store.specs.Winning.{winner_alone}
use Rattle.store.specs.declared.index_page.KeyRange.{KeyRange}
use Rattle.find.specs.Found.{found_documents}
use Rattle.find.specs.Indexes.{IndexAsked}
use Rattle.find.specs.declared.choosing.Chosen.{Chosen}
use Rattle.find.specs.declared.query.Query.{Query}

-- there are such values, and the key that is the array of them lies in the range
abbrev pub has_key_within : KeyRange → Option Items → Bool
has_key_within range None = false
has_key_within range (Some values) = is_key_within range (array values)

-- each value that matches and has all fields of the sort has these fields too, and its key by them lies in the range
abbrev pub Covers : List (List ℕ) → KeyRange → Query → Type 0
Covers fields range query =
    (v : Value) (keys : Items) → selector_matches query.selector v ≡ true → field_values query.sort v ≡ Some keys → has_key_within range (field_values fields v) ≡ true

-- The rows of the range, in its direction, go as the query asks: their documents have all fields of the sort, and of any two of them the
-- keys stand to each other as the values at these fields do.
pub record IsInOrder (fields : List (List ℕ)) (range : KeyRange) (query : Query) : Type 0 where
  pub direction : range.descending ≡ query.descending
  pub placed : (v : Value) → has_key_within range (field_values fields v) ≡ true → is_some (field_values query.sort v) ≡ true
  pub order : (v w : Value) (ks ls ms ns : Items) → field_values fields v ≡ Some ks → field_values fields w ≡ Some ls → is_key_within range (array ks) ≡ true
      → is_key_within range (array ls) ≡ true → field_values query.sort v ≡ Some ms → field_values query.sort w ≡ Some ns
      → collation (array ks) (array ls) ≡ collation (array ms) (array ns)

-- the database declares the index with these fields, and all documents that the query finds have their rows in the range
pub record MayServe (index : IndexAsked) (range : KeyRange) (query : Query) (db : Database) : Type 0 where
  pub declared : index_fields_at db index.design index.name ≡ Some index.fields
  pub covers : Covers index.fields range query

-- the same where its design document has this history
pub record MayServeBy (index : IndexAsked) (range : KeyRange) (query : Query) (h : HistoryContent) : Type 0 where
  pub declared : index_fields_of index.design h index.name ≡ Some index.fields
  pub covers : Covers index.fields range query

-- what was read of the design document that declares a chosen index is its winner in the database
abbrev pub IsReadIn : Chosen → Database → Type 0
IsReadIn chosen d = chosen.history ≡ winner_alone (history_at d chosen.design)

-- what is found by an index, where something is: the documents that the query finds in the database, which is there
abbrev pub IsFound : Query → Option Database → Option (List Value) → Type 0
IsFound query there None = ⊤
IsFound query there (Some found) = option_map (λ d. found_documents query d) there ≡ Some found

-- each value that matches and has all fields of the sort has this field too
abbrev pub IsThere : List ℕ → Query → Type 0
IsThere field query = (v : Value) (keys : Items) → selector_matches query.selector v ≡ true → field_values query.sort v ≡ Some keys → is_some (value_at field v) ≡ true

-- the same of all these fields
abbrev pub AreThere : List (List ℕ) → Query → Type 0
AreThere fields query = (v : Value) (keys : Items) → selector_matches query.selector v ≡ true → field_values query.sort v ≡ Some keys → is_some (field_values fields v) ≡ true

-- each value that matches has these values at these fields
abbrev pub AreFixed : List (List ℕ) → Items → Query → Type 0
AreFixed fields values query = (v : Value) → selector_matches query.selector v ≡ true → field_values fields v ≡ Some values
