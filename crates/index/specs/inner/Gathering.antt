-- The entries that are gathered before they are put in, and what indexes have beside them.
-- This server's own: the entries of indexes that are declared anew are put in in parts, each of them in the order of the table's key.
use Rattle.std.specs.Prelude.{◌≡◌, ◌≢◌, ◌+◌, ℕ, ℤ, true, false, Bool, ◌&&◌, ◌||◌, bytes_eq, if◌then◌else◌, List, [], ◌∷◌, map, Option, Some, None, Result}
use Rattle.std.specs.List.{AllByRecursion, count_by, flat_map, list_any}
use Rattle.std.specs.Cmp.Lexicographic.{slice_cmp}
use Rattle.std.specs.Ordering.{int_cmp, int_eq, nat_cmp, ordering_then}
use Rattle.std.specs.declared.cmp.Ordering.{Ordering}
use Rattle.couch_json.specs.Value.{Value}
use Rattle.sqlite.specs.Effect.{Database}
use Rattle.sqlite.specs.Held.{Held}
use Rattle.sqlite_trees.specs.Tree.{IsAscending}
use Rattle.sqlite_trees.specs.declared.store.Store.{Ghosts}
use Rattle.sqlite_value.specs.Order.{Row}
use Rattle.tables.specs.Layout.{IsDocumentRow, IsStore}
use Rattle.tables.specs.Listings.{is_between}
use Rattle.tables.specs.Rows.{db_of, id_of, listed_document}
use Rattle.tables.specs.Schema.{entries_tree, schema}
use Rattle.index.specs.Calls.{ChangesOnly}
use Rattle.index.specs.Filling.{HaveKeyOf, HaveOwnNumbers, numbers_of, without_ids}
use Rattle.index.specs.Indexed.{Entries}
use Rattle.index.specs.Layout.{AreEntryRows}
use Rattle.index.specs.Meaning.{key_if_seen, sees_in}
use Rattle.index.specs.Rows.{has_entry}
use Rattle.index.specs.Shown.{Declared}
use Rattle.index.specs.Steps.{Steps}
use Rattle.index.specs.declared.gathered.NewEntry.{NewEntry}

-- an entry: the number of the declaration, the key, and the id of the document
pub record Entry : Type 0 where
  pub number : ℤ
  pub key : List ℕ
  pub id : List ℕ

abbrev pub entry_of : NewEntry → Entry
entry_of e = record { number = e.declaration; key = e.key.items; id = e.id.items }

-- entries go by the number of the declaration, and then by the bytes of the key and of the id, as the key of their table does
abbrev pub entry_order : Entry → Entry → Ordering
entry_order a b = ordering_then (int_cmp a.number b.number) (ordering_then (slice_cmp nat_cmp a.key b.key) (slice_cmp nat_cmp a.id b.id))

-- it is that of this declaration, key and document
abbrev pub is_entry : ℤ → List ℕ → List ℕ → Entry → Bool
is_entry declaration k id e = int_eq e.number declaration && (bytes_eq e.key k && bytes_eq e.id id)

-- the entry of a document in an index in which it has this key, or none
abbrev pub entry_if : Declared → List ℕ → Option (List ℕ) → List Entry
entry_if x id None = []
entry_if x id (Some k) = record { number = x.number; key = k; id = id } ∷ []

-- the entries of a document in these indexes, of which this is seen
abbrev pub entries_of : List Declared → List ℕ → Option Value → List Entry
entries_of xs id seen = flat_map (λ (x : Declared). entry_if x id (key_if_seen x.fields seen)) xs

-- Each of these entries is among the rows or on the list, in one of them and once. No others are.
pub record AreEntriesBeside (due : Entries) (waiting : List Entry) (rows : List Row) : Type 0 where
  pub laid : AreEntryRows rows
  pub exact : (declaration : ℤ) (k id : List ℕ) → (if has_entry rows declaration k id then 1 else 0) + count_by (is_entry declaration k id) waiting ≡ (if due declaration k id then 1 else 0)

-- so it is now, and nothing but entries has changed
pub record HasEntriesBeside (due : Entries) (waiting : List Entry) (old new : Database) : Type 0 where
  pub entries : AreEntriesBeside due waiting (new.trees entries_tree)
  pub only : ChangesOnly entries_tree old new

-- ---- put in

-- the tables are ours, and these entries are there or on the list
pub record AreToPut (due : Entries) (waiting : List Entry) (b : Database) : Type 0 where
  pub schema_is : b.schema ≡ schema
  pub entries : AreEntriesBeside due waiting (b.trees entries_tree)

-- those of the list come in, but for those that are on it afterwards
abbrev pub PutsEntries : {S X E : Type 0} → Ghosts S → List Entry → List Entry → Held S → Held S → Result X E → Type 0
PutsEntries g before after old new r = (due : Entries) → Steps g (AreToPut due before) (HasEntriesBeside due after) old new r

-- ---- gathered

-- these indexes have no entry of the document of this row, which a list shows so; `due` is what they have with it
pub record IsToGather (db : ℤ) (xs : List Declared) (shown d : Row) (waiting : List Entry) (due : Entries) (b : Database) : Type 0 where
  pub store : IsStore b
  pub row : IsDocumentRow b.trees d
  pub own : db_of d ≡ db
  pub shown_is : shown ≡ listed_document d
  pub numbers : HaveOwnNumbers xs
  pub entries : AreEntriesBeside (without_ids due (numbers_of xs) (id_of d ∷ [])) waiting (b.trees entries_tree)
  pub says : HaveKeyOf xs (id_of d) (sees_in b.trees db (id_of d)) due

-- the entries of the document of the row are gathered
abbrev pub GathersRow : {S X E : Type 0} → Ghosts S → ℤ → List Declared → Row → List Entry → List Entry → Held S → Held S → Result X E → Type 0
GathersRow g db xs shown before after old new r = (d : Row) (due : Entries) → Steps g (IsToGather db xs shown d before due) (HasEntriesBeside due after) old new r

-- these indexes have no entry of the documents of these rows, which a list shows so; `due` is what they have with them
pub record AreToGather (db : ℤ) (xs : List Declared) (shown docs : List Row) (waiting : List Entry) (due : Entries) (b : Database) : Type 0 where
  pub store : IsStore b
  pub rows : AllByRecursion (IsDocumentRow b.trees) docs
  pub own : AllByRecursion (λ d. db_of d ≡ db) docs
  pub apart : IsAscending (λ c d. id_of c ≢ id_of d) docs
  pub shown_is : shown ≡ map listed_document docs
  pub numbers : HaveOwnNumbers xs
  pub entries : AreEntriesBeside (without_ids due (numbers_of xs) (map id_of docs)) waiting (b.trees entries_tree)
  pub says : AllByRecursion (λ d. HaveKeyOf xs (id_of d) (sees_in b.trees db (id_of d)) due) docs

-- those of the documents of the rows are gathered or put in
abbrev pub GathersRows : {S X E : Type 0} → Ghosts S → ℤ → List Declared → List Row → List Entry → List Entry → Held S → Held S → Result X E → Type 0
GathersRows g db xs shown before after old new r = (docs : List Row) (due : Entries) → Steps g (AreToGather db xs shown docs before due) (HasEntriesBeside due after) old new r

-- ---- documents whose ids lie in a range

-- of the declarations of these numbers the entries of the documents whose ids pass are missing
abbrev pub without_documents : Entries → List ℤ → (List ℕ → Bool) → Entries
without_documents due numbers p n k id = if list_any (int_eq n) numbers && p id then false else due n k id

-- these indexes have no entry of the documents whose ids lie between the bounds, nor of those whose ids are left, which are others
pub record IsToGatherRange (db : ℤ) (xs : List Declared) (low high : List ℕ) (left : List ℕ → Bool) (waiting : List Entry) (due : Entries) (b : Database) : Type 0 where
  pub store : IsStore b
  pub numbers : HaveOwnNumbers xs
  pub apart : (id : List ℕ) → is_between low high id ≡ true → left id ≡ false
  pub entries : AreEntriesBeside (without_documents due (numbers_of xs) (λ id. is_between low high id || left id)) waiting (b.trees entries_tree)
  pub says : (id : List ℕ) → HaveKeyOf xs id (sees_in b.trees db id) due

-- those of the documents between the bounds are gathered or put in
abbrev pub GathersRange : {S X E : Type 0} → Ghosts S → ℤ → List Declared → List ℕ → List ℕ → List Entry → List Entry → Held S → Held S → Result X E → Type 0
GathersRange g db xs low high before after old new r =
    (left : List ℕ → Bool) (due : Entries) → Steps g (IsToGatherRange db xs low high left before due) (HasEntriesBeside (without_documents due (numbers_of xs) left) after) old new r
