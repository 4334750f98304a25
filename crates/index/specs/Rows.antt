-- What the rows of `decls` and `entries` say: which indexes are declared, and which keys their documents have.
-- This server's own layout: the fields of an index are the canonical text of the list of their paths, and a key is the bytes of `couch_json`.
use Rattle.std.specs.Prelude.{ℕ, ℤ, Bool, ◌&&◌, bytes_eq, if◌then◌else◌, List, [], ◌∷◌, filter, find, length, map, Option, option_map}
use Rattle.std.specs.Cmp.Lexicographic.{slice_cmp}
use Rattle.std.specs.List.{list_any}
use Rattle.std.specs.Ordering.{int_eq, nat_cmp, ordering_then}
use Rattle.std.specs.declared.cmp.Ordering.{Ordering}
use Rattle.couch_json.specs.Canonical.{canonical}
use Rattle.couch_json.specs.Parts.{items_in, items_or_none}
use Rattle.couch_json.specs.Value.{Items, no_items, item, text, array}
use Rattle.sqlite_keyed.specs.Lists.{sort_by}
use Rattle.sqlite_trees.specs.Tree.{rowid}
use Rattle.sqlite_value.specs.Order.{Row, bytes, column}
use Rattle.sqlite_value.specs.declared.value.Value.{Value}
use Rattle.sqlite_value.specs.declared.value.Value.TheVariants.{Null, Int, Text, Blob}
use Rattle.store.specs.Indexes.{paths_in}
use Rattle.tables.specs.Listings.{first_rows, is_between, rows_behind}
use Rattle.tables.specs.Rows.{has_number, json_in_cell, whole_in_cell}

-- ---- declarations: the number stands in the place of the rowid

-- the paths, as the elements of a list
abbrev pub path_items : List (List ℕ) → Items
path_items [] = no_items
path_items (path ∷ paths) = item (text path) (path_items paths)

-- the text of the fields of an index
abbrev pub fields_text : List (List ℕ) → List ℕ
fields_text fields = canonical (array (path_items fields))

-- its cells behind the number
abbrev pub declaration_cells : ℤ → List ℕ → List ℕ → List ℕ → Row
declaration_cells db design name fields = Null ∷ Int db ∷ Blob design ∷ Blob name ∷ Text fields ∷ []

-- the row of an index: its number, the number of its database, its design document, its name, its fields
abbrev pub declaration_row : ℤ → ℤ → List ℕ → List ℕ → List ℕ → Row
declaration_row number db design name fields = Int number ∷ declaration_cells db design name fields

-- the database, the design document and the name of the index
abbrev pub database_of_declaration : Row → ℤ
database_of_declaration r = whole_in_cell (column r 2)

-- the design document of the index of a row
abbrev pub design_of : Row → List ℕ
design_of r = bytes (column r 3)

-- the name of the index of a row
abbrev pub index_name_of_row : Row → List ℕ
index_name_of_row r = bytes (column r 4)

-- the fields that a cell says
abbrev pub fields_in_cell : Value → List (List ℕ)
fields_in_cell v = paths_in (items_or_none (items_in (json_in_cell v)))

-- the fields of the index of a row
abbrev pub fields_of : Row → List (List ℕ)
fields_of r = fields_in_cell (column r 5)

-- the row is that of an index of this database
abbrev pub is_at_home : ℤ → Row → Bool
is_at_home db r = int_eq (database_of_declaration r) db

-- the row is that of the index of this name of the design document
abbrev pub is_declaration_of : ℤ → List ℕ → List ℕ → Row → Bool
is_declaration_of db design name r = is_at_home db r && (bytes_eq (design_of r) design && bytes_eq (index_name_of_row r) name)

-- what a query shows of such a row: the number, the name and the text of the fields
abbrev pub shown_declaration : Row → Row
shown_declaration r = rowid r ∷ column r 4 ∷ column r 5 ∷ []

-- the declaration of this number
abbrev pub declaration_at : List Row → ℤ → Option Row
declaration_at rows number = find (has_number number) rows

-- the fields that the rows say of this index
abbrev pub declared_by : List Row → ℤ → List ℕ → List ℕ → Option (List (List ℕ))
declared_by rows db design name = option_map fields_of (find (is_declaration_of db design name) rows)

-- ---- entries

-- its cells behind the number
abbrev pub entry_cells : ℤ → List ℕ → List ℕ → Row
entry_cells declaration k id = Int declaration ∷ Blob k ∷ Blob id ∷ []

-- the row of an entry: its number, the number of its index, its key, its document
abbrev pub entry_row : ℤ → ℤ → List ℕ → List ℕ → Row
entry_row number declaration k id = Int number ∷ entry_cells declaration k id

-- the number of the declaration, the key, and the id of the document
abbrev pub declaration_of : Row → ℤ
declaration_of r = whole_in_cell (column r 1)

-- the key of an entry
abbrev pub key_of : Row → List ℕ
key_of r = bytes (column r 2)

-- the id of the document of an entry
abbrev pub entry_id : Row → List ℕ
entry_id r = bytes (column r 3)

-- the row is an entry of this index
abbrev pub is_entry_in : ℤ → Row → Bool
is_entry_in declaration r = int_eq (declaration_of r) declaration

-- the row is the entry of an index with this key and this document
abbrev pub is_entry_of : ℤ → List ℕ → List ℕ → Row → Bool
is_entry_of declaration k id r = is_entry_in declaration r && (bytes_eq (key_of r) k && bytes_eq (entry_id r) id)

-- what a query shows of such a row: the key and the id
abbrev pub shown_entry : Row → Row
shown_entry r = column r 2 ∷ column r 3 ∷ []

-- there is such an entry
abbrev pub has_entry : List Row → ℤ → List ℕ → List ℕ → Bool
has_entry rows declaration k id = list_any (is_entry_of declaration k id) rows

-- ---- ranges of entries

-- entries go by their keys, and by their ids where the keys tie; downwards the other way round
abbrev pub by_place : Row → Row → Ordering
by_place a b = ordering_then (slice_cmp nat_cmp (key_of a) (key_of b)) (slice_cmp nat_cmp (entry_id a) (entry_id b))

abbrev pub in_direction : Bool → Row → Row → Ordering
in_direction descending a b = if descending then by_place b a else by_place a b

abbrev pub is_entry_between : ℤ → List ℕ → List ℕ → Row → Bool
is_entry_between declaration low high r = is_entry_in declaration r && is_between low high (key_of r)

-- the entries of a range in their order, as a query shows them: behind so many, up to so many or all
abbrev pub range_of : Bool → ℤ → List ℕ → List ℕ → ℤ → ℤ → List Row → List Row
range_of descending declaration low high most skip rows =
    first_rows most (rows_behind skip (map shown_entry (sort_by (in_direction descending) (filter (is_entry_between declaration low high) rows))))

-- how many there are
abbrev pub count_of : ℤ → List ℕ → List ℕ → List Row → ℕ
count_of declaration low high rows = length (filter (is_entry_between declaration low high) rows)
