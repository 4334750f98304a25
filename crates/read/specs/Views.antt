-- The rows of an index, listed by key: a document each, within a range, and where the rows stand among all.
-- CouchDB manual, api/ddoc/views (`offset`, `rows`, `total_rows`; `id`, `key` and `value` of a row); which rows an index has, and which of them a range, are the store's words; that a row has no value is this server's own.
use Rattle.std.specs.Prelude.{ℕ, List, codes, map, option_map, Result}
use Rattle.couch_json.specs.Value.{Value, null, text, object, no_members, member}
use Rattle.store.specs.Database.{Database}
use Rattle.store.specs.Indexes.{IndexPlace, index_fields_at, index_rows}
use Rattle.store.specs.KeyPages.{key_counts, key_page}
use Rattle.store.specs.declared.index_page.KeyRange.{KeyRange}
use Rattle.read.specs.Listing.{listing_of}
use Rattle.read.specs.Shown.{found}
use Rattle.read.specs.declared.fault.ReadFault.{ReadFault}

-- a document at its key
abbrev pub key_row_object : IndexPlace → Value
key_row_object r = object (member (codes "id") (text r.id) (member (codes "key") r.key (member (codes "value") null no_members)))

-- the rows of the range in an index by these fields, how many lie before them, and how many there are in all
abbrev pub key_listing : KeyRange → Database → List (List ℕ) → Value
key_listing range db fields = listing_of (map key_row_object (key_page range (index_rows fields db)).rows) (key_counts range (index_rows fields db))

-- the listing of the index that a design document declares under a name; it is missing where there is none
abbrev pub view_listing : KeyRange → List ℕ → List ℕ → Database → Result Value ReadFault
view_listing range design name db = found (option_map (key_listing range db) (index_fields_at db design name))
