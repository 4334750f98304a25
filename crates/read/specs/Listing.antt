-- The documents of a database, listed by id: a row for each whose winner is not deleted, within a range, and where the rows stand among all.
-- CouchDB manual, api/database/bulk-api (`GET /{db}/_all_docs`: `offset`, `rows`, `total_rows`; `id`, `key` and `value` of a row); which rows a range has, and their counts, are the store's words.
use Rattle.std.specs.Prelude.{List, codes, map, pos}
use Rattle.std.specs.FinMap.{entries}
use Rattle.couch_json.specs.Value.{Value, whole, text, array, object, no_members, member}
use Rattle.couch_json.specs.View.{items_of}
use Rattle.tree.specs.Revision.{Revision, text_of}
use Rattle.store.specs.Database.{Database}
use Rattle.store.specs.Pages.{live_rows, page_of_ids, row_counts}
use Rattle.store.specs.declared.listing.IdRange.{IdRange}
use Rattle.store.specs.declared.listing.IdRow.{IdRow}
use Rattle.store.specs.declared.listing.RowCounts.{RowCounts}

-- an object that names a revision
abbrev pub revision_object : Revision → Value
revision_object r = object (member (codes "rev") (text (text_of r)) no_members)

-- a document: its id is its key too
abbrev pub row_object : IdRow → Value
row_object r =
    object (member (codes "id") (text r.id) (member (codes "key") (text r.id) (member (codes "value") (revision_object r.rev) no_members)))

-- rows, and where they stand among all
abbrev pub listing_of : List Value → RowCounts → Value
listing_of rows counts =
    object
    (member (codes "offset") (whole (pos counts.offset))
    (member (codes "rows") (array (items_of rows)) (member (codes "total_rows") (whole (pos counts.total)) no_members)))

-- the rows of the range in this database, and how many come before them and in all
abbrev pub document_listing : IdRange → Database → Value
document_listing range db = listing_of (map row_object (page_of_ids range db).rows) (row_counts range (live_rows (entries db.documents)))
