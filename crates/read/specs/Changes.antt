-- The documents of a database that changed after a sequence: each once, at the sequence of its latest write.
-- CouchDB manual, api/database/changes (`since`, `limit`, `style`; `last_seq`, `results`; `changes`, `deleted`, `id` and `seq` of a row); which rows a range has is the store's words.
use Rattle.std.specs.Prelude.{Bool, true, false, codes, map, pos}
use Rattle.couch_json.specs.Value.{Value, truth, whole, text, array, object, Members, no_members, member, put}
use Rattle.couch_json.specs.View.{items_of}
use Rattle.store.specs.Database.{Database}
use Rattle.store.specs.Pages.{SequencePage, SequenceRow, page_by_sequence}
use Rattle.store.specs.declared.listing.SeqRange.{SeqRange}
use Rattle.read.specs.Listing.{revision_object}

-- a document whose winner is deleted says so
abbrev pub with_deletion : Bool → Members → Members
with_deletion false ms = ms
with_deletion true ms = put (codes "deleted") (truth true) ms

-- the members of one change
abbrev pub change_members : SequenceRow → Members
change_members r =
    member (codes "changes") (array (items_of (map revision_object r.revs)))
    (member (codes "id") (text r.id) (member (codes "seq") (whole (pos r.sequence)) no_members))

-- a document: its winner or all its leaves, and its sequence
abbrev pub change_object : SequenceRow → Value
change_object r = object (with_deletion r.deleted (change_members r))

-- a page by sequence as the reply to `_changes`
abbrev pub changes_of : SequencePage → Value
changes_of page =
    object (member (codes "last_seq") (whole (pos page.last)) (member (codes "results") (array (items_of (map change_object page.rows))) no_members))

-- what changed in this database after the sequence that the range begins at
abbrev pub changes_in : SeqRange → Database → Value
changes_in range db = changes_of (page_by_sequence range db)
