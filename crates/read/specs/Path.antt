-- The member `_revisions` of a document: the hashes of its revision's path, from the newest back to the first, and the number of the newest.
-- CouchDB manual, api/document/common (`revs`, and the members `ids` and `start`).
use Rattle.std.specs.Prelude.{Bool, true, false, List, map, codes, pos, Option, Some, None}
use Rattle.couch_json.specs.Value.{Value, whole, text, array, object, Members, no_members, member, put}
use Rattle.couch_json.specs.View.{items_of}
use Rattle.tree.specs.Revision.{Revision}
use Rattle.tree.specs.History.{HistoryContent, chain}

-- the path whose newest revision is r
abbrev pub revisions_of : Revision → List Revision → Value
revisions_of r path =
    object
    (member (codes "ids") (array (items_of (map (λ s. text s.hash) path))) (member (codes "start") (whole (pos r.number)) no_members))

-- a document's members with its path, where that was requested
abbrev pub with_path : Revision → Option (List Revision) → Members → Members
with_path r None ms = ms
with_path r (Some path) ms = put (codes "_revisions") (revisions_of r path) ms

-- the members, with the path of a known revision where it is asked for
abbrev pub with_revisions : Bool → HistoryContent → Revision → Members → Members
with_revisions true h r ms = with_path r (chain h r) ms
with_revisions false h r ms = ms

-- the same by the outline of a history, where it is there
abbrev pub with_paths : Option HistoryContent → Revision → Members → Members
with_paths None r ms = ms
with_paths (Some outline) r ms = with_path r (chain outline r) ms
