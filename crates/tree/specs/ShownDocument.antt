-- The document that a revision is shown as, to readers, rules, indexes and selectors alike.
-- CouchDB manual, api/document/common (the members `_id`, `_rev` and `_deleted`).
use Rattle.std.specs.Prelude.{Bool, true, false, List, ℕ, codes}
use Rattle.couch_json.specs.Value.{Value, truth, text, object, Members, no_members, put}
use Rattle.tree.specs.Revision.{Revision, text_of}
use Rattle.tree.specs.declared.entry.Held.{Held}

-- the members of a body; a body that is no object would have none
abbrev pub body_members : Value → Members
body_members (object ms) = ms
body_members v = no_members

-- a mark where the revision is deleted
abbrev pub with_mark : Bool → Members → Members
with_mark true ms = put (codes "_deleted") (truth true) ms
with_mark false ms = ms

-- the members of the body with the document's id and the revision, and a mark where the revision is deleted
abbrev pub shown_members : List ℕ → Revision → Held → Members
shown_members id r held = with_mark held.deleted (put (codes "_rev") (text (text_of r)) (put (codes "_id") (text id) (body_members held.body)))

-- the document that has these members
abbrev pub document_at_revision : List ℕ → Revision → Held → Value
document_at_revision id r held = object (shown_members id r held)
