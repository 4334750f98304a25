-- The outline of a history: its known revisions with their parents and their marks, and no bodies; and the winner with its mark.
-- This server's own: a reader that asks for no body, such as one of leaves or of paths (CouchDB manual, replication/conflicts), needs no more of a history.
use Rattle.std.specs.Prelude.{List, map, Option, option_map}
use Rattle.std.specs.FinMap.{entries, from_entries}
use Rattle.couch_json.specs.Value.{null}
use Rattle.tree.specs.History.{HistoryContent, held_of, is_deleted, winner}
use Rattle.tree.specs.Revision.{Revision}
use Rattle.tree.specs.declared.entry.Entry.{Entry}
use Rattle.tree.specs.declared.entry.Held.{Held}
use Rattle.tree.specs.declared.marked_rev.MarkedRev.{MarkedRev}

-- what is held, with null in the place of the body
abbrev pub held_bare : Held → Held
held_bare d = record { deleted = d.deleted; body = null }

-- what is known of a revision, without the body
abbrev pub bare : Entry → Entry
bare e = record { parent = e.parent; held = option_map held_bare e.held }

-- each revision of a list, with what is known of it but for the body
abbrev pub all_bare : List (Revision × Entry) → List (Revision × Entry)
all_bare es = map (λ e. (e.0, bare e.1)) es

-- the history without its bodies
abbrev pub outline_of : HistoryContent → HistoryContent
outline_of h = from_entries (all_bare (entries h))

-- the revision with the mark that the history has of it
abbrev pub marked_revision : HistoryContent → Revision → MarkedRev
marked_revision h r = record { rev = r; deleted = is_deleted (held_of h r) }

-- the winner, with its mark
abbrev pub marked_winner : HistoryContent → Option MarkedRev
marked_winner h = option_map (marked_revision h) (winner h)
