-- Special members of a document, and bodies that have none.
-- CouchDB manual, api/document/common ("Special Fields": names that begin with `_` are reserved); that what is stored has none of them is this server's own.
use Rattle.std.specs.Prelude.{ℕ, Bool, true, not, ◌&&◌, List, codes, nat_eq}
use Rattle.std.specs.List.{starts_with}
use Rattle.couch_json.specs.Value.{Value, Members, no_members, member}
use Rattle.tree.specs.ShownDocument.{body_members}

-- special members have names that begin with an underscore
abbrev pub is_special : List ℕ → Bool
is_special name = starts_with nat_eq name (codes "_")

-- none of them is special
abbrev pub are_plain : Members → Bool
are_plain no_members = true
are_plain (member name v ms) = not (is_special name) && are_plain ms

-- a body without special members: one that had `_deleted` would be read as a deletion once it is sent
abbrev pub is_plain : Value → Bool
is_plain body = are_plain (body_members body)
