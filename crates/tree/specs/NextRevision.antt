-- The revision that an edit makes: its number, and its hash, the MD5 (RFC 1321) in lower-case hexadecimal of a canonical text.
-- The CouchDB manual decides that the hash follows from the edit (replication/conflicts, "Revision IDs"); of which text it is taken is this server's own choice.
use Rattle.std.specs.Prelude.{ℕ, ◌+◌, Bool, List, [], pos, Option, Some, None}
use Rattle.couch_json.specs.Value.{Value, truth, whole, text, array, no_items, item}
use Rattle.couch_json.specs.Canonical.{canonical}
use Rattle.md5.specs.Md5.{md5}
use Rattle.hex.specs.Hex.{encode_lower}
use Rattle.tree.specs.Revision.{Revision}

-- the number of the revision before, or 0 for the first
abbrev pub number_before : Option Revision → ℕ
number_before None = 0
number_before (Some r) = r.number

-- the hash of the revision before, or none for the first
abbrev pub hash_before : Option Revision → List ℕ
hash_before None = []
hash_before (Some r) = r.hash

-- what the hash is taken of: the deletion mark, the number and the hash before, and the body
abbrev pub hashed_edit : ℕ → List ℕ → Bool → Value → Value
hashed_edit number hash deleted body =
    array (item (truth deleted) (item (whole (pos number)) (item (text hash) (item body no_items))))

-- an edit as a value: the parent, whether it deletes, and the body
abbrev pub edit_value : Option Revision → Bool → Value → Value
edit_value parent deleted body = hashed_edit (number_before parent) (hash_before parent) deleted body

-- the revision of an edit: the next number, and the MD5 of the edit as a value
abbrev pub next_revision : Option Revision → Bool → Value → Revision
next_revision parent deleted body =
    record { number = number_before parent + 1; hash = encode_lower (md5 (canonical (edit_value parent deleted body))) }
