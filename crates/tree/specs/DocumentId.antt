-- Document ids: which texts name a document, and which of them a design document or a local one.
-- The CouchDB manual decides (api/document/common, "Document ID", and its prefixes `_design/` and `_local/`); the limit of 256 bytes is this server's own.
use Rattle.std.specs.Prelude.{ℕ, Bool, ◌&&◌, ◌||◌, not, List, length, codes, nat_eq, nat_le, nat_lt}
use Rattle.std.specs.List.{starts_with}

-- the text begins with the prefix, and goes on with at least one byte
abbrev pub extends : List ℕ → List ℕ → Bool
extends prefix text = starts_with nat_eq text prefix && nat_lt (length prefix) (length text)

-- the names that are reserved begin with an underscore
abbrev pub is_reserved : List ℕ → Bool
is_reserved text = starts_with nat_eq text (codes "_")

-- it begins with `_design/`
abbrev pub is_design_id : List ℕ → Bool
is_design_id text = extends (codes "_design/") text

-- it begins with `_local/`
abbrev pub is_local_id : List ℕ → Bool
is_local_id text = extends (codes "_local/") text

-- a text (UTF-8) that may be the id of a document: 1 to 256 bytes, and reserved only as that of a
-- design document or of a local one
abbrev pub is_document_id : List ℕ → Bool
is_document_id text =
    nat_le 1 (length text) && nat_le (length text) 256
    && (not (is_reserved text) || is_design_id text || is_local_id text)
