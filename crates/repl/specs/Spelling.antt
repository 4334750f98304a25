-- How names and ids stand in the path of a request.
-- RFC 3986, section 2.1 (percent-encoding) and section 2.3 (unreserved characters); CouchDB manual, api/ddoc/common, for design documents.
use Rattle.std.specs.Prelude.{ℕ, Bool, ◌==◌, ◌||◌, List, ◌++◌, drop, nat_eq, if◌then◌else◌, codes}
use Rattle.std.specs.Char.{is_ascii_alphanumeric}
use Rattle.std.specs.List.{starts_with}
use Rattle.percent_encoding.specs.Percent.{percent_encode}
use Rattle.percent_encoding.specs.declared.ascii_set.AsciiSet.{AsciiSet}

-- a letter, a digit, `-`, `.`, `_` or `~`
abbrev pub is_unreserved : ℕ → Bool
is_unreserved b = is_ascii_alphanumeric b || b == 45 || b == 46 || b == 95 || b == 126

-- the ASCII bytes that are reserved: all but letters, digits, `-`, `.`, `_` and `~`; bit b stands for the byte b
abbrev pub reserved_bytes : AsciiSet
reserved_bytes = record { mask = 0xb800000178000001fc009fffffffffff }

-- a name as one segment of a path: each reserved byte and each byte outside of ASCII is escaped
abbrev pub segment : List ℕ → List ℕ
segment name = percent_encode reserved_bytes name

-- the id of a document: a design document's stands in two segments
abbrev pub document_segments : List ℕ → List ℕ
document_segments id =
    if starts_with nat_eq id (codes "_design/") then codes "_design/" ++ segment (drop 8 id) else segment id
