-- The bytes of a request: a request line, header lines, an empty line, and the body.
-- RFC 9112, sections 3, 3.2, 5 and 6.2; that the host is always `couchd` is this project's own.
use Rattle.std.specs.Prelude.{ℕ, List, [], ◌∷◌, ◌++◌, length, codes, Option, Some, None}
use Rattle.httparse.specs.Ascii.{crlf_bytes}
use Rattle.couch_http.specs.Message.{HeaderField, Message}
use Rattle.couch_http.specs.Reply.{length_line}

-- a question mark and the query, where there is one
abbrev pub query_text : Option (List ℕ) → List ℕ
query_text None = []
query_text (Some query) = codes "?" ++ query

-- the request line
unfoldable pub request_line : List ℕ → List ℕ → Option (List ℕ) → List ℕ
request_line method path query = method ++ codes " " ++ path ++ query_text query ++ codes " HTTP/1.1" ++ crlf_bytes

-- the host that the request is for
unfoldable pub host_line : List ℕ
host_line = codes "Host: couchd" ++ crlf_bytes

-- a header
unfoldable pub field_line : List ℕ → List ℕ → List ℕ
field_line name value = name ++ codes ": " ++ value ++ crlf_bytes

-- headers in order
abbrev pub field_lines : List HeaderField → List ℕ
field_lines [] = []
field_lines (h ∷ headers) = field_line h.name h.value ++ field_lines headers

-- all that comes before the body
abbrev pub request_head : Message → List ℕ
request_head m = request_line m.method m.path m.query ++ host_line ++ field_lines m.headers ++ length_line (length m.body) ++ crlf_bytes

-- all of a request
abbrev pub request_text : Message → List ℕ
request_text m = request_head m ++ m.body
