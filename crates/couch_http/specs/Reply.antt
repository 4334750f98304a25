-- The bytes of a reply: a status line, three or four header lines, an empty line, and a body of JSON.
-- RFC 9112, sections 4, 6.2 and 9.6, and RFC 9110, section 15; which statuses and headers there are is this project's own.
use Rattle.std.specs.Prelude.{ℕ, Bool, true, List, [], ◌++◌, length, unwrap_or, if◌then◌else◌, codes}
use Rattle.std.specs.Fmt.{decimal}
use Rattle.http.specs.StatusCode.{reason_phrase}
use Rattle.httparse.specs.Ascii.{crlf_bytes}
use Rattle.couch_http.specs.declared.fixed.Fixed.{Fixed}
use Rattle.couch_http.specs.declared.fixed.Fixed.TheVariants.{Syntax, Encoding, TooLarge, Store, NoRoom}

-- a reply: its status, its body, and all its bytes
pub record Reply : Type 0 where
  pub status : ℕ
  pub body : List ℕ
  pub bytes : List ℕ

-- the phrase of a status, as the kit's http has them from RFC 9110; a number that has none has no bytes here
abbrev pub phrase_of : ℕ → List ℕ
phrase_of status = unwrap_or (reason_phrase status) []

-- the status line
unfoldable pub status_line : ℕ → List ℕ
status_line status = codes "HTTP/1.1 " ++ decimal status ++ codes " " ++ phrase_of status ++ crlf_bytes

-- what the body is
unfoldable pub type_line : List ℕ
type_line = codes "Content-Type: application/json" ++ crlf_bytes

-- how many bytes the body has
unfoldable pub length_line : ℕ → List ℕ
length_line size = codes "Content-Length: " ++ decimal size ++ crlf_bytes

-- whether the connection ends after the reply
unfoldable pub close_line : Bool → List ℕ
close_line last = if last then codes "Connection: close" ++ crlf_bytes else []

-- all that comes before the body
abbrev pub reply_head : ℕ → ℕ → Bool → List ℕ
reply_head status size last = status_line status ++ type_line ++ length_line size ++ close_line last ++ crlf_bytes

-- the reply of a status and a body
abbrev pub reply_of : ℕ → List ℕ → Bool → Reply
reply_of status body last = record {
  status = status;
  body = body;
  bytes = reply_head status (length body) last ++ body;
}

-- the replies that need no memory
abbrev pub fixed_reply : Fixed → Reply
fixed_reply Syntax = reply_of 400 (codes "{\"error\":\"bad_request\",\"reason\":\"syntax\"}") true
fixed_reply Encoding = reply_of 501 (codes "{\"error\":\"not_implemented\",\"reason\":\"transfer encoding\"}") true
fixed_reply TooLarge = reply_of 413 (codes "{\"error\":\"too_large\",\"reason\":\"request\"}") true
fixed_reply (Store last) = reply_of 500 (codes "{\"error\":\"internal_server_error\",\"reason\":\"store\"}") last
fixed_reply (NoRoom last) = reply_of 503 (codes "{\"error\":\"service_unavailable\",\"reason\":\"memory\"}") last
