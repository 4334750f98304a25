-- A request as clauses see it: its parts as bytes, without where they lie in memory.
-- RFC 9112, sections 3 and 5: a request line has a method, a target and a version, a field line a name and a value.
use Rattle.std.specs.Prelude.{ℕ, Bool, List, map, Option}
use Rattle.std.specs.Option.{option_map}
use Rattle.std.specs.String.{string_bytes}
use Rattle.couch_http.specs.declared.request.Header.{Header}
use Rattle.couch_http.specs.declared.request.Request.{Request}

-- a header: its name as it came, and its value without the spaces and tabs around it
pub record HeaderField : Type 0 where
  pub name : List ℕ
  pub value : List ℕ

-- a request: the target up to its first question mark, what stands behind that, and whether it is the last on its connection
pub record Message : Type 0 where
  pub method : List ℕ
  pub path : List ℕ
  pub query : Option (List ℕ)
  pub headers : List HeaderField
  pub body : List ℕ
  pub last : Bool

-- a header of the program
abbrev pub header_field : Header → HeaderField
header_field h = record { name = h.name.items; value = h.value.items }

-- a request of the program
abbrev pub message_of : Request → Message
message_of r = record {
  method = r.method;
  path = string_bytes r.path;
  query = option_map string_bytes r.query;
  headers = map header_field r.headers.items;
  body = r.body.items;
  last = r.last;
}
