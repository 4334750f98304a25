-- The requests that a stream of bytes holds from its front, and how it then stands.
-- RFC 9112, sections 2, 3, 5, 6.3 and 9.6; the limits and what is refused are this project's own.
use Rattle.std.specs.Prelude.{◌≡◌, ⊤, ℕ, ◌≤◌, ◌||◌, List, [], ◌∷◌, length, map, if◌then◌else◌, ◌==◌, MatchBool, Result}
use Rattle.httparse.specs.Grammar.{Field, field_value, RequestHead, ReadsRequest}
use Rattle.couch_http.specs.declared.fault.HttpFault.{HttpFault}
use Rattle.couch_http.specs.declared.fault.HttpFault.TheVariants.{Syntax, Encoding, TooLarge, Memory, Closed}
use Rattle.couch_http.specs.Message.{HeaderField, Message}
use Rattle.couch_http.specs.Head.{HeadScan, head_scan}
pub use Rattle.couch_http.specs.Front.{Front, waits, broken, whole, head_limit, header_limit, with_content, with_content_length, ReadsBy, is_too_large, StandsAtHead, unfinished_head, StandsAtScan, BeginsBy}
use Rattle.couch_http.specs.Fields.{has_transfer_encoding, request_length, asks_close, target_path, target_query}

-- httparse reads all of the head, and no more, as a request with at most so many headers
pub record IsHeadOf (head : List ℕ) (h : RequestHead) : Type 0 where
  pub reads : ReadsRequest head h []
  pub few : length h.fields ≤ header_limit

-- a header of the grammar: its value without the spaces and tabs around it
abbrev pub field_of : Field → HeaderField
field_of f = record { name = f.name; value = field_value f }

-- a request whose body is the first bytes of those that have come, once there are as many as its length says
abbrev pub with_body : Message → ℕ → List ℕ → Front Message
with_body m size rest = with_content (λ body. record m { body = body }) size rest

-- the same where the length may be refused
abbrev pub with_length : Message → Result ℕ HttpFault → List ℕ → Front Message
with_length m size rest = with_content_length (λ body. record m { body = body }) size rest

-- the request that a head announces, without its body
abbrev pub announced_request : List ℕ → List ℕ → ℕ → List HeaderField → Message
announced_request method target minor headers = record {
  method = method;
  path = target_path target;
  query = target_query target;
  headers = headers;
  body = [];
  last = minor == 0 || asks_close headers;
}

-- a head of the grammar, and the bytes after it
abbrev pub after_head : List ℕ → List ℕ → ℕ → List HeaderField → List ℕ → Front Message
after_head method target minor headers rest =
    if has_transfer_encoding headers then broken Encoding
    else with_length (announced_request method target minor headers) (request_length headers) rest

-- what begins the bytes behind the head of a request
abbrev pub front_of : RequestHead → List ℕ → Front Message
front_of h rest = after_head h.method h.target h.minor (map field_of h.fields) rest

-- a head of lawful size that is read, or is not
abbrev pub ReadsHead : List ℕ → List ℕ → Front Message → Type 0
ReadsHead head rest front = ReadsBy IsHeadOf front_of head rest front

-- a whole head of so many lines, and the bytes after it
abbrev pub AtHead : List ℕ → ℕ → List ℕ → Front Message → Type 0
AtHead head lines rest front = StandsAtHead ReadsHead head lines rest front

-- the same of a request
abbrev pub AtScan : HeadScan → List ℕ → Front Message → Type 0
AtScan scan bytes front = StandsAtScan ReadsHead scan bytes front

-- a stream of these bytes begins so
unfoldable pub Begins : List ℕ → Front Message → Type 0
Begins bytes front = AtScan (head_scan bytes) bytes front

-- the faults that a stream may have; the others are those of calls
abbrev pub IsStreamFault : HttpFault → Type 0
IsStreamFault Syntax = ⊤
IsStreamFault Encoding = ⊤
IsStreamFault TooLarge = ⊤
IsStreamFault Memory = ⊥
IsStreamFault Closed = ⊥

-- how a stream stands after its requests
pub data StreamEnd : Type 0 where
  -- it goes on: of the next request these bytes have come
  unfinished : List ℕ → StreamEnd
  -- its last request said that it is the last
  ended : StreamEnd
  faulty : HttpFault → StreamEnd

-- a stream of these bytes holds these requests from its front, and then stands so
abbrev pub Cuts : List ℕ → List Message → StreamEnd → Type 0
Cuts bytes [] (unfinished rest) = Begins bytes waits × (rest ≡ bytes)
Cuts bytes [] ended = ⊥
Cuts bytes [] (faulty fault) = Begins bytes (broken fault)
Cuts bytes (m ∷ messages) end =
    (rest : List ℕ) × Begins bytes (whole m rest)
    × MatchBool m.last ((messages ≡ []) × (end ≡ ended)) (Cuts rest messages end)
