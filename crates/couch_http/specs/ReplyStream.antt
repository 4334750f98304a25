-- How a stream of replies begins, as a client reads it.
-- RFC 9112, sections 2, 4, 5, 6.1 and 6.3; the limits, and that a reply without `Content-Length` is refused, are this project's own.
use Rattle.std.specs.Prelude.{◌≡◌, ℕ, ◌≤◌, ◌⊎◌, List, [], ◌++◌, length, map, if◌then◌else◌, Option, Some, None, Result, Err}
use Rattle.httparse.specs.Grammar.{ResponseHead, ReadsResponse, status_code}
use Rattle.couch_http.specs.declared.fault.HttpFault.{HttpFault}
use Rattle.couch_http.specs.declared.fault.HttpFault.TheVariants.{Syntax, Encoding, Memory, Closed}
use Rattle.couch_http.specs.Message.{HeaderField}
use Rattle.couch_http.specs.Fields.{content_length, has_transfer_encoding}
use Rattle.couch_http.specs.Front.{Front, waits, broken, whole, header_limit, with_content_length, ReadsBy, BeginsBy}
use Rattle.couch_http.specs.Reply.{Reply}
use Rattle.couch_http.specs.Stream.{IsStreamFault, field_of}

-- the body of a reply has at most so many bytes
unfoldable pub reply_limit : ℕ
reply_limit = 67108864

-- the length of a reply's body, which has to be there
abbrev pub reply_length : List HeaderField → Result ℕ HttpFault
reply_length headers = content_length reply_limit (Err Syntax) headers

-- httparse reads all of the head, and no more, as a response with at most so many headers
pub record IsReplyHeadOf (head : List ℕ) (h : ResponseHead) : Type 0 where
  pub reads : ReadsResponse head h []
  pub few : length h.fields ≤ header_limit

-- the reply of a status, a head and a body
abbrev pub reply_with : ℕ → List ℕ → List ℕ → Reply
reply_with status head body = record { status = status; body = body; bytes = head ++ body }

-- a head with this status and these headers, and the bytes after it
abbrev pub after_reply_head : List ℕ → ℕ → List HeaderField → List ℕ → Front Reply
after_reply_head head status headers rest =
    if has_transfer_encoding headers then broken Encoding
    else with_content_length (λ body. reply_with status head body) (reply_length headers) rest

abbrev pub reply_front : List ℕ → ResponseHead → List ℕ → Front Reply
reply_front head h rest = after_reply_head head (status_code h) (map field_of h.fields) rest

-- a head of lawful size that is read, or is not
abbrev pub ReadsReplyHead : List ℕ → List ℕ → Front Reply → Type 0
ReadsReplyHead head rest front = ReadsBy IsReplyHeadOf (reply_front head) head rest front

-- a stream of these bytes begins so
unfoldable pub BeginsReply : List ℕ → Front Reply → Type 0
BeginsReply bytes front = BeginsBy ReadsReplyHead bytes front

-- The answer to a piece, where old had come of the reply before it: none while the reply isn't whole. A whole reply ends the
-- stream, and the bytes after it are dropped.
abbrev pub GivesReply : Option (List ℕ) → List ℕ → Option Reply → Option (List ℕ) → Type 0
GivesReply (Some old) piece None left = BeginsReply (old ++ piece) waits × (left ≡ Some (old ++ piece))
GivesReply (Some old) piece (Some reply) left = ((rest : List ℕ) × BeginsReply (old ++ piece) (whole reply rest)) × (left ≡ None)
GivesReply None piece reply left = ⊥

-- The refusal of a piece: memory was refused, and nothing has changed; or the stream is none of replies, and has ended; or it
-- had ended before.
abbrev pub RefusesReply : Option (List ℕ) → List ℕ → HttpFault → Option (List ℕ) → Type 0
RefusesReply (Some old) piece fault left =
    ((fault ≡ Memory) × (left ≡ Some old)) ⊎ (IsStreamFault fault × BeginsReply (old ++ piece) (broken fault) × (left ≡ None))
RefusesReply None piece fault left = (fault ≡ Closed) × (left ≡ None)
