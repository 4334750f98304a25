-- How a stream of messages begins, whatever its heads announce: the requests of a client, or the replies of a server.
-- RFC 9112, sections 2.1, 2.2 and 6.3; the limits and what is refused are this project's own.
use Rattle.std.specs.Prelude.{◌≡◌, ℕ, ◌-◌, ◌⊎◌, Bool, ◌||◌, List, ◌++◌, length, take, drop, if◌then◌else◌, nat_lt, MatchBool, Result, Ok, Err}
use Rattle.couch_http.specs.declared.fault.HttpFault.{HttpFault}
use Rattle.couch_http.specs.declared.fault.HttpFault.TheVariants.{Syntax, TooLarge}
use Rattle.couch_http.specs.Head.{HeadScan, within, complete, head_scan}

-- a head has at most so many bytes
unfoldable pub head_limit : ℕ
head_limit = 16384

-- and at most so many header lines
unfoldable pub header_limit : ℕ
header_limit = 64

-- how a stream begins whose messages are of such a kind
pub data Front (A : Type 0) : Type 0 where
  -- neither a whole message nor a fault is there yet
  waits : Front A
  broken : HttpFault → Front A
  -- a message, and the bytes after its last
  whole : A → List ℕ → Front A

-- What a head announces, made of a body: the body is the first bytes of those that have come, once there are as many as its
-- length says.
abbrev pub with_content : {A : Type 0} → (List ℕ → A) → ℕ → List ℕ → Front A
with_content made size rest = if nat_lt (length rest) size then waits else whole (made (take size rest)) (drop size rest)

-- the same where the length may be refused
abbrev pub with_content_length : {A : Type 0} → (List ℕ → A) → Result ℕ HttpFault → List ℕ → Front A
with_content_length made (Ok size) rest = with_content made size rest
with_content_length made (Err fault) rest = broken fault

-- a head of lawful size that a grammar reads, or doesn't, with the bytes after it
abbrev pub ReadsBy : {A H : Type 0} → (List ℕ → H → Type 0) → (H → List ℕ → Front A) → List ℕ → List ℕ → Front A → Type 0
ReadsBy {A} {H} IsHeadOf front_of head rest front =
    ((h : H) × IsHeadOf head h × (front ≡ front_of h rest))
    ⊎ (((h : H) → ¬ (IsHeadOf head h)) × (front ≡ broken Syntax))

-- the head is too long, or has more lines than the start line and its headers may have
abbrev pub is_too_large : List ℕ → ℕ → Bool
is_too_large head lines = nat_lt head_limit (length head) || nat_lt header_limit (lines - 1)

-- a whole head of so many lines, and the bytes after it; Reads says what is read of a head
abbrev pub StandsAtHead : {A : Type 0} → (List ℕ → List ℕ → Front A → Type 0) → List ℕ → ℕ → List ℕ → Front A → Type 0
StandsAtHead Reads head lines rest front = MatchBool (is_too_large head lines) (front ≡ broken TooLarge) (Reads head rest front)

-- no whole head yet: a stream that is as long as a head may be waits no more
abbrev pub unfinished_head : {A : Type 0} → List ℕ → Front A
unfinished_head bytes = if nat_lt (length bytes) head_limit then waits else broken TooLarge

-- what begins the bytes, where the lines of a head were scanned so far
abbrev pub StandsAtScan : {A : Type 0} → (List ℕ → List ℕ → Front A → Type 0) → HeadScan → List ℕ → Front A → Type 0
StandsAtScan Reads (within lines line) bytes front = front ≡ unfinished_head bytes
StandsAtScan Reads (complete lines rest) bytes front = (head : List ℕ) × (bytes ≡ head ++ rest) × StandsAtHead Reads head lines rest front

-- a stream of these bytes begins so
abbrev pub BeginsBy : {A : Type 0} → (List ℕ → List ℕ → Front A → Type 0) → List ℕ → Front A → Type 0
BeginsBy Reads bytes front = StandsAtScan Reads (head_scan bytes) bytes front
