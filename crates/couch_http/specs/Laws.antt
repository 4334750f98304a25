-- What holds of every stream.
-- RFC 9112 says none of it; it follows from the definitions of `Stream`, `ReplyStream`, `Pieces` and `Places`.
use Rattle.std.specs.Prelude.{◌≡◌, ℕ, ◌<◌, ◌≤◌, ◌↔◌, Bool, List, [], ◌++◌, length, All}
use Rattle.http.specs.StatusCode.{IsStatusCode}
use Rattle.couch_http.specs.Message.{Message}
use Rattle.couch_http.specs.Head.{IsHead, head_scan, complete}
use Rattle.couch_http.specs.Stream.{waits, Begins, StreamEnd, unfinished, ended, faulty, Cuts, IsStreamFault}
use Rattle.couch_http.specs.Pieces.{bytes_of_pieces, CutInPieces}
use Rattle.couch_http.specs.Places.{EndsAt}
use Rattle.couch_http.specs.Front.{Front, broken, whole}
use Rattle.couch_http.specs.Reply.{Reply, reply_of, fixed_reply}
use Rattle.couch_http.specs.ReplyStream.{BeginsReply, reply_limit}
use Rattle.couch_http.specs.declared.fault.HttpFault.{HttpFault}
use Rattle.couch_http.specs.declared.fixed.Fixed.{Fixed}

-- a stream holds one list of requests, and then stands in one way
abbrev pub HasOneReading : Type 0
HasOneReading =
    (bytes : List ℕ) (messages others : List Message) (end other : StreamEnd)
    → Cuts bytes messages end → Cuts bytes others other → (messages ≡ others) × (end ≡ other)

-- more bytes leave the requests, and go on from what was left
abbrev pub GoesOnFromRest : Type 0
GoesOnFromRest =
    (bytes more : List ℕ) (messages others : List Message) (rest : List ℕ) (end : StreamEnd)
    → Cuts bytes messages (unfinished rest) → Cuts (rest ++ more) others end → Cuts (bytes ++ more) (messages ++ others) end

-- an end and a fault stay, whatever comes
abbrev pub StaysEnded : Type 0
StaysEnded =
    (bytes more : List ℕ) (messages : List Message)
    → (Cuts bytes messages ended → Cuts (bytes ++ more) messages ended)
    × ((fault : HttpFault) → Cuts bytes messages (faulty fault) → Cuts (bytes ++ more) messages (faulty fault))

-- two ways to cut a stream into pieces give the same requests and the same end
abbrev pub PiecesDoNotMatter : Type 0
PiecesDoNotMatter =
    (pieces others : List (List ℕ)) (messages also : List Message) (end other : StreamEnd) → bytes_of_pieces pieces ≡ bytes_of_pieces others
    → CutInPieces [] pieces messages end → CutInPieces [] others also other → (messages ≡ also) × (end ≡ other)

-- the front of a stream that a search for the end of a head passes is a head, and there is no other
abbrev pub HeadsAreFound : Type 0
HeadsAreFound =
    (head rest : List ℕ) (lines : ℕ) → IsHead head lines ↔ (head_scan (head ++ rest) ≡ complete lines rest)

-- a fault is one of the three that a stream may have
abbrev pub HasStreamFaults : Type 0
HasStreamFaults = (bytes : List ℕ) (messages : List Message) (fault : HttpFault) → Cuts bytes messages (faulty fault) → IsStreamFault fault

-- the requests that a stream holds have their last bytes at one list of places, with a place for each
abbrev pub HasOnePlaceEach : Type 0
HasOnePlaceEach =
    (bytes : List ℕ) (messages : List Message) (end : StreamEnd) → Cuts bytes messages end
    → (places : List ℕ) × EndsAt 0 bytes messages places × (length places ≡ length messages)
    × ((others : List ℕ) → EndsAt 0 bytes messages others → others ≡ places)

-- a request comes with the piece that has its last byte
abbrev pub ComesWithLastByte : Type 0
ComesWithLastByte =
    (left piece : List ℕ) (messages : List Message) (places : List ℕ)
    → Begins left waits → EndsAt 0 (left ++ piece) messages places → All (λ place. length left < place) places

-- A stream of replies begins in one way; and what it began with, a reply or a fault, stays, whatever comes. So it doesn't
-- matter in which pieces it comes.
abbrev pub RepliesHaveOneReading : Type 0
RepliesHaveOneReading =
    ((bytes : List ℕ) (front other : Front Reply) → BeginsReply bytes front → BeginsReply bytes other → front ≡ other)
    × ((bytes more : List ℕ) (reply : Reply) (rest : List ℕ) → BeginsReply bytes (whole reply rest) → BeginsReply (bytes ++ more) (whole reply (rest ++ more)))
    × ((bytes more : List ℕ) (fault : HttpFault) → BeginsReply bytes (broken fault) → BeginsReply (bytes ++ more) (broken fault))

-- A stream that begins with the bytes of a reply of ours begins with that reply: its status, its body and its bytes; and it goes
-- on with the bytes behind them, also where the reply says that the connection ends. A client reads a status of three digits,
-- and a body up to its limit.
abbrev pub RepliesAreReadBack : Type 0
RepliesAreReadBack =
    ((status : ℕ) (body : List ℕ) (last : Bool) (rest : List ℕ) → IsStatusCode status → length body ≤ reply_limit
    → BeginsReply ((reply_of status body last).bytes ++ rest) (whole (reply_of status body last) rest))
    × ((fixed : Fixed) (rest : List ℕ) → BeginsReply ((fixed_reply fixed).bytes ++ rest) (whole (fixed_reply fixed) rest))
