-- The order in which requests arrive that come in pieces on several connections.
-- RFC 9112, sections 9.3 and 9.3.2, for one connection; that between connections the last byte of a request decides is this project's own.
use Rattle.std.specs.Prelude.{◌≡◌, ⊤, ℕ, ◌==◌, List, [], ◌∷◌, ◌++◌, map, Option, Some, None, if◌then◌else◌}
use Rattle.couch_http.specs.Message.{Message}
use Rattle.couch_http.specs.Stream.{Cuts, StreamEnd, unfinished, ended, faulty}
use Rattle.couch_http.specs.declared.fault.HttpFault.{HttpFault}
use Rattle.hub.specs.Connections.{ConnectionTable, rest_on, with_rest}
use Rattle.hub.specs.Endings.{rest_of}

-- bytes that come on a connection
pub record Piece : Type 0 where
  pub conn : ℕ
  pub bytes : List ℕ

-- what arrives whole on a connection: a request, or a fault of its bytes
pub data Arrival : Type 0 where
  -- a request on this connection
  request_on : ℕ → Message → Arrival
  -- a fault of the stream of this connection
  fault_on : ℕ → HttpFault → Arrival

-- all the bytes that came on a connection
abbrev pub stream_of : List Piece → ℕ → List ℕ
stream_of [] conn = []
stream_of (p ∷ ps) conn = (if p.conn == conn then p.bytes else []) ++ stream_of ps conn

-- the fault that a stream shows now and did not show before
abbrev pub fault_between : ℕ → StreamEnd → StreamEnd → List Arrival
fault_between conn (unfinished rest) (faulty fault) = fault_on conn fault ∷ []
fault_between conn before after = []

-- One more piece on a connection whose stream was this brings the requests whose last bytes are in it, in the order of the
-- stream, and then the fault that it first shows.
pub record Brings (conn : ℕ) (stream bytes : List ℕ) (arrivals : List Arrival) : Type 0 where
  pub old : List Message
  pub before : StreamEnd
  pub held : Cuts stream old before
  pub new : List Message
  pub after : StreamEnd
  pub holds : Cuts (stream ++ bytes) (old ++ new) after
  pub order : arrivals ≡ map (request_on conn) new ++ fault_between conn before after

-- these pieces came before, and those bring these arrivals, in the order of the pieces
abbrev pub Arrives : List Piece → List Piece → List Arrival → Type 0
Arrives earlier [] arrivals = arrivals ≡ []
Arrives earlier (p ∷ ps) arrivals =
    (first others : List Arrival) × Brings p.conn (stream_of earlier p.conn) p.bytes first × Arrives (earlier ++ p ∷ []) ps others
    × (arrivals ≡ first ++ others)

-- ---- the same by what has come of the next requests

-- the fault that a stream shows
abbrev pub fault_at : ℕ → StreamEnd → List Arrival
fault_at conn (unfinished rest) = []
fault_at conn ended = []
fault_at conn (faulty fault) = fault_on conn fault ∷ []

-- A piece on a connection on which this had come of the next request brings the requests that it completes, and the fault that
-- it shows. On an ended connection it brings nothing.
abbrev pub BringsBehind : Option (List ℕ) → ConnectionTable → Piece → List Arrival → ConnectionTable → Type 0
BringsBehind None old p arrivals new = (arrivals ≡ []) × (new ≡ old)
BringsBehind (Some rest) old p arrivals new =
    (messages : List Message) × (end : StreamEnd) × Cuts (rest ++ p.bytes) messages end
    × (arrivals ≡ map (request_on p.conn) messages ++ fault_at p.conn end) × (new ≡ with_rest old p.conn (rest_of end))

-- the pieces, one after another, bring these arrivals to the connections of a table
abbrev pub ArrivesAt : ConnectionTable → List Piece → List Arrival → ConnectionTable → Type 0
ArrivesAt old [] arrivals new = (arrivals ≡ []) × (new ≡ old)
ArrivesAt old (p ∷ ps) arrivals new =
    (first others : List Arrival) × (between : ConnectionTable) × BringsBehind (rest_on old p.conn) old p first between
    × ArrivesAt between ps others new × (arrivals ≡ first ++ others)

-- on the connections of these pieces nothing has come
abbrev pub AreNew : ConnectionTable → List Piece → Type 0
AreNew table [] = ⊤
AreNew table (p ∷ ps) = (rest_on table p.conn ≡ Some []) × AreNew table ps

-- What connections keep of their streams decides as the streams do: where nothing has come on the connections, pieces bring what
-- their streams bring.
abbrev pub KeepsOrder : Type 0
KeepsOrder =
    (table after : ConnectionTable) (pieces : List Piece) (arrivals : List Arrival) → AreNew table pieces → ArrivesAt table pieces arrivals after
    → Arrives [] pieces arrivals

-- pieces bring one order of arrivals
abbrev pub HasOneOrder : Type 0
HasOneOrder = (earlier pieces : List Piece) (arrivals others : List Arrival) → Arrives earlier pieces arrivals → Arrives earlier pieces others → arrivals ≡ others
