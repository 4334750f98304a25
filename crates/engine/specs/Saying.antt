-- What was said to a connection: the replies to what arrived on it.
-- RFC 9112, section 9.3.2, for the order of replies; the fixed replies and the farewell are this project's own.
use Rattle.std.specs.Prelude.{◌≡◌, ◌⊎◌, ◌==◌, ℕ, List, [], ◌∷◌, ◌++◌, if◌then◌else◌}
use Rattle.couch_http.specs.Reply.{Reply}
use Rattle.store.specs.declared.store.Store.{Ghosts}
use Rattle.hub.specs.Arrival.{Arrival, fault_on, request_on, stream_of}
use Rattle.hub.specs.Endings.{refusal_of}
use Rattle.hub.specs.Feeding.{HubState}
use Rattle.hub.specs.Service.{bytes_of, farewell}
use Rattle.engine.specs.Desks.{Deed, Desk, Runs, new_desk, said_in}
use Rattle.engine.specs.Order.{HandlesPieces, fed_in}

-- The replies to what arrived on this connection, in order: of the replies of a run, which are those to the requests of all connections, the
-- ones to its own, and the fixed reply where its stream shows a fault. So where requests arrive on 1, 2 and 1, and have the replies a, b and
-- c, those on 1 are a and c.
abbrev pub replies_on : ℕ → List Arrival → List Reply → List Reply
replies_on conn [] replies = []
replies_on conn (request_on c message ∷ arrivals) [] = []
replies_on conn (request_on c message ∷ arrivals) (reply ∷ replies) = (if c == conn then reply ∷ [] else []) ++ replies_on conn arrivals replies
replies_on conn (fault_on c fault ∷ arrivals) replies = (if c == conn then refusal_of fault else []) ++ replies_on conn arrivals replies

-- the bytes that were said are those of these replies, and then nothing or the farewell
abbrev pub IsSaid : List ℕ → List Reply → Type 0
IsSaid bytes replies = (bytes ≡ bytes_of replies) ⊎ (bytes ≡ bytes_of replies ++ farewell)

-- The requests of all connections are handled in one run, as `HandlesInOrder` says; and to each connection the replies were said, in that
-- run, to what arrived on it.
abbrev pub SaysInOrder : {S : Type 0} → Ghosts S → Type 0
SaysInOrder {S} g =
    (hub : HubState S) (deeds : List Deed) (new : Desk S) (runs : Runs g (new_desk hub) deeds new) → g.is_honest new.hub.node.store
    → (handles : HandlesPieces g hub (fed_in g (new_desk hub) deeds new runs) new.hub)
    × ((conn : ℕ) → IsSaid (stream_of (said_in deeds) conn) (replies_on conn handles.arrivals handles.replies))
