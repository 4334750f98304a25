-- What a connection took, and what was said to it.
-- RFC 9112, section 9.3.2, for the order of replies.
use Rattle.std.specs.Prelude.{ℕ, List, [], ◌∷◌}
use Rattle.store.specs.declared.store.Store.{Ghosts}
use Rattle.couch_http.specs.Writing.{IsPrefix}
use Rattle.hub.specs.Arrival.{Piece, stream_of}
use Rattle.hub.specs.Feeding.{HubState}
use Rattle.engine.specs.Acts.{Act, accepted, opened, brought, took, closed}
use Rattle.engine.specs.Desks.{Deed, Desk, Runs, acts_in, new_desk, said_in}

-- What all connections took, in order. So of `took 1 a`, `closed 1` and `took 2 b` it is a on 1, and then b on 2.
abbrev pub taken_of : List Act → List Piece
taken_of [] = []
taken_of (took conn bytes ∷ acts) = record { conn = conn; bytes = bytes } ∷ taken_of acts
taken_of (accepted ∷ acts) = taken_of acts
taken_of (opened conn ∷ acts) = taken_of acts
taken_of (brought conn bytes ∷ acts) = taken_of acts
taken_of (closed conn ∷ acts) = taken_of acts

-- all that a connection took is a first part of all that was said to it
abbrev pub TakesInOrder : {S : Type 0} → Ghosts S → Type 0
TakesInOrder {S} g =
    (hub : HubState S) (deeds : List Deed) (new : Desk S) (conn : ℕ) → Runs g (new_desk hub) deeds new
    → IsPrefix (stream_of (taken_of (acts_in deeds)) conn) (stream_of (said_in deeds) conn)
