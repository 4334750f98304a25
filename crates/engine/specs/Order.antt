-- Which pieces were fed, and in which order their requests were handled.
-- RFC 9112, section 9.3.2, for one connection; that between connections the last byte of a request decides is this project's own.
use Rattle.std.specs.Prelude.{◌∷◌, ◌++◌, ℕ, List, []}
use Rattle.std.proofs.Common.{inl, inr}
use Rattle.couch_http.specs.Message.{Message}
use Rattle.couch_http.specs.Reply.{Reply}
use Rattle.store.specs.declared.store.Store.{Ghosts}
use Rattle.hub.specs.Answering.{RepliesInOrder}
use Rattle.hub.specs.Arrival.{Arrival, Arrives, Piece, fault_on, request_on}
use Rattle.hub.specs.Feeding.{HubState}
use Rattle.engine.specs.Acts.{Act, accepted, opened, brought, took, closed}
use Rattle.engine.specs.Desks.{Deed, Desk, Does, Runs, new_desk}

-- the piece that an act brought, where it was fed; not one that the hub refused, nor one that was passed over
abbrev pub fed_by : {S : Type 0} (g : Ghosts S) (old : Desk S) (act : Act) (words : List ℕ) (new : Desk S) → Does g old act words new → List Piece
fed_by g old (brought conn bytes) words new (was, now, at, inl feeds, is) = record { conn = conn; bytes = bytes } ∷ []
fed_by g old (brought conn bytes) words new (was, now, at, inr others, is) = []
fed_by g old accepted words new does = []
fed_by g old (opened conn) words new does = []
fed_by g old (took conn bytes) words new does = []
fed_by g old (closed conn) words new does = []

-- The pieces of a run that were fed, in order. So where 1 is served and brings a, and 2 is ending and brings b, it is a on 1 alone.
abbrev pub fed_in : {S : Type 0} (g : Ghosts S) (old : Desk S) (deeds : List Deed) (new : Desk S) → Runs g old deeds new → List Piece
fed_in g old [] new runs = []
fed_in g old (d ∷ deeds) new (between, does, rest) = fed_by g old d.act d.words between does ++ fed_in g between deeds new rest

-- the requests among arrivals
abbrev pub requests_of : List Arrival → List Message
requests_of [] = []
requests_of (request_on conn message ∷ arrivals) = message ∷ requests_of arrivals
requests_of (fault_on conn fault ∷ arrivals) = requests_of arrivals

-- These pieces bring some arrivals, and the requests among them are handled in one run, in their order: it leads from the one store to the
-- other.
pub record HandlesPieces {S : Type 0} (g : Ghosts S) (old : HubState S) (pieces : List Piece) (new : HubState S) : Type 0 where
  pub arrivals : List Arrival
  pub replies : List Reply
  pub arrives : Arrives [] pieces arrivals
  pub handled : RepliesInOrder g old.node.configuration old.node.store (requests_of arrivals) replies new.node.store

-- The requests of all connections are handled in one run: in the order in which they arrive with the pieces that were fed. It is said where
-- the store returned what was written.
abbrev pub HandlesInOrder : {S : Type 0} → Ghosts S → Type 0
HandlesInOrder {S} g =
    (hub : HubState S) (deeds : List Deed) (new : Desk S) (runs : Runs g (new_desk hub) deeds new) → g.is_honest new.hub.node.store
    → HandlesPieces g hub (fed_in g (new_desk hub) deeds new runs) new.hub
