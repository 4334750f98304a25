-- What comes of pieces of bytes that come on the connections of nodes, and of the exchanges of passes.
-- RFC 9112, section 9, and CouchDB manual, replication/protocol; that all comes in one order is this project's own.
use Rattle.std.specs.Prelude.{◌≡◌, ℕ, List, [], ◌∷◌, ◌++◌, map}
use Rattle.hub.specs.Arrival.{Arrival, Arrives, Brings, BringsBehind, Piece, stream_of}
use Rattle.hub.specs.Connections.{rest_on}
use Rattle.node.specs.Step.{Serving}
use Rattle.world.specs.Exchanging.{IsExchanged}
use Rattle.world.specs.Happening.{Happening, Sight, comes, exchanges, replied}
use Rattle.world.specs.Network.{Network}
use Rattle.world.specs.Service.{Handling, IsService, SeenReply}

-- what is seen of replies on connections
abbrev pub all_replied : List SeenReply → List Sight
all_replied told = map replied told

module _ {S : Type 0} (handling : Handling S) where
  -- Arrivals that are brought so have their replies. Which node a connection leads to stays, and so do the passes.
  pub record AreAnswered (are_brought : List Arrival → Type 0) (old : Network S) (seen : List SeenReply) (new : Network S) : Type 0 where
    pub arrivals : List Arrival
    pub brought : are_brought arrivals
    pub served : IsService handling old.homes old.nodes arrivals seen new.nodes
    pub homes : new.homes ≡ old.homes
    pub transfers : new.transfers ≡ old.transfers

  -- a piece brings what is whole with it, behind what had come on its connection
  abbrev pub IsPlayed : Network S → Piece → List SeenReply → Network S → Type 0
  IsPlayed old piece seen new =
      AreAnswered (λ arrivals. BringsBehind (rest_on old.connections piece.conn) old.connections piece arrivals new.connections) old seen new

  -- what comes of one event
  abbrev pub Happens : Network S → Happening → List Sight → Network S → Type 0
  Happens old (comes piece) seen new = (told : List SeenReply) × IsPlayed old piece told new × (seen ≡ all_replied told)
  Happens old (exchanges number fate) seen new = IsExchanged handling fate old number seen new

  -- what comes of events, one after another
  abbrev pub Plays : Network S → List Happening → List Sight → Network S → Type 0
  Plays old [] seen new = (seen ≡ []) × (new ≡ old)
  Plays old (h ∷ hs) seen new =
      (first others : List Sight) × (between : Network S) × Happens old h first between × Plays between hs others new × (seen ≡ first ++ others)

  -- ---- in the order of arrival

  -- What comes of events in their order, behind these earlier pieces. A piece brings the arrivals that the whole stream of its connection had not
  -- brought before: what the connection keeps of its stream plays no part in it. Each exchange stands at its place.
  abbrev pub PlaysInOrder : List Piece → Network S → List Happening → List Sight → Network S → Type 0
  PlaysInOrder earlier old [] seen new = (seen ≡ []) × (new ≡ old)
  PlaysInOrder earlier old (comes piece ∷ hs) seen new =
      (told : List SeenReply) × (others : List Sight) × (between : Network S)
      × AreAnswered (Brings piece.conn (stream_of earlier piece.conn) piece.bytes) old told between
      × PlaysInOrder (earlier ++ piece ∷ []) between hs others new × (seen ≡ all_replied told ++ others)
  PlaysInOrder earlier old (exchanges number fate ∷ hs) seen new =
      (first others : List Sight) × (between : Network S) × IsExchanged handling fate old number first between
      × PlaysInOrder earlier between hs others new × (seen ≡ first ++ others)

  -- the replies are those to the requests of the pieces in the order of their arrival
  pub record IsPlayedInOrder (homes : List ℕ) (old : List (Serving S)) (pieces : List Piece) (seen : List SeenReply) (new : List (Serving S)) : Type 0 where
    pub arrivals : List Arrival
    pub arrive : Arrives [] pieces arrivals
    pub served : IsService handling homes old arrivals seen new
