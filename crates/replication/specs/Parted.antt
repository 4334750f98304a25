-- Events that are played in parts: in two calls, and with connections and passes that are added between.
-- None of it is said by a standard; it follows from the definitions.
use Rattle.std.specs.Prelude.{◌≡◌, ◌≢◌, ⊤, ℕ, length, List, [], ◌∷◌, ◌++◌}
use Rattle.hub.specs.Connections.{with_connection}
use Rattle.node.specs.Runs.{IsServedReply, Steps}
use Rattle.store.specs.Contents.{Contents}
use Rattle.world.specs.Happening.{Happening, Sight, comes, ended, exchanged, exchanges, replied}
use Rattle.world.specs.Network.{Network, Transfer}
use Rattle.world.specs.Playing.{Plays}
use Rattle.world.specs.Service.{Handling, IsHandled, StepOf, alike}
use Rattle.world.specs.OneEvent.{AreKnown}
use Rattle.world.specs.declared.fate.Fate.TheVariants.{Answered, ReplyLost, RequestLost}

-- ---- two calls

-- whoever asks, a request is handled, and its reply stands neither for a fault of the store nor for want of memory
abbrev pub Serves : {S : Type 0} → StepOf S → Handling S
Serves step who old place m reply new = IsHandled step old place m reply new × IsServedReply reply

-- The same events from the same network have one outcome, where each request was served.
abbrev pub PlaysHaveOneOutcome : Type 0
PlaysHaveOneOutcome =
    (old new other : Network Contents) (hs : List Happening) (seen told : List Sight) → Plays (Serves Steps) old hs seen new → Plays (Serves Steps) old hs told other
    → (seen ≡ told) × (new ≡ other)

-- It makes no difference whether events are played in one call or in two, where each request was served.
abbrev pub TwoCallsAreOne : Type 0
TwoCallsAreOne =
    (a b c d : Network Contents) (earlier later : List Happening) (seen others all : List Sight) → Plays (Serves Steps) a earlier seen b → Plays (Serves Steps) b later others c
    → Plays (Serves Steps) a (earlier ++ later) all d → (all ≡ seen ++ others) × (d ≡ c)

-- what is seen is no reply of 500 or 503
abbrev pub IsServedSight : Sight → Type 0
IsServedSight (replied t) = IsServedReply t.reply
IsServedSight (exchanged number is_to_target m status) = (status ≢ 500) × (status ≢ 503)
IsServedSight (ended number asked) = ⊤

-- nothing that is seen is one
abbrev pub AreServedSights : List Sight → Type 0
AreServedSights [] = ⊤
AreServedSights (s ∷ ss) = IsServedSight s × AreServedSights ss

-- no reply to a pass is lost: of one that is lost nothing is seen
abbrev pub IsHeard : Happening → Type 0
IsHeard (comes piece) = ⊤
IsHeard (exchanges number Answered) = ⊤
IsHeard (exchanges number ReplyLost) = ⊥
IsHeard (exchanges number RequestLost) = ⊤

-- so it is of several events
abbrev pub AreHeard : List Happening → Type 0
AreHeard [] = ⊤
AreHeard (h ∷ hs) = IsHeard h × AreHeard hs

-- Where no reply is lost, and none that is seen is a 500 or a 503, each request was served.
abbrev pub SightsTellService : {S : Type 0} → StepOf S → Type 0
SightsTellService {S} step =
    (old new : Network S) (hs : List Happening) (seen : List Sight) → AreHeard hs → AreServedSights seen → Plays (alike step) old hs seen new → Plays (Serves step) old hs seen new

-- The same of two calls by what is seen: where no reply is lost, and none that is seen is a 500 or a 503.
abbrev pub TwoCallsAreSeenAsOne : Type 0
TwoCallsAreSeenAsOne =
    (a b c d : Network Contents) (earlier later : List Happening) (seen others all : List Sight) → AreHeard earlier → AreHeard later → AreServedSights seen → AreServedSights others → AreServedSights all
    → Plays (alike Steps) a earlier seen b → Plays (alike Steps) b later others c → Plays (alike Steps) a (earlier ++ later) all d → (all ≡ seen ++ others) × (d ≡ c)

-- ---- what is added between

-- a network with one more connection, to the node of this number
abbrev pub with_home : {S : Type 0} → ℕ → Network S → Network S
with_home node old = record old { homes = old.homes ++ node ∷ []; connections = with_connection old.connections }

-- a network with one more pass
abbrev pub with_pass : {S : Type 0} → Transfer → Network S → Network S
with_pass t old = record old { transfers = old.transfers ++ t ∷ [] }

-- What was played before a connection was opened is what is played after it was opened.
abbrev pub OpeningChangesNothing : {S : Type 0} → Handling S → Type 0
OpeningChangesNothing {S} handling =
    (node : ℕ) (old new : Network S) (hs : List Happening) (seen : List Sight) → length old.homes ≡ old.connections.opened → AreKnown old.connections old.transfers hs
    → Plays handling old hs seen new → Plays handling (with_home node old) hs seen (with_home node new)

-- What was played before a pass was started is what is played after it was started.
abbrev pub StartingChangesNothing : {S : Type 0} → Handling S → Type 0
StartingChangesNothing {S} handling =
    (t : Transfer) (old new : Network S) (hs : List Happening) (seen : List Sight) → Plays handling old hs seen new → Plays handling (with_pass t old) hs seen (with_pass t new)

-- ---- two calls, and what is added between

-- It makes no difference whether a connection is opened before two calls or between them, and whether these are one, where each request was
-- served. Requests and replies of passes may be lost.
abbrev pub OpeningMayComeBetween : Type 0
OpeningMayComeBetween =
    (node : ℕ) (a b c d : Network Contents) (earlier later : List Happening) (seen others all : List Sight) → length a.homes ≡ a.connections.opened → AreKnown a.connections a.transfers earlier
    → Plays (Serves Steps) a earlier seen b → Plays (Serves Steps) (with_home node b) later others c → Plays (Serves Steps) (with_home node a) (earlier ++ later) all d
    → (all ≡ seen ++ others) × (d ≡ c)

-- The same of a pass that is started.
abbrev pub StartingMayComeBetween : Type 0
StartingMayComeBetween =
    (t : Transfer) (a b c d : Network Contents) (earlier later : List Happening) (seen others all : List Sight) → Plays (Serves Steps) a earlier seen b
    → Plays (Serves Steps) (with_pass t b) later others c → Plays (Serves Steps) (with_pass t a) (earlier ++ later) all d → (all ≡ seen ++ others) × (d ≡ c)
