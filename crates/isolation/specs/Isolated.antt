-- What hidden databases can't tell: the statements of the laws.
-- None of it is said by CouchDB's manual; it follows from the definitions.
use Rattle.std.specs.Prelude.{◌≡◌, ℕ, List, Some}
use Rattle.std.specs.List.{slice_get}
use Rattle.auth.specs.Callers.{Configuration, Identity}
use Rattle.store.specs.Contents.{Contents}
use Rattle.node.specs.Hidden.{AreAlike, CallerGroup, Names}
use Rattle.node.specs.Runs.{AreServed, IsRun, Stepped, Steps, end_of, messages_of}
use Rattle.node.specs.Step.{Serving}
use Rattle.world.specs.Happening.{Happening, Sight}
use Rattle.world.specs.Network.{Network}
use Rattle.world.specs.Playing.{Plays}
use Rattle.world.specs.Service.{alike}
use Rattle.isolation.specs.Struck.{AreHiddenFromThroughout, AreHiddenThroughout, only, replies_to, struck}
use Rattle.isolation.specs.Turns.{AreTurns, SeenTurn, sights_in, steps_at}

-- A group of callers is told the same in a run as in one without the requests of others on databases that are hidden from it.
abbrev pub IsolatedWhenStruck : Type 0
IsolatedWhenStruck =
    (c : Configuration) (group : CallerGroup) (names : Names) (before : Contents) (steps others : List (Stepped Contents))
    → IsRun (Steps c) before steps → IsRun (Steps c) before others → AreServed steps → AreServed others → AreHiddenThroughout group names before steps
    → messages_of others ≡ struck c group names (messages_of steps) → replies_to c group others ≡ replies_to c group steps

-- The same of one caller.
abbrev pub IsolatedCaller : Type 0
IsolatedCaller =
    (c : Configuration) (who : Identity) (names : Names) (before : Contents) (steps others : List (Stepped Contents))
    → IsRun (Steps c) before steps → IsRun (Steps c) before others → AreServed steps → AreServed others → AreHiddenFromThroughout who names before steps
    → messages_of others ≡ struck c (only who) names (messages_of steps) → replies_to c (only who) others ≡ replies_to c (only who) steps

-- The same of two runs that have the same other requests, whatever others ask of the hidden databases in each of them, and whatever
-- these hold before.
abbrev pub IsolatedWhenAlike : Type 0
IsolatedWhenAlike =
    (c : Configuration) (group : CallerGroup) (names : Names) (before start : Contents) (steps others : List (Stepped Contents))
    → AreAlike names before start → IsRun (Steps c) before steps → IsRun (Steps c) start others → AreServed steps → AreServed others
    → AreHiddenThroughout group names before steps
    → struck c group names (messages_of others) ≡ struck c group names (messages_of steps) → replies_to c group others ≡ replies_to c group steps

-- Each play is made of turns, and shows what is seen of them.
abbrev pub PlaysAreTurns : Type 0
PlaysAreTurns =
    (old new : Network Contents) (happenings : List Happening) (seen : List Sight) → Plays (alike Steps) old happenings seen new
    → (turns : List SeenTurn) × (seen ≡ sights_in turns) × AreTurns old.nodes turns new.nodes

-- Through turns each node goes through a run of its steps.
abbrev pub NodesRun : Type 0
NodesRun =
    (old new : List (Serving Contents)) (turns : List SeenTurn) (place : ℕ) (node : Serving Contents) → AreTurns old turns new → slice_get old place ≡ Some node
    → IsRun (Steps node.configuration) node.store (steps_at place turns)
    × (slice_get new place ≡ Some (record node { store = end_of node.store (steps_at place turns) }))

-- Two networks, perhaps of other nodes, connections and passes, are played, and a node of each has the same other requests: it tells the
-- group the same.
abbrev pub IsolatedInPlays : Type 0
IsolatedInPlays =
    (group : CallerGroup) (names : Names) (c : Configuration) (before start : Contents) (old new was now : List (Serving Contents)) (turns others : List SeenTurn) (place spot : ℕ)
    → AreTurns old turns new → AreTurns was others now
    → slice_get old place ≡ Some (record { store = before; configuration = c }) → slice_get was spot ≡ Some (record { store = start; configuration = c })
    → AreAlike names before start → AreServed (steps_at place turns) → AreServed (steps_at spot others)
    → AreHiddenThroughout group names before (steps_at place turns)
    → struck c group names (messages_of (steps_at spot others)) ≡ struck c group names (messages_of (steps_at place turns))
    → replies_to c group (steps_at spot others) ≡ replies_to c group (steps_at place turns)
