-- Runs of a network, and what a pass takes in through a run: its turns, each a node's reply to what the pass asked, or a loss.
-- CouchDB manual, replication/protocol; that a request or its reply may be lost is this project's own.
use Rattle.std.specs.Prelude.{ℕ, ◌==◌, List, [], ◌∷◌, ◌++◌, Option, option_map, if◌then◌else◌}
use Rattle.repl.specs.Passes.{Asked, Pass, to_source, to_target, asked_of}
use Rattle.repl.specs.Turns.{Turn}
use Rattle.world.specs.Exchanging.{IsAsked}
use Rattle.world.specs.Happening.{Happening, Sight, comes, exchanges}
use Rattle.world.specs.Network.{Network, Transfer, transfer_at}
use Rattle.world.specs.Playing.{Happens, Plays}
use Rattle.world.specs.Service.{Handling}
use Rattle.world.specs.declared.fate.Fate.{Fate}

-- events that lead from one network to another, and what is seen of them
pub record Run {S : Type 0} (handling : Handling S) (old new : Network S) : Type 0 where
  pub happenings : List Happening
  pub seen : List Sight
  pub played : Plays handling old happenings seen new

-- where the pass of this number stands
abbrev pub pass_at : List Transfer → ℕ → Option Pass
pass_at transfers number = option_map (λ t. t.pass) (transfer_at transfers number)

-- ---- turns

-- the turn of the pass that asks; a pass that has ended takes none
abbrev pub turns_asked : {S : Type 0} (handling : Handling S) (fate : Fate) (old : Network S) (number : ℕ) (t : Transfer) (asked : Asked) (seen : List Sight) (new : Network S)
    → IsAsked handling fate old number t asked seen new → List Turn
turns_asked handling fate old number t (to_source m) seen new p = p.turn ∷ []
turns_asked handling fate old number t (to_target m) seen new p = p.turn ∷ []
turns_asked handling fate old number t ending seen new p = []

-- the turns of the pass of this number at one event: one where it asks, and else none
abbrev pub turns_at : {S : Type 0} (handling : Handling S) (n : ℕ) (h : Happening) (old : Network S) (seen : List Sight) (new : Network S) → Happens handling old h seen new → List Turn
turns_at handling n (comes piece) old seen new p = []
turns_at handling n (exchanges number fate) old seen new p =
    if number == n then turns_asked handling fate old number p.transfer (asked_of p.transfer.pass) seen new p.asked else []

-- its turns at several events, in order
abbrev pub turns_in : {S : Type 0} (handling : Handling S) (n : ℕ) (hs : List Happening) (old : Network S) (seen : List Sight) (new : Network S) → Plays handling old hs seen new → List Turn
turns_in handling n [] old seen new p = []
turns_in handling n (h ∷ hs) old seen new (first, others, between, here, later, order) =
    turns_at handling n h old first between here ++ turns_in handling n hs between others new later

-- the turns that the pass of this number takes in a run, in order
abbrev pub turns_of : {S : Type 0} {handling : Handling S} {old new : Network S} → Run handling old new → ℕ → List Turn
turns_of {S} {handling} {old} {new} run n = turns_in handling n run.happenings old run.seen new run.played
