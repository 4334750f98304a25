-- The turns of a pass between nodes of one world.
-- CouchDB manual, replication/protocol, for what a pass is.
use Rattle.std.specs.Prelude.{◌≡◌, ◌≢◌, ◌⊎◌, ℕ, List, [], ◌∷◌, Option, Some, None}
use Rattle.store.specs.declared.store.Store.{Ghosts}
use Rattle.hub.specs.Answering.{StoreSteps}
use Rattle.repl.specs.Passes.{Asked}
use Rattle.world.specs.Happening.{Sight, exchanges, replied, exchanged, ended}
use Rattle.world.specs.Network.{Network}
use Rattle.world.specs.Playing.{Plays}
use Rattle.world.specs.Service.{alike}
use Rattle.world.specs.declared.fate.Fate.{Fate}
use Rattle.world.specs.declared.fate.Fate.TheVariants.{Answered, RequestLost}

-- what a pass says at its end, among what is seen
abbrev pub end_in : List Sight → Option Asked
end_in [] = None
end_in (replied t ∷ seen) = end_in seen
end_in (exchanged number is_to_target m status ∷ seen) = end_in seen
end_in (ended number asked ∷ seen) = Some asked

-- the pass of this number has its turn: it makes an exchange, or says that it has ended
abbrev pub HasTurn : {S : Type 0} → Ghosts S → ℕ → Network S → Option Asked → Network S → Type 0
HasTurn g number before end after = (seen : List Sight) × Plays (alike (StoreSteps g)) before (exchanges number Answered ∷ []) seen after × (end_in seen ≡ end)

-- the turn of the pass of this number broke off: nothing happened, or an exchange of which the reply may be lost
abbrev pub BreaksOff : {S : Type 0} → Ghosts S → ℕ → Network S → Network S → Type 0
BreaksOff g number before after =
    (after ≡ before)
    ⊎ ((fate : Fate) × (fate ≢ RequestLost) × ((seen : List Sight) × Plays (alike (StoreSteps g)) before (exchanges number fate ∷ []) seen after))
