-- How much is kept for a connection at most.
-- This project's own.
use Rattle.std.specs.Prelude.{◌≡◌, ◌≤◌, ℕ, List, length, Some}
use Rattle.std.specs.FinMap.{get}
use Rattle.store.specs.declared.store.Store.{Ghosts}
use Rattle.hub.specs.Feeding.{HubState}
use Rattle.engine.specs.Desks.{Deed, Desk, Runs, new_desk}
use Rattle.engine.specs.Standing.{Standing, greatest_owed, owed_by}

-- after any deeds no more than so many bytes are owed to a connection
abbrev pub OwesWithinBound : {S : Type 0} → Ghosts S → Type 0
OwesWithinBound {S} g =
    (hub : HubState S) (deeds : List Deed) (new : Desk S) (conn : ℕ) (s : Standing) → Runs g (new_desk hub) deeds new → get new.standings conn ≡ Some s
    → length (owed_by s) ≤ greatest_owed
