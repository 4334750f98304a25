-- What came of waits for connections, as a listener's log has it.
-- This project's own.
use Rattle.std.specs.Prelude.{◌≡◌, ◌≢◌, ◌≤◌, ℕ, Bool, true, false, List, [], ◌∷◌, ◌++◌, length, map}
use Rattle.std.specs.List.{AllByRecursion}
use Rattle.store.specs.declared.store.Store.{Ghosts}
use Rattle.hub.specs.Feeding.{HubState}
use Rattle.server.specs.Serving.{WasServed}
use Rattle.server.specs.declared.acceptance.Acceptance.{Acceptance}
use Rattle.server.specs.declared.acceptance.Acceptance.TheVariants.{Connected, Reset, Failed}

-- what came of each, in order
abbrev pub acceptances_of : List (Acceptance × Unit {0}) → List Acceptance
acceptances_of entries = map (λ e. e.0) entries

-- what a wait did to a hub: a connection was served; one that was reset before it was accepted, or none, changes nothing
abbrev pub ServesOne : {S : Type 0} → Ghosts S → Acceptance → HubState S → HubState S → Type 0
ServesOne g Connected old new = WasServed g old new
ServesOne g Reset old new = new ≡ old
ServesOne g Failed old new = new ≡ old

-- what waits did, one after another
abbrev pub ServesEach : {S : Type 0} → Ghosts S → List Acceptance → HubState S → HubState S → Type 0
ServesEach g [] old new = new ≡ old
ServesEach {S} g (a ∷ others) old new = (between : HubState S) × ServesOne g a old between × ServesEach g others between new

-- each of these brought a connection, or one that was reset
abbrev pub AreConnections : List Acceptance → Type 0
AreConnections accepted = AllByRecursion (λ a. a ≢ Failed) accepted

-- How a server of so many connections ended: with all of them, accepted or reset; or with a wait that failed.
pub record Serves {S : Type 0} (g : Ghosts S) (conns : ℕ) (before after : List Acceptance) (is_ok : Bool) (old new : HubState S) : Type 0 where
  pub accepted : List Acceptance
  pub logged : after ≡ before ++ accepted
  pub serves : ServesEach g accepted old new
  pub all : is_ok ≡ true → (length accepted ≡ conns) × AreConnections accepted
  pub failed : is_ok ≡ false → (length accepted ≤ conns) × ((earlier : List Acceptance) × (accepted ≡ earlier ++ Failed ∷ []) × AreConnections earlier)
