-- What a server of many connections does: one act after another.
-- RFC 9112, section 9.3.2, for one connection; that the pieces of all are handled in the order in which they came is this project's own.
use Rattle.std.specs.Prelude.{◌≡◌, ℕ, List, [], ◌∷◌, ◌++◌, map, Option, Some}
use Rattle.std.specs.FinMap.{FinMap, empty, get, insert, remove}
use Rattle.std.specs.Ordering.{nat_cmp}
use Rattle.store.specs.declared.store.Store.{Ghosts}
use Rattle.hub.specs.Arrival.{Piece}
use Rattle.hub.specs.Connections.{next_connection}
use Rattle.hub.specs.Feeding.{HubState}
use Rattle.hub.specs.Service.{hub_with_connection, hub_without}
use Rattle.engine.specs.Acts.{Act, Logs, accepted, opened, brought, took, closed, conn_of}
use Rattle.engine.specs.Standing.{Seat, Standing, TakesPiece, owed_by, serving, with_owed}

-- a hub, and how each connection that has not been closed stands
pub record Desk (S : Type 0) : Type 0 where
  pub hub : HubState S
  pub standings : FinMap nat_cmp Standing

-- a hub whose server has no connections
abbrev pub new_desk : {S : Type 0} → HubState S → Desk S
new_desk hub = record { hub = hub; standings = empty }

-- what one act does, and the words that become owed by it
abbrev pub Does : {S : Type 0} → Ghosts S → Desk S → Act → List ℕ → Desk S → Type 0
Does g old accepted words new = (words ≡ []) × (new ≡ old)
Does g old (opened c) words new =
    (words ≡ []) × (c ≡ next_connection old.hub.connections)
    × (new ≡ record { hub = hub_with_connection old.hub; standings = insert old.standings c (serving []) })
Does g old (closed c) words new = (words ≡ []) × (new ≡ record { hub = hub_without c old.hub; standings = remove old.standings c })
-- a piece that came on a connection changes the hub, and how this connection stands
Does {S} g old (brought c bytes) words new =
    (was : Standing) × (now : Seat S) × (get old.standings c ≡ Some was)
    × TakesPiece g (record { hub = old.hub; standing = was }) (record { conn = c; bytes = bytes }) words now
    × (new ≡ record { hub = now.hub; standings = insert old.standings c now.standing })
-- only what is owed is taken, in its order
Does g old (took c bytes) words new =
    (was : Standing) × (left : List ℕ) × (get old.standings c ≡ Some was) × (owed_by was ≡ bytes ++ left) × (words ≡ [])
    × (new ≡ record old { standings = insert old.standings c (with_owed was left) })

-- an act, and the words that become owed to its connection by it
pub record Deed : Type 0 where
  pub act : Act
  pub words : List ℕ

-- the acts of deeds
abbrev pub acts_in : List Deed → List Act
acts_in deeds = map (λ d. d.act) deeds

-- all that was said, and to which connection, in order
abbrev pub said_in : List Deed → List Piece
said_in deeds = map (λ d. record { conn = conn_of d.act; bytes = d.words }) deeds

-- Deeds, one after another, lead from one desk to the other. So `opened 1`, `brought 1 piece`, `took 1 bytes`, `closed 1` may lead from a desk
-- without connections back to one, but no run begins there with `took 1 bytes`: nothing is owed to a connection that isn't open.
abbrev pub Runs : {S : Type 0} → Ghosts S → Desk S → List Deed → Desk S → Type 0
Runs g old [] new = new ≡ old
Runs {S} g old (d ∷ deeds) new = (between : Desk S) × Does g old d.act d.words between × Runs g between deeds new

-- a hub at one moment, and all that went through the sockets of its server, where that is known
pub record Moment (S : Type 0) : Type 0 where
  pub hub : HubState S
  pub log : Option (List Act)

-- A hub was served from one moment to the other: these deeds were logged, where the log is known, and lead from the one hub to the other.
-- At first no connection is open.
pub record ServesAll {S : Type 0} (g : Ghosts S) (old new : Moment S) : Type 0 where
  pub deeds : List Deed
  pub standings : FinMap nat_cmp Standing
  pub logs : Logs old.log new.log (acts_in deeds)
  pub runs : Runs g (new_desk old.hub) deeds (record { hub = new.hub; standings = standings })
