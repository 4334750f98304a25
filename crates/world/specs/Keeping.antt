-- Runs in which the two databases of a pass are never removed.
-- This project's own.
use Rattle.std.specs.Prelude.{◌≡◌, ℕ, List, Some}
use Rattle.std.specs.FinMap.{get}
use Rattle.std.specs.List.{slice_get}
use Rattle.store.specs.Contents.{Contents}
use Rattle.store.specs.Database.{Database, IsLater}
use Rattle.node.specs.Runs.{Steps}
use Rattle.node.specs.Step.{Serving}
use Rattle.world.specs.Happening.{Happening, Sight}
use Rattle.world.specs.Network.{Network, Transfer}
use Rattle.world.specs.Playing.{Plays}
use Rattle.world.specs.Service.{Handling, IsHandled}

-- the database of this name at the node of this number
pub record IsAt (nodes : List (Serving Contents)) (place : ℕ) (name : List ℕ) (db : Database) : Type 0 where
  pub node : Serving Contents
  pub there : slice_get nodes place ≡ Some node
  pub holds : get node.store name ≡ Some db

-- where there is one before, there is one after
abbrev pub StaysAt : List (Serving Contents) → List (Serving Contents) → ℕ → List ℕ → Type 0
StaysAt old new place name = (db : Database) → IsAt old place name db → (now : Database) × IsAt new place name now

-- whoever asks, a request is handled, and both databases of the pass stay
abbrev pub Keeping : Transfer → Handling Contents
Keeping t who old place m reply new =
    IsHandled Steps old place m reply new × StaysAt old new t.from t.pass.configuration.source_db × StaysAt old new t.to t.pass.configuration.target_db

-- through such a run the database of either side becomes a later one
abbrev pub DatabasesBecomeLater : Type 0
DatabasesBecomeLater =
    (t : Transfer) (hs : List Happening) (seen : List Sight) (old new : Network Contents) → Plays (Keeping t) old hs seen new
    → ((db : Database) → IsAt old.nodes t.from t.pass.configuration.source_db db
    → (now : Database) × IsAt new.nodes t.from t.pass.configuration.source_db now × IsLater db now)
    × ((db : Database) → IsAt old.nodes t.to t.pass.configuration.target_db db
    → (now : Database) × IsAt new.nodes t.to t.pass.configuration.target_db now × IsLater db now)
