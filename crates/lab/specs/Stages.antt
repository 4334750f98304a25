-- The program's nodes, connections and passes, as the definition's.
-- This project's own.
use Rattle.std.specs.Prelude.{◌≡◌, ℕ, List, map, string_bytes, Option, Some}
use Rattle.std.specs.Io.KnownBytes.{Appends}
use Rattle.auth.specs.Callers.{Configuration}
use Rattle.store.specs.declared.store.Store.{Ghosts}
use Rattle.lab.specs.declared.layout.Layout.{Layout}
use Rattle.lab.specs.declared.running.Running.{Running}
use Rattle.lab.specs.declared.server.Server.{Server}
use Rattle.lab.specs.declared.script_stage.ScriptStage.{ScriptStage}
use Rattle.lab.specs.declared.script_stage.ScriptStage.TheVariants as stage
use Rattle.lab.specs.Naming.{NamedValue, named_of}
use Rattle.lab.specs.Scene.{NamedNetwork, Plays, Scene, laying, running}
use Rattle.lab.specs.Script.{ScriptLine, line_of}

abbrev pub configuration_of : Server → Configuration
configuration_of server = record { secret = server.secret.now; admins = map string_bytes server.admins.now }

abbrev pub nodes_of : {S : Type 0} → Layout S → List (NamedValue S)
nodes_of layout = map named_of layout.stores.items

abbrev pub names_of : {S : Type 0} → Running S → NamedNetwork S
names_of r = record {
  nodes = map named_of r.nodes.items;
  connections = map named_of r.connections.items;
  passes = map named_of r.passes.items;
  network = r.world;
}

abbrev pub scene_of : {S : Type 0} → ScriptStage S → Scene S
scene_of (stage.Laying layout) = laying (nodes_of layout)
scene_of (stage.Running r) = running (names_of r)

-- this line was played, and what it prints was printed
abbrev pub IsLinePlayed : {S : Type 0} → Ghosts S → Configuration → Scene S → ScriptLine → Option (List ℕ) → Option (List ℕ) → Scene S → Type 0
IsLinePlayed g c before line old new after = (printed : List ℕ) × Plays g c before line printed after × Appends old new printed

-- the same of the bytes of a line
abbrev pub AreBytesPlayed : {S : Type 0} → Ghosts S → Configuration → Scene S → List ℕ → Option (List ℕ) → Option (List ℕ) → Scene S → Type 0
AreBytesPlayed g c before bytes old new after = (line : ScriptLine) × (line_of bytes ≡ Some line) × IsLinePlayed g c before line old new after
