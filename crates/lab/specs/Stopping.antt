-- Which line stops a script: one that is no line, or one that can't be played behind those before it.
-- docs/PROFILE.md, 'The lab'. A line is bad if it is none of the table there, or names something unknown or there already. A `node` or a `public` is bad too behind
-- the first `conn`, `repl` or `batch`.
use Rattle.std.specs.Prelude.{◌≡◌, ◌≢◌, ℕ, zero, suc, ◌+◌, ◌<◌, length, ⊤, Bool, true, false, not, ◌&&◌, List, [], ◌∷◌, ◌++◌, map, bytes_eq, Option, Some, None, is_some, option_and_then, Result, Ok, Err, if◌then◌else◌}
use Rattle.std.specs.FinMap.{empty, get, insert}
use Rattle.std.specs.Io.BufRead.{first_piece}
use Rattle.std.specs.List.{list_any}
use Rattle.store.specs.Contents.{Contents}
use Rattle.store.specs.declared.store.Store.{Ghosts}
use Rattle.command_line.specs.declared.fault.ProgramFault.{ProgramFault}
use Rattle.command_line.specs.declared.fault.ProgramFault.TheVariants.{Line}
use Rattle.lab.specs.Naming.{NamedValue, value_named}
use Rattle.lab.specs.Playing.{after_lines}
use Rattle.lab.specs.PassLines.{PassWords}
use Rattle.lab.specs.Scene.{NamedNetwork, Scene, laying, open_database, running}
use Rattle.lab.specs.declared.fault.LineFault.{LineFault}
use Rattle.lab.specs.declared.fault.LineFault.TheVariants as fault_of
use Rattle.lab.specs.Script.{ScriptLine, node_line, public_line, conn_line, send_line, close_line, repl_line, turn_line, line_of}

-- what a script has named so far
pub record ScriptNames : Type 0 where
  -- the nodes, each with the databases that `public` has made on it
  pub nodes : List (NamedValue Contents)
  pub connections : List (List ℕ)
  pub passes : List (List ℕ)
  -- there was a `conn`, a `repl` or a `batch`
  pub has_begun : Bool

abbrev pub no_names : ScriptNames
no_names = record { nodes = []; connections = []; passes = []; has_begun = false }

abbrev pub all_names : {A : Type 0} → List (NamedValue A) → List (List ℕ)
all_names entries = map (λ e. e.name) entries

abbrev pub is_among : List ℕ → List (List ℕ) → Bool
is_among name names = list_any (λ n. bytes_eq name n) names

-- there is a node of this name
abbrev pub has_node : ScriptNames → List ℕ → Bool
has_node names node = is_among node (all_names names.nodes)

-- the node of this name has a database of that one
abbrev pub has_database_in : List (NamedValue Contents) → List ℕ → List ℕ → Bool
has_database_in [] node name = false
has_database_in (e ∷ es) node name = if bytes_eq node e.name then is_some (get e.value name) else has_database_in es node name

-- what a line names is there where it has to be, is new where it is named first, and doesn't come too late
abbrev pub can_be_played : ScriptNames → ScriptLine → Bool
can_be_played names (node_line name) = not names.has_begun && not (has_node names name)
can_be_played names (public_line node name) = not names.has_begun && (has_node names node && not (has_database_in names.nodes node name))
can_be_played names (conn_line node name) = has_node names node && not (is_among name names.connections)
can_be_played names (send_line name bytes) = is_among name names.connections
can_be_played names (close_line name) = is_among name names.connections
can_be_played names (repl_line words) = has_node names words.source.node && (has_node names words.target.node && not (is_among words.name names.passes))
can_be_played names (turn_line turn name) = is_among name names.passes

-- the nodes where the one of this name has one more database, open to everyone
abbrev pub with_database : List ℕ → List ℕ → List (NamedValue Contents) → List (NamedValue Contents)
with_database node name [] = []
with_database node name (e ∷ es) = if bytes_eq node e.name then record e { value = insert e.value name open_database } ∷ es else e ∷ with_database node name es

-- what is named once a line was played
abbrev pub names_after : ScriptNames → ScriptLine → ScriptNames
names_after names (node_line name) = record names { nodes = names.nodes ++ record { name = name; value = empty } ∷ [] }
names_after names (public_line node name) = record names { nodes = with_database node name names.nodes }
names_after names (conn_line node name) = record names { connections = names.connections ++ name ∷ []; has_begun = true }
names_after names (send_line name bytes) = names
names_after names (close_line name) = names
names_after names (repl_line words) = record names { passes = names.passes ++ words.name ∷ []; has_begun = true }
names_after names (turn_line turn name) = names

-- the same of the bytes of a line, or none where they are no line or can't be played
abbrev pub names_behind : ScriptNames → List ℕ → Option ScriptNames
names_behind names bytes = option_and_then (λ line. if can_be_played names line then Some (names_after names line) else None) (line_of bytes)

-- what the first so many lines of a script have named, or none where they can't be played one after another
abbrev pub names_at : ℕ → List ℕ → Option ScriptNames
names_at zero script = Some no_names
names_at (suc n) script = option_and_then (λ names. names_behind names (first_piece 10 (after_lines n script))) (names_at n script)

-- each line of a script can be played behind those before it
abbrev pub ArePlayable : List ℕ → Type 0
ArePlayable script = (k : ℕ) → after_lines k script ≢ [] → is_some (names_at (suc k) script) ≡ true

-- the line of this number, counted from 1, is there, and is the first that can't be played behind those before it
abbrev pub StopsAt : ℕ → List ℕ → Type 0
StopsAt n script =
    (k : ℕ) × (n ≡ k + 1) × (after_lines k script ≢ []) × (is_some (names_at k script) ≡ true) × (names_at (suc k) script ≡ None)

-- a result says nothing else than that this line can't be played: it is not `Ok`, and names no other line
abbrev pub IsStoppedAt : ℕ → Result ℕ ProgramFault → Type 0
IsStoppedAt n (Ok status) = ⊥
IsStoppedAt n (Err fault) = (m : ℕ) → fault ≡ Line m → m ≡ n

-- ---- what the program has named

abbrev pub names_in : {S : Type 0} → Ghosts S → Scene S → ScriptNames
names_in g (laying nodes) = record {
  nodes = map (λ n. record { name = n.name; value = g.contents n.value }) nodes;
  connections = [];
  passes = [];
  has_begun = false;
}
names_in g (running names) = record {
  nodes = map (λ n. record { name = n.name; value = empty }) names.nodes;
  connections = all_names names.connections;
  passes = all_names names.passes;
  has_begun = true;
}

-- a connection of this name to the node of this name can be opened
abbrev pub can_open : {S : Type 0} → NamedNetwork S → List ℕ → List ℕ → Bool
can_open names node name = is_some (value_named node names.nodes) && not (is_some (value_named name names.connections))

-- a pass of these words can be started
abbrev pub can_start : {S : Type 0} → NamedNetwork S → PassWords → Bool
can_start names words =
    is_some (value_named words.source.node names.nodes)
    && (is_some (value_named words.target.node names.nodes) && not (is_some (value_named words.name names.passes)))

-- the node of this name has a database of that one
abbrev pub stores_database : {S : Type 0} → Ghosts S → List (NamedValue S) → List ℕ → List ℕ → Bool
stores_database g nodes node name = is_some (option_and_then (λ s. get (g.contents s) name) (value_named node nodes))

-- a database of this name can be made on the node of that one
abbrev pub can_add : {S : Type 0} → Ghosts S → List (NamedValue S) → List ℕ → List ℕ → Bool
can_add g nodes node name = is_some (value_named node nodes) && not (stores_database g nodes node name)

-- each name of a node has the number of a node
abbrev pub HasNodes : {S : Type 0} → NamedNetwork S → Type 0
HasNodes names = (name : List ℕ) (number : ℕ) → value_named name names.nodes ≡ Some number → number < length names.network.nodes

abbrev pub HasNodesIn : {S : Type 0} → Scene S → Type 0
HasNodesIn (laying nodes) = ⊤
HasNodesIn (running names) = HasNodes names

-- a line asks a store for a database, and the store may fail before it says whether that is there
abbrev pub asks_store : ScriptLine → Bool
asks_store (node_line name) = false
asks_store (public_line node name) = true
asks_store (conn_line node name) = false
asks_store (send_line name bytes) = false
asks_store (close_line name) = false
asks_store (repl_line words) = false
asks_store (turn_line turn name) = false

abbrev pub some_asks_store : Option ScriptLine → Bool
some_asks_store None = false
some_asks_store (Some line) = asks_store line

-- What a fault says of a line, where this says whether it can be played: `Line` that it can't, and `File` that it can, unless a store was asked and failed.
-- Memory may run out before that is known.
abbrev pub IsFaultJudged : Bool → Bool → LineFault → Type 0
IsFaultJudged asks can fault_of.Line = can ≡ false
IsFaultJudged asks can fault_of.File = asks ≡ false → can ≡ true
IsFaultJudged asks can fault_of.Memory = ⊤

-- and what a result says: `Ok`, that it can
abbrev pub IsJudged : {X : Type 0} → Bool → Bool → Result X LineFault → Type 0
IsJudged asks can (Ok x) = can ≡ true
IsJudged asks can (Err fault) = IsFaultJudged asks can fault
