-- What the lines of a script do: the nodes, connections and passes that they name, and what is printed.
-- This project's own; the order of replies is RFC 9112, section 9.3.2.
use Rattle.std.specs.Prelude.{◌≡◌, ℕ, ◌+◌, false, List, [], ◌∷◌, ◌++◌, length, map, Option, Some, None, option_map}
use Rattle.std.specs.FinMap.{empty, get, insert}
use Rattle.std.specs.Io.BufRead.{drop_through, first_piece}
use Rattle.std.specs.Io.KnownBytes.{Appends}
use Rattle.couch_json.specs.Value.{object, no_members}
use Rattle.auth.specs.Callers.{Configuration}
use Rattle.auth.specs.Hmac.{token_of}
use Rattle.store.specs.Contents.{new_database, with_security}
use Rattle.store.specs.Database.{Database}
use Rattle.store.specs.declared.store.Store.{Ghosts}
use Rattle.hub.specs.Connections.{next_connection, no_connections, with_connection, without}
use Rattle.repl.specs.Configuration.{Account, PassConfiguration as PassConfiguration}
use Rattle.repl.specs.Passes.{first_pass}
use Rattle.world.specs.Happening.{Sight, exchanges}
use Rattle.world.specs.Network.{Network}
use Rattle.world.specs.declared.fate.Fate.{Fate}
use Rattle.world.specs.declared.fate.Fate.TheVariants.{Answered, ReplyLost, RequestLost}
use Rattle.lab.specs.Naming.{NamedValue, value_named, with_named, numbers_from}
use Rattle.lab.specs.PassLines.{PassWords}
use Rattle.lab.specs.Replies.{IsSent, IsShown, Runs}
use Rattle.lab.specs.Script.{ScriptLine, node_line, public_line, conn_line, send_line, close_line, repl_line, turn_line, line_of}
use Rattle.lab.specs.declared.turn.Turn.{Turn}
use Rattle.lab.specs.declared.turn.Turn.TheVariants.{Step, Lose, Unsent, Run}

-- a network whose nodes, connections and passes have names: the numbers that these have in it
pub record NamedNetwork (S : Type 0) : Type 0 where
  pub nodes : List (NamedValue ℕ)
  pub connections : List (NamedValue ℕ)
  pub passes : List (NamedValue ℕ)
  pub network : Network S

-- how far a script is: before its first connection or pass there are nodes with their stores, and then a network of them
pub data Scene (S : Type 0) : Type 0 where
  laying : List (NamedValue S) → Scene S
  running : NamedNetwork S → Scene S

-- a database without documents whose security object is `{}`, which names no member: so everyone is one
abbrev pub open_database : Database
open_database = with_security new_database (object no_members)

-- there is one more node, of a new name and without databases
abbrev pub AddsNode : {S : Type 0} → Ghosts S → List (NamedValue S) → List ℕ → List (NamedValue S) → Type 0
AddsNode {S} g before name after =
    (value_named name before ≡ None)
    × ((store : S) × (g.contents store ≡ empty) × (after ≡ before ++ record { name = name; value = store } ∷ []))

-- a store has one more database, of a new name and open to everyone
abbrev pub HasOneMore : {S : Type 0} → Ghosts S → S → List ℕ → S → Type 0
HasOneMore g old name new = (get (g.contents old) name ≡ None) × (g.contents new ≡ insert (g.contents old) name open_database)

-- the node of this name has one more database
abbrev pub AddsDatabase : {S : Type 0} → Ghosts S → List (NamedValue S) → List ℕ → List ℕ → List (NamedValue S) → Type 0
AddsDatabase {S} g before node name after =
    (old : S) × (value_named node before ≡ Some old) × ((new : S) × HasOneMore g old name new × (after ≡ with_named node new before))

-- the network of these nodes, each with this configuration, and without connections or passes
abbrev pub first_network : {S : Type 0} → Configuration → List (NamedValue S) → NamedNetwork S
first_network c nodes = record {
  nodes = numbers_from 0 nodes;
  connections = [];
  passes = [];
  network = record { nodes = map (λ n. record { store = n.value; configuration = c }) nodes; homes = []; connections = no_connections; transfers = [] };
}

-- there is one more connection, of a new name, and it leads to the node of this name
abbrev pub Opens : {S : Type 0} → NamedNetwork S → List ℕ → List ℕ → NamedNetwork S → Type 0
Opens before node name after =
    (value_named name before.connections ≡ None)
    × ((home : ℕ) × (value_named node before.nodes ≡ Some home)
    × (after ≡ record before {
      connections = before.connections ++ record { name = name; value = next_connection before.network.connections } ∷ [];
      network = record before.network { homes = before.network.homes ++ home ∷ []; connections = with_connection before.network.connections };
    }))

-- the user of this name, without roles, and with the token that vouches for the name
abbrev pub account_named : Configuration → List ℕ → Account
account_named c name = record { name = name; roles = []; token = token_of c.secret name }

-- what a pass of these words is told
abbrev pub pass_configuration : Configuration → PassWords → PassConfiguration
pass_configuration c words = record {
  source = words.source.text;
  source_db = words.source.database;
  target = words.target.text;
  target_db = words.target.database;
  user = option_map (account_named c) words.user;
  session = words.session;
  batch = words.batch;
  is_from_start = false;
}

-- the network with one more pass between the nodes of these numbers
abbrev pub with_pass : {S : Type 0} → Configuration → NamedNetwork S → PassWords → ℕ → ℕ → NamedNetwork S
with_pass c before words from to = record before {
  passes = before.passes ++ record { name = words.name; value = length before.network.transfers + 1 } ∷ [];
  network = record before.network {
    transfers = before.network.transfers ++ record { from = from; to = to; pass = first_pass (pass_configuration c words) } ∷ [];
  };
}

-- there is one more pass, of a new name, between the nodes of these names
abbrev pub Starts : {S : Type 0} → Configuration → NamedNetwork S → PassWords → NamedNetwork S → Type 0
Starts c before words after =
    (value_named words.name before.passes ≡ None)
    × ((from to : ℕ) × (value_named words.source.node before.nodes ≡ Some from) × (value_named words.target.node before.nodes ≡ Some to)
    × (after ≡ with_pass c before words from to))

-- the pass of this name makes an exchange with this fate, and this is printed
abbrev pub Exchanges : {S : Type 0} → Ghosts S → NamedNetwork S → List ℕ → Fate → List ℕ → NamedNetwork S → Type 0
Exchanges {S} g before name fate printed after =
    (number : ℕ) × (value_named name before.passes ≡ Some number)
    × ((seen : List Sight) × (network : Network S) × IsShown g before.network (exchanges number fate) name seen printed network
    × (after ≡ record before { network = network }))

-- how many exchanges a run has at most
abbrev pub most_exchanges : ℕ
most_exchanges = 10000

-- the pass of this name makes exchanges up to its end, and this is printed
abbrev pub RunsToEnd : {S : Type 0} → Ghosts S → NamedNetwork S → List ℕ → List ℕ → NamedNetwork S → Type 0
RunsToEnd {S} g before name printed after =
    (number : ℕ) × (value_named name before.passes ≡ Some number)
    × ((network : Network S) × Runs g most_exchanges before.network number name printed network × (after ≡ record before { network = network }))

-- what a pass is to do, and what is printed of it
abbrev pub TakesTurn : {S : Type 0} → Ghosts S → Turn → NamedNetwork S → List ℕ → List ℕ → NamedNetwork S → Type 0
TakesTurn g Step before name printed after = Exchanges g before name Answered printed after
TakesTurn g Lose before name printed after = Exchanges g before name ReplyLost printed after
TakesTurn g Unsent before name printed after = Exchanges g before name RequestLost printed after
TakesTurn g Run before name printed after = RunsToEnd g before name printed after

-- the connection of this name is sent these bytes, and this is printed
abbrev pub Sends : {S : Type 0} → Ghosts S → NamedNetwork S → List ℕ → List ℕ → List ℕ → NamedNetwork S → Type 0
Sends {S} g before name bytes printed after =
    (conn : ℕ) × (value_named name before.connections ≡ Some conn)
    × ((network : Network S) × IsSent g before.network conn bytes name printed network × (after ≡ record before { network = network }))

-- the connection of this name has ended
abbrev pub Closes : {S : Type 0} → NamedNetwork S → List ℕ → NamedNetwork S → Type 0
Closes before name after =
    (conn : ℕ) × (value_named name before.connections ≡ Some conn)
    × (after ≡ record before { network = record before.network { connections = without before.network.connections conn } })

-- what a line does, where all nodes have this configuration; nodes and databases come before the first connection or pass
abbrev pub Plays : {S : Type 0} → Ghosts S → Configuration → Scene S → ScriptLine → List ℕ → Scene S → Type 0
Plays {S} g c (laying nodes) (node_line name) printed after =
    (printed ≡ []) × ((then : List (NamedValue S)) × AddsNode g nodes name then × (after ≡ laying then))
Plays {S} g c (laying nodes) (public_line node name) printed after =
    (printed ≡ []) × ((then : List (NamedValue S)) × AddsDatabase g nodes node name then × (after ≡ laying then))
Plays {S} g c (laying nodes) (conn_line node name) printed after =
    (printed ≡ []) × ((then : NamedNetwork S) × Opens (first_network c nodes) node name then × (after ≡ running then))
Plays {S} g c (laying nodes) (repl_line words) printed after =
    (printed ≡ []) × ((then : NamedNetwork S) × Starts c (first_network c nodes) words then × (after ≡ running then))
Plays g c (laying nodes) (send_line name bytes) printed after = ⊥
Plays g c (laying nodes) (close_line name) printed after = ⊥
Plays g c (laying nodes) (turn_line turn name) printed after = ⊥
Plays g c (running names) (node_line name) printed after = ⊥
Plays g c (running names) (public_line node name) printed after = ⊥
Plays {S} g c (running names) (conn_line node name) printed after =
    (printed ≡ []) × ((then : NamedNetwork S) × Opens names node name then × (after ≡ running then))
Plays {S} g c (running names) (repl_line words) printed after =
    (printed ≡ []) × ((then : NamedNetwork S) × Starts c names words then × (after ≡ running then))
Plays {S} g c (running names) (send_line name bytes) printed after =
    (then : NamedNetwork S) × Sends g names name bytes printed then × (after ≡ running then)
Plays {S} g c (running names) (close_line name) printed after =
    (printed ≡ []) × ((then : NamedNetwork S) × Closes names name then × (after ≡ running then))
Plays {S} g c (running names) (turn_line turn name) printed after =
    (then : NamedNetwork S) × TakesTurn g turn names name printed then × (after ≡ running then)

-- what lines do one after another; they print what each of them prints
abbrev pub PlaysAll : {S : Type 0} → Ghosts S → Configuration → Scene S → List ScriptLine → List ℕ → Scene S → Type 0
PlaysAll g c before [] printed after = (printed ≡ []) × (after ≡ before)
PlaysAll {S} g c before (line ∷ lines) printed after =
    (first : List ℕ) × (between : Scene S) × Plays g c before line first between
    × ((rest : List ℕ) × PlaysAll g c between lines rest after × (printed ≡ first ++ rest))

-- a script begins with these lines, and this is its rest
abbrev pub BeginsWith : List ℕ → List ScriptLine → List ℕ → Type 0
BeginsWith script [] rest = rest ≡ script
BeginsWith script (line ∷ lines) rest = (line_of (first_piece 10 script) ≡ Some line) × BeginsWith (drop_through 10 script) lines rest

-- The first so many lines of a script were played, from no node on, and what they print was printed.
pub record HasPlayed {S : Type 0} (g : Ghosts S) (c : Configuration) (count : ℕ) (script rest : List ℕ) (old new : Option (List ℕ)) (scene : Scene S) : Type 0 where
  pub lines : List ScriptLine
  pub counted : length lines ≡ count
  pub begins : BeginsWith script lines rest
  pub printed : List ℕ
  pub played : PlaysAll g c (laying []) lines printed scene
  pub shown : Appends old new printed

-- all lines of a script were played
abbrev pub PlaysScript : {S : Type 0} → Ghosts S → Configuration → List ℕ → Option (List ℕ) → Option (List ℕ) → Type 0
PlaysScript {S} g c script old new = (count : ℕ) × (scene : Scene S) × HasPlayed g c count script [] old new scene

-- the lines before the one of this number, counted from 1, were played
abbrev pub PlaysBefore : {S : Type 0} → Ghosts S → Configuration → ℕ → List ℕ → Option (List ℕ) → Option (List ℕ) → Type 0
PlaysBefore {S} g c n script old new =
    (count : ℕ) × (n ≡ count + 1) × ((rest : List ℕ) × (scene : Scene S) × HasPlayed g c count script rest old new scene)
