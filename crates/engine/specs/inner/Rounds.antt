-- The program's server as a state: its conversations as standings.
-- This project's own.
use Rattle.std.specs.Prelude.{ℕ, List, map, Option}
use Rattle.std.specs.FinMap.{FinMap, from_entries}
use Rattle.std.specs.Ordering.{nat_cmp}
use Rattle.hub.specs.Feeding.{HubState}
use Rattle.engine.specs.Acts.{Act}
use Rattle.engine.specs.Conversing.{ServerState, standing_of}
use Rattle.engine.specs.Standing.{Standing}
use Rattle.engine.specs.declared.conversation.Conversation.{Conversation}

-- how the connections of these conversations stand
abbrev pub standings_of : List (ℕ × Conversation) → FinMap nat_cmp Standing
standings_of conversations = from_entries (map (λ e. (e.0, standing_of e.1)) conversations)

-- the state of a server that has these conversations, accepted so many connections, and is to open none of them
abbrev pub state_of : {S : Type 0} → HubState S → List (ℕ × Conversation) → ℕ → Option (List Act) → ServerState S
state_of hub conversations accepted log = record {
  desk = record { hub = hub; standings = standings_of conversations };
  log = log;
  accepted = accepted;
  unopened = 0;
}

-- the same, where one that was accepted is still to be opened
abbrev pub with_unopened : {S : Type 0} → ServerState S → ServerState S
with_unopened state = record state { unopened = 1 }
