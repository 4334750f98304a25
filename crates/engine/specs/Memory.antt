-- What goes through connections in memory, whose log is known.
-- This project's own.
use Rattle.std.specs.Prelude.{◌≡◌, ℕ, List, ◌++◌, map}
use Rattle.std.specs.FinMap.{FinMap}
use Rattle.std.specs.Ordering.{nat_cmp}
use Rattle.store.specs.declared.store.Store.{Ghosts}
use Rattle.couch_http.specs.Writing.{IsPrefix}
use Rattle.hub.specs.Arrival.{stream_of}
use Rattle.hub.specs.Feeding.{HubState}
use Rattle.engine.specs.Acts.{Act, accepted, opened, brought, took, closed}
use Rattle.engine.specs.Desks.{Deed, Runs, acts_in, new_desk, said_in}
use Rattle.engine.specs.Order.{HandlesPieces, fed_in}
use Rattle.engine.specs.Standing.{Standing}
use Rattle.engine.specs.Taking.{taken_of}
use Rattle.engine.specs.declared.log_entry.LogEntry.{LogEntry}
use Rattle.engine.specs.declared.log_entry.LogEntry.TheVariants.{Accepted, Opened, Brought, Took, Closed}

-- the act of an entry, with its bytes
abbrev pub act_of : LogEntry × List ℕ → Act
act_of (Accepted, bytes) = accepted
act_of (Opened conn, bytes) = opened conn
act_of (Brought conn, bytes) = brought conn bytes
act_of (Took conn, bytes) = took conn bytes
act_of (Closed conn, bytes) = closed conn

abbrev pub acts_of : List (LogEntry × List ℕ) → List Act
acts_of entries = map act_of entries

-- The log grew by acts that lead from the one hub to the other. What each connection took is a first part of what was said
-- to it. Where the store returned what was written, the requests were handled in one run, in the order in which they arrived.
pub record PassesInOrder {S : Type 0} (g : Ghosts S) (old : HubState S) (before : List Act) (new : HubState S) (after : List Act) : Type 0 where
  pub deeds : List Deed
  pub standings : FinMap nat_cmp Standing
  pub logs : after ≡ before ++ acts_in deeds
  pub runs : Runs g (new_desk old) deeds (record { hub = new; standings = standings })
  pub takes : (conn : ℕ) → IsPrefix (stream_of (taken_of (acts_in deeds)) conn) (stream_of (said_in deeds) conn)
  pub handles : g.is_honest new.node.store → HandlesPieces g old (fed_in g (new_desk old) deeds (record { hub = new; standings = standings }) runs) new
