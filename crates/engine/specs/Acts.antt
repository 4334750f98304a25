-- What goes through the connections of a server.
-- This project's own.
use Rattle.std.specs.Prelude.{◌≡◌, ⊤, ℕ, List, [], ◌∷◌, ◌++◌, take, Option, Some, None}
use Rattle.engine.specs.declared.flow.Accepted.{Accepted}
use Rattle.engine.specs.declared.flow.Accepted.TheVariants.{One, Reset}
use Rattle.engine.specs.declared.flow.Accepted.TheVariants as came
use Rattle.engine.specs.declared.flow.Flow.{Flow}
use Rattle.engine.specs.declared.flow.Flow.TheVariants.{Bytes, Later, Never}

-- what the sockets and the engine did: a connection accepted, opened for the hub, bytes brought and taken, closed
pub data Act : Type 0 where
  -- a connection was accepted, or would have been, had it not been reset before
  accepted : Act
  -- it was given this number
  opened : ℕ → Act
  -- it brought bytes
  brought : ℕ → List ℕ → Act
  -- it took bytes
  took : ℕ → List ℕ → Act
  -- it was closed
  closed : ℕ → Act

-- the connection of an act; 0 stands for none yet
abbrev pub conn_of : Act → ℕ
conn_of accepted = 0
conn_of (opened conn) = conn
conn_of (brought conn bytes) = conn
conn_of (took conn bytes) = conn
conn_of (closed conn) = conn

-- a known log grows by these
abbrev pub Logs : Option (List Act) → Option (List Act) → List Act → Type 0
Logs None new acts = ⊤
Logs (Some xs) None acts = ⊥
Logs (Some xs) (Some ys) acts = ys ≡ xs ++ acts

-- what an accept logs
abbrev pub accept_acts : Accepted → List Act
accept_acts One = accepted ∷ []
accept_acts Reset = accepted ∷ []
accept_acts came.Later = []
accept_acts came.Never = []

-- what a read logs
abbrev pub read_acts : ℕ → Flow → List ℕ → List Act
read_acts conn (Bytes count more) room = brought conn (take count room) ∷ []
read_acts conn Later room = []
read_acts conn Never room = []

-- what a write logs
abbrev pub write_acts : ℕ → Flow → List ℕ → List Act
write_acts conn (Bytes count more) bytes = took conn (take count bytes) ∷ []
write_acts conn Later bytes = []
write_acts conn Never bytes = []
