use Rattle.std.proofs.Common.{◌≡◌, ℕ, List, drop, map}
use Rattle.std.specs.Option.{option_or}
use Rattle.repl.specs.Checkpoints.{sequence_of_session}
use Rattle.repl.specs.Kept.{sequence_at, session_of}
use Rattle.repl.proofs.checkpoint.index_sessions.Given as goal

abbrev pub invariant-loop-session : goal.invariant-loop-session
invariant-loop-session l =
    (name : List ℕ) → option_or (sequence_at l.index name) (sequence_of_session name (map session_of (drop l.session-index l.sessions))) ≡ sequence_of_session name (map session_of l.sessions)
