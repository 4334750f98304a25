use Rattle.std.proofs.Common.{◌≡◌, drop, map}
use Rattle.repl.specs.Checkpoints.{common_sequence}
use Rattle.repl.specs.Kept.{session_of}
use Rattle.repl.proofs.checkpoint.common_sequence.Given as goal

abbrev pub invariant-loop-session : goal.invariant-loop-session
invariant-loop-session l =
    common_sequence (map session_of (drop l.session-index l.source)) (map session_of l.target) ≡ common_sequence (map session_of l.source) (map session_of l.target)
