use Rattle.std.proofs.Common.{◌≡◌, ◌++◌, drop, map}
use Rattle.couch_json.specs.View.{view}
use Rattle.repl.specs.Checkpoints.{others_of, session_value}
use Rattle.repl.specs.Kept.{session_of}
use Rattle.repl.proofs.checkpoint.push_others.Given as goal

abbrev pub invariant-loop-other : goal.invariant-loop-other
invariant-loop-other l =
    map view l.history.items ++ map session_value (others_of l.session (map session_of (drop l.other-index l.older)))
    ≡ map view l.fn.history.items ++ map session_value (others_of l.session (map session_of l.older))
