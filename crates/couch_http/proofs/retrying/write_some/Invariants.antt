use Rattle.std.specs.Io.KnownBytes.{Keeps}
use Rattle.couch_http.proofs.retrying.write_some.Given as goal

abbrev pub invariant-loop-number : goal.invariant-loop-number
invariant-loop-number g l = Keeps (g.W.Write.contents l.initial.writer) (g.W.Write.contents l.writer)
