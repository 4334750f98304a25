use Rattle.std.proofs.Common.{◌≡◌, length}
use Rattle.std.specs.Io.KnownBytes.{Keeps}
use Rattle.couch_http.proofs.retrying.read_some.Given as goal

abbrev pub invariant-loop-number : goal.invariant-loop-number
invariant-loop-number g l = (length l.room ≡ length l.initial.room) × Keeps (g.R.Read.remaining l.initial.reader) (g.R.Read.remaining l.reader)
