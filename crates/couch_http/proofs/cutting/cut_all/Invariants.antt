use Rattle.std.proofs.Common.{length, map}
use Rattle.couch_http.specs.Message.{message_of}
use Rattle.couch_http.proofs.CutLemmas.{CutsOn}
use Rattle.couch_http.proofs.cutting.cut_all.Given as goal

abbrev pub invariant-loop-requests : goal.invariant-loop-requests
invariant-loop-requests l = CutsOn l.bytes (map message_of l.requests.items) l.rest

abbrev pub decreases-loop-requests : goal.decreases-loop-requests
decreases-loop-requests l = length l.rest
