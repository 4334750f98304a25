use Rattle.std.proofs.Common.{drop}
use Rattle.couch_http.proofs.Taken.{HasTaken}
use Rattle.hub.specs.Service.{bytes_of}
use Rattle.hub.proofs.service.write_all.Given as goal

abbrev pub invariant-loop-reply : goal.invariant-loop-reply
invariant-loop-reply g l = record {
  taken : HasTaken (g.W.Write.contents l.initial.writer) (g.W.Write.contents l.writer) (bytes_of (drop l.reply-index l.replies)) (bytes_of l.replies);
}
