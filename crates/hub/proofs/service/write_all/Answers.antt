use Rattle.std.proofs.Common.{ℕ, List, true, false, subst, arith}
use Rattle.couch_http.proofs.Taken.{HasTaken, taken_none, taken_all}
use Rattle.couch_http.specs.Writing.{Takes}
use Rattle.hub.proofs.ServiceBytes.{reply_short, reply_whole, replies_over}
use Rattle.hub.specs.Service.{bytes_of}
use Rattle.hub.proofs.service.write_all.Goals as goal

pub loop-reply-init : goal.loop-reply-init
loop-reply-init g c = record { taken = taken_none (g.W.Write.contents c.args.writer.now) (bytes_of c.args.replies.now) }

pub returns-then-not-write_bytes : goal.returns-then-not-write_bytes
returns-then-not-write_bytes g c =
    let before = g.W.Write.contents c.loop-reply.writer in
    let after = g.W.Write.contents c.write_bytes.new.writer in
    let short : Takes before after c.reply-item.result.bytes false = rw (c.bytes.ensures, c.if-not-write_bytes.true) at c.write_bytes.ensures in
    reply_short (g.W.Write.contents c.args.writer.now) before after c.args.replies.now c.loop-reply.reply-index c.reply-item.result c.loop-reply-test.true c.reply-item.is
    c.loop-reply.invariant.taken short

pub loop-reply-preserved : goal.loop-reply-preserved
loop-reply-preserved g c =
    let before = g.W.Write.contents c.loop-reply.writer in
    let after = g.W.Write.contents c.write_bytes.new.writer in
    let whole : Takes before after c.reply-item.result.bytes true = rw (c.bytes.ensures, c.if-not-write_bytes.false) at c.write_bytes.ensures in
    record {
      taken = reply_whole (g.W.Write.contents c.args.writer.now) before after c.args.replies.now c.loop-reply.reply-index c.reply-item.result c.loop-reply-test.true c.reply-item.is
          c.loop-reply.invariant.taken whole;
    }

pub returns : goal.returns
returns g c =
    let start = g.W.Write.contents c.args.writer.now in
    let after = g.W.Write.contents c.loop-reply.writer in
    taken_all start after true (bytes_of c.args.replies.now)
    (subst (λ (l : List ℕ). HasTaken start after l (bytes_of c.args.replies.now)) (replies_over c.args.replies.now c.loop-reply.reply-index (omega (arith, c.loop-reply-test.false))) c.loop-reply.invariant.taken)
