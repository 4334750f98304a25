use Rattle.std.proofs.Common.{arith}
use Rattle.engine.proofs.BacklogLemmas.{owed_all, owed_more}
use Rattle.engine.proofs.backlog.Backlog.add_all.Goals as goal

pub loop-reply-preserved : goal.loop-reply-preserved
loop-reply-preserved c = record {
  whole = rw (c.add.ensures.added c.if-not-add.false, c.bytes.ensures) (owed_more c.args.self.now c.loop-reply.self c.args.replies.now c.loop-reply.reply-index c.reply-item.result
      c.loop-reply-test.true c.reply-item.is c.loop-reply.invariant.whole);
  bound = λ _. c.add.ensures.bound;
}

pub returns-clause-added : goal.returns-clause-added
returns-clause-added c = λ _. owed_all c.args.self.now c.loop-reply.self c.args.replies.now c.loop-reply.reply-index (omega (arith, c.loop-reply-test.false)) c.loop-reply.invariant.whole
