use Rattle.std.proofs.Common.{refl, ap₂}
use Rattle.engine.specs.Conversing.{standing_at}
use Rattle.engine.proofs.Talks.{finish_silent, finish_talks, sent_talks, silent_more, talks_more}
use Rattle.engine.proofs.conversation.Conversation.go_on.Goals as goal

pub returns-then-len-gt0-clause-converses : goal.returns-then-len-gt0-clause-converses
returns-then-len-gt0-clause-converses g c =
    sent_talks g.S.Store c.args.conn c.args.hub.now c.args.self.now.stage c.send.new.self.stage c.args.self.now.owed c.send.new.self.owed
    (g.W.Sockets.log c.args.sockets.now) (g.W.Sockets.log c.send.new.sockets) c.send.ensures.stage c.requires c.send.ensures.sent

pub returns-then-len-gt0-clause-silent : goal.returns-then-len-gt0-clause-silent
returns-then-len-gt0-clause-silent g c = λ silent.
    record { unlogged = c.send.ensures.silent silent; hub_stays = refl; stands = ap₂ standing_at c.send.ensures.stage (c.send.ensures.kept silent) }

pub returns-clause-converses : goal.returns-clause-converses
returns-clause-converses g c =
    talks_more g.S.Store c.args.conn
    (finish_talks g.S.Store c.args.conn c.args.hub.now c.args.self.now.stage c.finish.new.self.stage c.args.self.now.owed c.finish.new.self.owed
    (g.W.Sockets.log c.args.sockets.now) (g.W.Sockets.log c.finish.new.sockets) c.finish.ensures.stage c.finish.ensures.owed c.finish.ensures.log)
    c.take_pieces.ensures.converses

pub returns-clause-silent : goal.returns-clause-silent
returns-clause-silent g c = λ silent.
    silent_more
    (finish_silent c.args.hub.now c.args.self.now.stage c.finish.new.self.stage c.args.self.now.owed c.finish.new.self.owed
    (g.W.Sockets.log c.args.sockets.now) (g.W.Sockets.log c.finish.new.sockets) c.finish.ensures.stage c.finish.ensures.owed c.finish.ensures.log)
    (c.take_pieces.ensures.silent silent)
