use Rattle.std.proofs.Common.{refl}
use Rattle.engine.specs.Conversing.{standing_of}
use Rattle.engine.proofs.Talks.{replies_talks, talks_more, talks_none, talks_piece}
use Rattle.engine.proofs.conversation.Conversation.take_next.Goals as goal

pub returns-in-Bytes-clause-converses : goal.returns-in-Bytes-clause-converses
returns-in-Bytes-clause-converses g c =
    talks_more g.S.Store c.args.conn
    (talks_piece g.S.Store c.args.conn c.args.hub.now c.feed_hub.new.hub (standing_of c.args.self.now) (standing_of c.feed_hub.new.self) _ c.feed_hub.ensures.0
    (g.W.Sockets.log c.args.sockets.now) (g.W.Sockets.log c.read.new.self) c.in-Bytes.ensures.log c.feed_hub.ensures.1)
    (replies_talks g.S.Store c.args.conn c.feed_hub.new.hub c.feed_hub.new.self.stage c.send_replies.new.self.stage c.feed_hub.new.self.owed
    c.send_replies.new.self.owed (g.W.Sockets.log c.read.new.self) (g.W.Sockets.log c.send_replies.new.sockets) c.send_replies.ensures.stage
    c.send_replies.ensures.lost c.send_replies.ensures.sent)

pub returns-in-Later-clause-converses : goal.returns-in-Later-clause-converses
returns-in-Later-clause-converses g c = talks_none g.S.Store c.args.conn refl refl c.in-Later.ensures.log

pub returns-in-Never-clause-converses : goal.returns-in-Never-clause-converses
returns-in-Never-clause-converses g c = talks_none g.S.Store c.args.conn refl refl c.in-Never.ensures.log

pub returns-in-Bytes-clause-silent : goal.returns-in-Bytes-clause-silent
returns-in-Bytes-clause-silent g c = λ silent. absurd (c.send_replies.ensures.bytes silent)

pub returns-in-Later-clause-silent : goal.returns-in-Later-clause-silent
returns-in-Later-clause-silent g c = λ silent. record { unlogged = c.in-Later.ensures.log; hub_stays = refl; stands = refl }
