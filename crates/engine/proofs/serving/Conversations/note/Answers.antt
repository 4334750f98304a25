use Rattle.std.proofs.Common.{sym, ap₂}
use Rattle.engine.specs.Conversing.{standing_at}
use Rattle.engine.proofs.Standings.{standings_alike}
use Rattle.engine.proofs.serving.Conversations.note.Goals as goal

pub returns-clause-alike : goal.returns-clause-alike
returns-clause-alike c =
    standings_alike c.args.self.now.conversations.entries (c.get_mut.follows.lender c.join.new.self).entries c.args.conn c.in-Some.conversation.now c.join.new.self
    (sym c.in-Some.ensures.value) (c.get_mut.follows.holds c.join.new.self).0 (ap₂ standing_at c.join.ensures.stage c.join.ensures.owed)
