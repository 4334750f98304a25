use Rattle.engine.proofs.Standings.{standings_without}
use Rattle.engine.proofs.serving.Conversations.end.Goals as goal

pub returns-clause-ends : goal.returns-clause-ends
returns-clause-ends g c = standings_without c.args.self.now.conversations.entries c.remove.new.self.entries c.args.conn c.remove.ensures.updates.0
