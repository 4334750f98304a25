use Rattle.hub.proofs.Rests.{rests_without}
use Rattle.hub.proofs.cutters.remove_cutter.Goals as goal

pub returns-clause-rests : goal.returns-clause-rests
returns-clause-rests c = rests_without c.args.cutters.now.entries c.remove.new.self.entries c.args.conn c.remove.ensures.updates.0
