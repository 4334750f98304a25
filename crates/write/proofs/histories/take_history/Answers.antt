use Rattle.write.proofs.BulkLemmas.{removed_seen}
use Rattle.write.proofs.histories.take_history.Goals as goal

pub returns-clause-others : goal.returns-clause-others
returns-clause-others c = removed_seen c.args.histories.now c.remove.new.self c.args.id.now c.remove.ensures.updates.0
