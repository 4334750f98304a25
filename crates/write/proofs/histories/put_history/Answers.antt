use Rattle.std.proofs.Common.{◌∙◌, ap}
use Rattle.write.specs.BulkResults.{seen_in, with_history}
use Rattle.write.proofs.BulkLemmas.{put_seen}
use Rattle.write.proofs.histories.put_history.Goals as goal

pub returns-clause-value : goal.returns-clause-value
returns-clause-value c = λ stored.
    put_seen c.args.histories.now c.insert.new.self c.args.id c.in_ok-packed.packed c.in_ok-insert.ensures.updates.0 stored
    ∙ ap (with_history (seen_in stored c.args.histories.now) c.args.id) c.in_ok-packed.ensures
