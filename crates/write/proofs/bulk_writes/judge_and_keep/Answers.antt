use Rattle.write.proofs.Judgings.{taken_in_put, unchanged_put}
use Rattle.write.proofs.bulk_writes.judge_and_keep.Goals as goal

pub returns-clause-kept : goal.returns-clause-kept
returns-clause-kept c =
    taken_in_put c.args.histories.now c.put_history.new.histories c.args.id c.args.history c.judge_in-outcome.new.history c.judge_in-outcome.result
    c.in_ok-put_history.ensures.value c.judge_in-outcome.ensures.taken_in

pub returns-clause-same : goal.returns-clause-same
returns-clause-same c =
    unchanged_put c.args.histories.now c.put_history.new.histories c.args.id c.args.history c.judge_in-outcome.new.history c.judge_in-outcome.result
    c.in_ok-put_history.ensures.value c.judge_in-outcome.ensures.err
