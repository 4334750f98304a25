use Rattle.write.proofs.Judgings.{settle_dropped, settle_kept, settle_ok, settle_same_dropped, settle_same_kept}
use Rattle.write.proofs.bulk_writes.judge_and_record.Goals as goal

pub returns-then-again-clause-ok : goal.returns-then-again-clause-ok
returns-then-again-clause-ok c =
    settle_ok c.args.terms.now c.args.histories.now c.args.id c.in-Some.id c.in_ok-history.history c.args.request c.judge_and_keep.result
    c.in-Some.is c.in_ok-history.ensures.value c.judge_and_keep.ensures.ok

pub returns-then-again-clause-histories : goal.returns-then-again-clause-histories
returns-then-again-clause-histories c =
    settle_kept c.args.terms.now c.args.again c.args.histories.now c.take_history.new.histories c.judge_and_keep.new.histories
    c.args.id c.in-Some.id c.in_ok-history.history c.args.request c.judge_and_keep.result
    c.in_ok-history.ensures.value c.in_ok-history.ensures.others c.judge_and_keep.ensures.ok c.judge_and_keep.ensures.kept

pub returns-then-again-clause-same : goal.returns-then-again-clause-same
returns-then-again-clause-same c =
    settle_same_kept c.args.again c.args.histories.now c.take_history.new.histories c.judge_and_keep.new.histories
    c.args.id c.in-Some.id c.in_ok-history.history c.judge_and_keep.result
    c.in_ok-history.ensures.value c.in_ok-history.ensures.others c.judge_and_keep.ensures.same

pub returns-else-again-clause-ok : goal.returns-else-again-clause-ok
returns-else-again-clause-ok c =
    settle_ok c.args.terms.now c.args.histories.now c.args.id c.in-Some.id c.in_ok-history.history c.args.request c.judge.result
    c.in-Some.is c.in_ok-history.ensures.value c.judge.ensures.ok

pub returns-else-again-clause-histories : goal.returns-else-again-clause-histories
returns-else-again-clause-histories c =
    settle_dropped c.args.terms.now c.args.again c.args.histories.now c.take_history.new.histories
    c.args.id c.in-Some.id c.in_ok-history.history c.args.request c.judge.result
    c.in-Some.is c.if-again.false c.in_ok-history.ensures.others c.judge.ensures.ok

pub returns-else-again-clause-same : goal.returns-else-again-clause-same
returns-else-again-clause-same c =
    settle_same_dropped c.args.again c.args.histories.now c.take_history.new.histories
    c.args.id c.in-Some.id c.judge.result
    c.in-Some.is c.if-again.false c.in_ok-history.ensures.others
