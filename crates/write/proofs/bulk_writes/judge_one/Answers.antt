use Rattle.std.proofs.Common.{◌∙◌, ap, sym}
use Rattle.write.specs.Bulk.{DocumentOutcome, after, outcome_told}
use Rattle.write.specs.BulkResults.{seen_in}
use Rattle.write.specs.inner.Drafts.{outcome_asked}
use Rattle.write.proofs.Names.{asked-named}
use Rattle.write.proofs.Judgings.{pushed, told_asked, told_brought}
use Rattle.write.proofs.bulk_writes.judge_one.Goals as goal

pub returns-in_ok-append-in-Ok-clause-told : goal.returns-in_ok-append-in-Ok-clause-told
returns-in_ok-append-in-Ok-clause-told c = λ stored.
    told_asked c.args.draft.label _ c.tell_outcome-outcome.result _
    (ap outcome_told (c.in-Ok.ensures.ok stored) ∙ told_brought (seen_in stored c.args.histories.now) c.in-Ok.write _ c.tell_outcome-outcome.ensures.told)
    c.tell_result.ensures.label

pub returns-in_ok-append-in-Ok-clause-histories : goal.returns-in_ok-append-in-Ok-clause-histories
returns-in_ok-append-in-Ok-clause-histories c = λ stored id kept.
    c.in-Ok.ensures.histories stored id kept
    ∙ sym (ap (λ (o : DocumentOutcome). after (seen_in stored c.args.histories.now) o id) (c.in-Ok.ensures.ok stored))

pub returns-in_ok-append-in-Ok-clause-writes : goal.returns-in_ok-append-in-Ok-clause-writes
returns-in_ok-append-in-Ok-clause-writes c = λ stored d agree.
    pushed (seen_in stored c.args.histories.now) d c.args.writes.now.items c.append.new.writes.items c.in-Ok.write c.args.draft.id
    (outcome_asked c.args.terms.now (seen_in stored c.args.histories.now) c.args.draft.request c.args.draft.id) (c.in-Ok.ensures.ok stored) c.in_ok-append-in-Ok.ensures
    (asked-named c.args.terms.now (seen_in stored c.args.histories.now) c.args.draft.request c.args.draft.id) agree

pub returns-in_ok-outcome-in-Err-clause-histories : goal.returns-in_ok-outcome-in-Err-clause-histories
returns-in_ok-outcome-in-Err-clause-histories c = λ stored id kept.
    c.in-Err.ensures.same c.in_ok-outcome-in-Err.ensures.other stored id kept
    ∙ sym (ap (λ (o : DocumentOutcome). after (seen_in stored c.args.histories.now) o id) (c.in-Err.ensures.fault c.in_ok-outcome-in-Err.ensures.other stored))
