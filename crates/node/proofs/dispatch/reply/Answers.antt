use Rattle.std.proofs.Common.{Result, sym, ap, ◌∙◌}
use Rattle.couch_http.specs.Message.{message_of}
use Rattle.store.specs.Contents.{Contents}
use Rattle.node.specs.Answer.{Outcome, answer, settlement}
use Rattle.node.specs.inner.Drafts.{change_of}
use Rattle.api.specs.declared.refusal.Refusal.{Refusal}
use Rattle.node.proofs.Faults.{all_end_before}
use Rattle.node.proofs.dispatch.reply.Goals as goal

pub returns-clause-ends : goal.returns-clause-ends
returns-clause-ends g c =
    let old = c.args.store.now in
    let mid = c.judge.new.store in
    let new = c.finish.new.store in
    let before = g.S.Store.contents old in
    let change = c.in_ok-answered.answered.change in
    let reads = c.in_ok-answered.ensures.judges.reads in
    let onward = c.finish.ensures.changes.goes_on.honest in
    all_end_before g.S.Store old mid new (change_of (g.S.Store.contents mid) change) (answer c.args.auth.now before (message_of c.args.request.now)).change c.finish.result reads onward
    (λ honest. ap (λ (x : Contents). change_of x change) (reads.same (onward honest)) ∙ sym (ap (λ (r : Result Outcome Refusal). (settlement r).change) (c.in_ok-answered.ensures.judges.comes (onward honest))))
    c.finish.ensures.ends
