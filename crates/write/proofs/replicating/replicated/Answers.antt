use Rattle.std.proofs.Common.{option_map, ap, rules, sym, ◌∙◌}
use Rattle.std.specs.FinMap as finite
use Rattle.couch_json.specs.View.{view}
use Rattle.store.specs.Contents.{Contents}
use Rattle.store.specs.Database.{history_at}
use Rattle.write.specs.Admission.{replicated_outcome}
use Rattle.write.specs.Terms.{terms_in}
use Rattle.write.proofs.Acceptances.{replicated_alone_acceptable}
use Rattle.write.proofs.Names.{replicated-named}
use Rattle.write.proofs.Plannings.{one_made, one_plan, one_refused, own_refusal}
use Rattle.write.proofs.replicating.replicated.Goals as goal

pub returns-clause-ok : goal.returns-clause-ok
returns-clause-ok g c = λ honest.
    let before = c.in_ok-history.ensures.reads.goes_on.honest honest in
    let same = c.in_ok-terms.ensures.reads.same before in
    one_made _ c.args.id.now _ (λ t h. replicated_outcome t c.args.id.now h (view c.args.document)) c.in_ok-terms.terms (terms_in c.args.caller.now c.args.db.now)
    c.in_ok-write.write c.in_ok-plan_alone.field-0
    (c.in_ok-terms.ensures.terms before)
    (ap (λ (x : Contents). option_map (λ db. history_at db c.args.id.now) (finite.get x c.args.db.now)) (sym same) ∙ c.in_ok-history.ensures.answer honest)
    (c.in_ok-replica.ensures.ok c.in_ok-history.history ∙ c.in_ok-write.ensures.ok) (replicated-named c.in_ok-terms.terms c.args.id.now (view c.args.document)) c.in_ok-plan_alone.ensures.writes

pub returns-clause-plan : goal.returns-clause-plan
returns-clause-plan g c = λ honest.
    let before = c.in_ok-history.ensures.reads.goes_on.honest honest in
    let same = c.in_ok-terms.ensures.reads.same before in
    one_plan _ c.args.id.now _ (view c.args.document) (λ t h. replicated_outcome t c.args.id.now h (view c.args.document)) c.in_ok-terms.terms (terms_in c.args.caller.now c.args.db.now)
    c.in_ok-write.write c.in_ok-label.label c.in_ok-plan_alone.field-0
    (c.in_ok-terms.ensures.terms before)
    (ap (λ (x : Contents). option_map (λ db. history_at db c.args.id.now) (finite.get x c.args.db.now)) (sym same) ∙ c.in_ok-history.ensures.answer honest)
    (c.in_ok-replica.ensures.ok c.in_ok-history.history ∙ c.in_ok-write.ensures.ok) (replicated-named c.in_ok-terms.terms c.args.id.now (view c.args.document))
    (λ d there. replicated_alone_acceptable (terms_in c.args.caller.now c.args.db.now d) d c.args.id.now (view c.args.document) c.requires)
    c.in_ok-plan_alone.ensures.writes c.in_ok-plan_alone.ensures.changed c.in_ok-plan_alone.ensures.may c.in_ok-plan_alone.ensures.results
    c.in_ok-label.ensures.id c.in_ok-label.ensures.rev

pub returns-in_err-write-clause-refused : goal.returns-in_err-write-clause-refused
returns-in_err-write-clause-refused g c = λ honest.
    let before = c.in_ok-history.ensures.reads.goes_on.honest honest in
    let same = c.in_ok-terms.ensures.reads.same before in
    one_refused _ c.args.id.now _ (λ t h. replicated_outcome t c.args.id.now h (view c.args.document)) c.in_ok-terms.terms (terms_in c.args.caller.now c.args.db.now)
    c.from_residual-in_err-write.result c.in_err-write.field-0.0 (c.in_ok-terms.ensures.terms before)
    (ap (λ (x : Contents). option_map (λ db. history_at db c.args.id.now) (finite.get x c.args.db.now)) (sym same) ∙ c.in_ok-history.ensures.answer honest)
    (search rules)
    (own_refusal c.in_err-write.field-0.0 _ (λ other. c.in_ok-replica.ensures.ok c.in_ok-history.history ∙ c.in_err-write.ensures.fault other))
