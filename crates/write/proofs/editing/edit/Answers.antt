use Rattle.std.proofs.Common.{Ok, Some, ap, subst, ◌≡◌}
use Rattle.std.specs.FinMap as finite
use Rattle.couch_json.specs.View.{view}
use Rattle.store.specs.Contents.{Contents, IfThere}
use Rattle.store.specs.Database.{Database, history_at}
use Rattle.store.specs.Writing.{addition_of, written_in}
use Rattle.write.specs.Admission.{edit_outcome}
use Rattle.write.specs.Bulk.{as_outcome}
use Rattle.write.specs.Terms.{terms_in}
use Rattle.write.proofs.Acceptances.{acceptable_in, edit_alone_acceptable}
use Rattle.write.proofs.FollowedRules.{there_is}
use Rattle.write.proofs.Names.{edit-named}
use Rattle.write.proofs.Plannings.{if_there, made_there, plan_there}
use Rattle.write.proofs.editing.edit.Goals as goal

pub returns-clause-ok : goal.returns-clause-ok
returns-clause-ok g c = λ honest.
    let id = c.args.id.now in
    let terms = c.in_ok-terms.terms in
    let write = c.in_ok-write.write in
    let before = c.in_ok-write.ensures.reads.goes_on.honest honest in
    let same = c.in_ok-terms.ensures.reads.same before in
    let now = finite.get (g.S.Store.contents c.args.store.now) c.args.db.now in
    let Outcome : Database → Type 0 = λ d. edit_outcome terms id (history_at d id) c.args.query (view c.args.document) ≡ Ok (written_in (history_at d id) (addition_of write)) in
    let judged : IfThere now Outcome = subst (λ (x : Contents). IfThere (finite.get x c.args.db.now) Outcome) same (c.in_ok-write.ensures.ok honest) in
    made_there now id (λ t h. as_outcome (edit_outcome t id h c.args.query (view c.args.document))) terms (terms_in c.args.caller.now c.args.db.now) (Some write) c.in_ok-plan_alone.field-0
    (c.in_ok-terms.ensures.terms before) (there_is now (λ d is. ap as_outcome (if_there Outcome now d is judged)))
    (edit-named terms id c.args.query (view c.args.document)) c.in_ok-plan_alone.ensures.writes

pub returns-clause-plan : goal.returns-clause-plan
returns-clause-plan g c = λ honest.
    let id = c.args.id.now in
    let terms = c.in_ok-terms.terms in
    let write = c.in_ok-write.write in
    let before = c.in_ok-write.ensures.reads.goes_on.honest honest in
    let same = c.in_ok-terms.ensures.reads.same before in
    let now = finite.get (g.S.Store.contents c.args.store.now) c.args.db.now in
    let Outcome : Database → Type 0 = λ d. edit_outcome terms id (history_at d id) c.args.query (view c.args.document) ≡ Ok (written_in (history_at d id) (addition_of write)) in
    let judged : IfThere now Outcome = subst (λ (x : Contents). IfThere (finite.get x c.args.db.now) Outcome) same (c.in_ok-write.ensures.ok honest) in
    plan_there now id (view c.args.document) (λ t h. as_outcome (edit_outcome t id h c.args.query (view c.args.document))) terms (terms_in c.args.caller.now c.args.db.now) (Some write) c.in_ok-label.label c.in_ok-plan_alone.field-0
    (c.in_ok-terms.ensures.terms before) (there_is now (λ d is. ap as_outcome (if_there Outcome now d is judged)))
    (edit-named terms id c.args.query (view c.args.document))
    (λ d there. acceptable_in _ c.args.db.now d _ (g.met.S.Store.lawful c.args.store.now (c.in_ok-terms.ensures.reads.goes_on.honest before)) there
    (λ lawful. edit_alone_acceptable (terms_in c.args.caller.now c.args.db.now d) d id c.args.query (view c.args.document) lawful c.requires))
    c.in_ok-plan_alone.ensures.writes c.in_ok-plan_alone.ensures.changed c.in_ok-plan_alone.ensures.may c.in_ok-plan_alone.ensures.results
    c.in_ok-label.ensures.id c.in_ok-label.ensures.rev
