use Rattle.std.proofs.Common.{rules}
use Rattle.std.specs.FinMap as finite
use Rattle.couch_json.specs.View.{view}
use Rattle.store.specs.Database.{Database, history_at}
use Rattle.write.specs.Admission.{edit_outcome}
use Rattle.write.proofs.FollowedRules.{refused_there}
use Rattle.write.proofs.following.judge_edit.Goals as goal

pub returns-in_err-sent-clause-refused : goal.returns-in_err-sent-clause-refused
returns-in_err-sent-clause-refused g c honest =
    refused_there c.from_residual.result c.in_err-sent.field-0.0 (finite.get (g.S.Store.contents c.args.store.now) c.args.db.now)
    (λ (d : Database). edit_outcome c.args.terms.now c.args.id.now (history_at d c.args.id.now) c.args.query (view c.args.document)) (search rules)
    (λ other d. c.in_err-sent.ensures.fault other (history_at d c.args.id.now))
