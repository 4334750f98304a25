use Rattle.std.proofs.Common.{ap, ◌∙◌}
use Rattle.couch_json.specs.View.{view}
use Rattle.write.specs.Document.{sent_in}
use Rattle.write.proofs.Ancestries.{same_sent}
use Rattle.write.proofs.ancestry.take_given.Goals as goal

pub returns-clause-sent : goal.returns-clause-sent
returns-clause-sent c = λ id. ap (sent_in id) c.take_member-value.ensures.rest ∙ same_sent id (view c.args.document)
