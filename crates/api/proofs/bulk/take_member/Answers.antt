use Rattle.std.proofs.Common.{ap, ◌∙◌, option_map}
use Rattle.couch_json.specs.View.{view}
use Rattle.couch_json.proofs.Objects.{view-lookup}
use Rattle.api.proofs.bulk.take_member.Goals as goal

pub returns : goal.returns
returns c = ap (option_map view) c.remove.ensures.value ∙ view-lookup c.args.name.now c.args.members.entries
