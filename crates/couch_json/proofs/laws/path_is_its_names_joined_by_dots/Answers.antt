use Rattle.couch_json.proofs.Paths.{path_text-names_in}
use Rattle.couch_json.proofs.laws.path_is_its_names_joined_by_dots.Goals as goal

pub returns : goal.returns
returns c = path_text-names_in
