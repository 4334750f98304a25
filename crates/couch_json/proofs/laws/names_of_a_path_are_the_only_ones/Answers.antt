use Rattle.couch_json.proofs.Paths.{CanBeJoined-names_in, names_in-path_text}
use Rattle.couch_json.proofs.laws.names_of_a_path_are_the_only_ones.Goals as goal

pub returns-clause-joined : goal.returns-clause-joined
returns-clause-joined c = CanBeJoined-names_in

pub returns-clause-only : goal.returns-clause-only
returns-clause-only c = names_in-path_text
