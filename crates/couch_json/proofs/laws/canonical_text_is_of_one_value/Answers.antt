use Rattle.couch_json.proofs.ReadingBack.{canonical-injective}
use Rattle.couch_json.proofs.laws.canonical_text_is_of_one_value.Goals as goal

pub returns : goal.returns
returns c = canonical-injective
