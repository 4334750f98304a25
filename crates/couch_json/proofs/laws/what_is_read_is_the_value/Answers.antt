use Rattle.couch_json.proofs.ReadingBack.{what_was_read}
use Rattle.couch_json.proofs.laws.what_is_read_is_the_value.Goals as goal

pub returns : goal.returns
returns c = what_was_read
