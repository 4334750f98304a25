use Rattle.couch_json.proofs.ReadingBack.{reading-canonical}
use Rattle.couch_json.proofs.laws.canonical_text_reads_back.Goals as goal

pub returns : goal.returns
returns c = reading-canonical
