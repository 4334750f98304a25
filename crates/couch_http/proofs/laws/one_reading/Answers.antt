use Rattle.couch_http.proofs.CutLemmas.{Cuts_unique}
use Rattle.couch_http.proofs.laws.one_reading.Goals as goal

pub returns : goal.returns
returns c = Cuts_unique
