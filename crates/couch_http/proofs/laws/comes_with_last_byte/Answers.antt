use Rattle.couch_http.proofs.ArrivalLemmas.{EndsAt_comes}
use Rattle.couch_http.proofs.laws.comes_with_last_byte.Goals as goal

pub returns : goal.returns
returns c = EndsAt_comes
