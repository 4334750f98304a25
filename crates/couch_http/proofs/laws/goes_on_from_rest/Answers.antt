use Rattle.couch_http.proofs.CutLemmas.{Cuts-append}
use Rattle.couch_http.proofs.laws.goes_on_from_rest.Goals as goal

pub returns : goal.returns
returns c = Cuts-append
