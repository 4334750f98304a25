use Rattle.couch_http.proofs.FaultLemmas.{Cuts_fault}
use Rattle.couch_http.proofs.laws.has_stream_faults.Goals as goal

pub returns : goal.returns
returns c = Cuts_fault
