use Rattle.couch_http.proofs.CutLemmas.{Cuts-append_ended, Cuts-append_faulty}
use Rattle.couch_http.proofs.laws.stays_ended.Goals as goal

pub returns : goal.returns
returns c = λ bytes more messages. (Cuts-append_ended bytes more messages, Cuts-append_faulty bytes more messages)
