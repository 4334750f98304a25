use Rattle.couch_http.proofs.ReadBack.{our_replies}
use Rattle.couch_http.proofs.laws.replies_are_read_back.Goals as goal

pub returns : goal.returns
returns c = our_replies
