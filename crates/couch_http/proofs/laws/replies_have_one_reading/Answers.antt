use Rattle.couch_http.proofs.ReplyLaws.{any_pieces}
use Rattle.couch_http.proofs.laws.replies_have_one_reading.Goals as goal

pub returns : goal.returns
returns c = any_pieces
