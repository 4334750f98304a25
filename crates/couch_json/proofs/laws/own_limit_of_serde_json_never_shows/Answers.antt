use Rattle.couch_json.proofs.ReadingBack.{read-within}
use Rattle.couch_json.proofs.laws.own_limit_of_serde_json_never_shows.Goals as goal

pub returns : goal.returns
returns c = read-within c.args.bytes.now
