use Rattle.couch_json.proofs.KeyOrder.{keys_in_order}
use Rattle.couch_json.proofs.laws.keys_are_in_order.Goals as goal

pub returns : goal.returns
returns c = keys_in_order
