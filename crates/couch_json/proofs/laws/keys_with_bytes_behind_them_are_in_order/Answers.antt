use Rattle.couch_json.proofs.KeyOrder.{key_order}
use Rattle.couch_json.proofs.laws.keys_with_bytes_behind_them_are_in_order.Goals as goal

pub returns : goal.returns
returns c = key_order
