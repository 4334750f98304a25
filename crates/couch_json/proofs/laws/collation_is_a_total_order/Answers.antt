use Rattle.couch_json.proofs.Orders.{collation_total}
use Rattle.couch_json.proofs.laws.collation_is_a_total_order.Goals as goal

pub returns : goal.returns
returns c = collation_total
