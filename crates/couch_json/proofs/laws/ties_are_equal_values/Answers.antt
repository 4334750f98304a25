use Rattle.couch_json.proofs.Orders.{collation_tied}
use Rattle.couch_json.proofs.laws.ties_are_equal_values.Goals as goal

pub returns : goal.returns
returns c = collation_tied
