use Rattle.couch_json.proofs.KeyOrder.{key-injective, keys_prefix_free}
use Rattle.couch_json.proofs.laws.no_key_begins_another.Goals as goal

pub returns-clause-begin : goal.returns-clause-begin
returns-clause-begin c = keys_prefix_free

pub returns-clause-equal : goal.returns-clause-equal
returns-clause-equal c = key-injective
