use Rattle.write.proofs.Acceptances.{edit_acceptable, replicated_acceptable, all_acceptable}
use Rattle.write.proofs.laws.plans_are_acceptable.Goals as goal

pub returns : goal.returns
returns c = record { edited = edit_acceptable; replicated = replicated_acceptable; together = all_acceptable }
