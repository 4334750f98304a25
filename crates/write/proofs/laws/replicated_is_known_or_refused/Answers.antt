use Rattle.write.proofs.Settlings.{all_settled, all_settled_in}
use Rattle.write.proofs.laws.replicated_is_known_or_refused.Goals as goal

pub returns : goal.returns
returns c = record { known = λ terms histories documents. all_settled terms documents histories; stored = all_settled_in }
