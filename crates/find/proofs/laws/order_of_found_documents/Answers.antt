use Rattle.find.proofs.Ordered.{found_in_order, found_once}
use Rattle.find.proofs.laws.order_of_found_documents.Goals as goal

pub returns : goal.returns
returns c = record { ordered = found_in_order; once = found_once }
