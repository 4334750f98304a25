use Rattle.store.proofs.Among.{contained, in_contained}
use Rattle.find.proofs.Findables.{findable, found}
use Rattle.find.specs.Found.{found_documents}
use Rattle.find.proofs.laws.found_documents.Goals as goal

pub returns : goal.returns
returns c = record {
  there = λ query db v i. findable query db v (in_contained (found_documents query db) v i);
  whole = λ query db v no_skip fits h. contained (found_documents query db) v (found query db v no_skip fits h);
}
