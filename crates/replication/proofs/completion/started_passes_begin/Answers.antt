use Rattle.std.proofs.lemmas.List.Elements.{recursion_from_All}
use Rattle.replication.proofs.Starting.{started_there, stores_lawful}
use Rattle.replication.proofs.completion.started_passes_begin.Goals as goal

pub returns : goal.returns
returns g c old t honest first told = record {
  there = started_there old.transfers t;
  first = first;
  told = told;
  lawful = stores_lawful g.S.Store g.met.S.Store.lawful old.nodes (recursion_from_All (λ n. g.S.Store.is_honest n.store) old.nodes honest);
}
