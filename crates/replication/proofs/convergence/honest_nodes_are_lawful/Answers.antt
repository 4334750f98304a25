use Rattle.std.proofs.lemmas.List.Elements.{recursion_from_All}
use Rattle.replication.proofs.Starting.{stores_lawful}
use Rattle.replication.proofs.convergence.honest_nodes_are_lawful.Goals as goal

pub returns : goal.returns
returns g c old honest = stores_lawful g.S.Store g.met.S.Store.lawful old.nodes (recursion_from_All (λ n. g.S.Store.is_honest n.store) old.nodes honest)
