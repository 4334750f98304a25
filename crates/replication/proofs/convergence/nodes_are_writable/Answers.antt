use Rattle.std.proofs.lemmas.List.Elements.{recursion_from_All}
use Rattle.replication.proofs.WritableNodes.{nodes_writable}
use Rattle.replication.proofs.convergence.nodes_are_writable.Goals as goal

pub returns : goal.returns
returns g c each old honest = nodes_writable g.S.Store each old.nodes (recursion_from_All (λ n. g.S.Store.is_honest n.store) old.nodes honest)
