-- Nodes that stand on stores whose revisions can be written have databases whose revisions can be written.
use Rattle.std.proofs.Common.{zero, suc, List, [], ◌∷◌, subst}
use Rattle.std.specs.List.{AllByRecursion}
use Rattle.store.specs.Contents.{Contents}
use Rattle.store.specs.declared.store.Store.{Ghosts}
use Rattle.node.specs.Step.{Serving}
use Rattle.world.specs.Network.{databases_of, with_databases}
use Rattle.replication.proofs.Keepings.{one_node}
use Rattle.replication.specs.Replicable.{AreAllWritable, HaveWritable}

pub nodes_writable : {S : Type 0} (g : Ghosts S) → ((s : S) → g.is_honest s → HaveWritable (g.contents s)) → (nodes : List (Serving S)) → AllByRecursion (λ n. g.is_honest n.store) nodes
    → AreAllWritable (databases_of g nodes)
nodes_writable g each [] h place node e = absurd cc
nodes_writable g each (n ∷ ns) h zero node e = subst (λ (x : Serving Contents). HaveWritable x.store) (one_node (with_databases g n) node e) (each n.store h.0)
nodes_writable g each (n ∷ ns) h (suc k) node e = nodes_writable g each ns h.1 k node e
