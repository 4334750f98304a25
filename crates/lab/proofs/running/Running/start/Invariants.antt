use Rattle.std.proofs.Common.{◌≡◌, ◌++◌, length, map}
use Rattle.std.specs.Vec.Iter.{into_iter_items}
use Rattle.lab.specs.Naming.{named_of, numbers_from}
use Rattle.lab.specs.Scene.{first_network}
use Rattle.lab.specs.Stages.{configuration_of, nodes_of}
use Rattle.lab.proofs.running.Running.start.Given as goal

abbrev pub invariant-loop-store : goal.invariant-loop-store
invariant-loop-store g l = record {
  nodes : l.nodes.items ++ (first_network (configuration_of l.server) (map named_of (into_iter_items l.store-iterator))).network.nodes
      ≡ (first_network (configuration_of l.server) (nodes_of l.fn.layout)).network.nodes;
  names : map named_of l.names.items ++ numbers_from (length l.nodes.items) (map named_of (into_iter_items l.store-iterator)) ≡ numbers_from 0 (nodes_of l.fn.layout);
}
