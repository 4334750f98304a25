use Rattle.std.proofs.Common.{◌≡◌, ◌≤◌, length, drop, vec_capacity}
use Rattle.tree.specs.Nodes.{IsBetween, entries_before, insertions_in, next_of, nodes_with}
use Rattle.tree.proofs.nodes.put_nodes.Given as goal

-- between two nodes, with room for the rest; and the rest makes of the nodes what the whole path makes of those at the start
abbrev pub invariant-loop-i : goal.invariant-loop-i
invariant-loop-i l = record {
  between : IsBetween l.initial.nodes.entries l.nodes.entries l.leaves l.awaited.keys (insertions_in l.came_in.items l.path l.parent) l.is_followed (next_of (drop l.i l.path) l.parent);
  each : length l.came_in.items ≡ l.i;
  room : length l.path ≤ vec_capacity l.came_in;
  rest : nodes_with l.nodes.entries (entries_before l.held (drop l.i l.path) l.parent) ≡ nodes_with l.initial.nodes.entries (entries_before l.initial.held l.path l.parent);
}
