use Rattle.std.proofs.Common.{◌≡◌, ◌≤◌, Bool, ◌&&◌, Option, length, not, vec_len}
use Rattle.tree.specs.Revision.{Revision}
use Rattle.tree.specs.Nodes.{has, insertions_in, is_new, leaves_with, nodes_before}
use Rattle.tree.proofs.nodes.take_back.Given as goal

-- taking back the rest gives what taking back all gives
abbrev pub invariant-loop-is_new : goal.invariant-loop-is_new
invariant-loop-is_new l = record {
  few : length l.came_in.items ≤ length l.path;
  nodes : (parent : Option Revision) → nodes_before l.nodes.entries (insertions_in l.came_in.items l.path parent) ≡ nodes_before l.initial.nodes.entries (insertions_in l.initial.came_in.items l.path parent);
  leaves : (parent : Option Revision) (mark : Bool) (r : Revision) → (has (leaves_with l.leaves mark) r && not (is_new (insertions_in l.came_in.items l.path parent) r)) ≡ (has (leaves_with l.initial.leaves mark) r && not (is_new (insertions_in l.initial.came_in.items l.path parent) r));
}

abbrev pub decreases-loop-is_new : goal.decreases-loop-is_new
decreases-loop-is_new l = vec_len l.came_in
