use Rattle.std.proofs.Common.{◌≡◌, Bool, ◌&&◌, not, drop}
use Rattle.tree.specs.Revision.{Revision}
use Rattle.tree.specs.Nodes.{has, insertions_in, is_followed, is_new, leaves_with}
use Rattle.tree.proofs.nodes.settle.Given as goal

-- settling the rest gives what settling all gives
abbrev pub invariant-loop-i : goal.invariant-loop-i
invariant-loop-i l = record {
  leaves : (mark : Bool) (r : Revision) → (has (leaves_with l.leaves mark) r && not (is_followed (insertions_in (drop l.i l.came_in) (drop l.i l.path) l.parent) r)) ≡ (has (leaves_with l.initial.leaves mark) r && not (is_followed (insertions_in l.came_in l.path l.parent) r));
  awaited : (r : Revision) → (has l.awaited.keys r && not (is_new (insertions_in (drop l.i l.came_in) (drop l.i l.path) l.parent) r)) ≡ (has l.initial.awaited.keys r && not (is_new (insertions_in l.came_in l.path l.parent) r));
}
