use Rattle.std.proofs.Common.{◌≡◌, drop}
use Rattle.std.specs.List.{list_all}
use Rattle.std.specs.Prelude.{is_some}
use Rattle.tree.specs.History.{held_of}
use Rattle.file_check.proofs.layout.documents.are_held.Given as goal

abbrev pub invariant-loop-leaf : goal.invariant-loop-leaf
invariant-loop-leaf l = list_all (λ r. is_some (held_of l.history r)) (drop l.leaf-index l.leaves) ≡ list_all (λ r. is_some (held_of l.history r)) l.leaves
