use Rattle.std.proofs.Common.{◌≡◌, take}
use Rattle.selector.specs.Members.{marks_of}
use Rattle.selector.proofs.members.mark_found.Given as goal

abbrev pub invariant-loop-item : goal.invariant-loop-item
invariant-loop-item l = l.marks ≡ marks_of l.values (take l.item-index l.items)
