use Rattle.std.proofs.Common.{◌≡◌, drop}
use Rattle.std.specs.List.{list_any}
use Rattle.lab.specs.Words.{is_space}
use Rattle.lab.proofs.words.has_space.Given as goal

abbrev pub invariant-loop-byte : goal.invariant-loop-byte
invariant-loop-byte l = list_any is_space (drop l.byte-index l.bytes) ≡ list_any is_space l.bytes
