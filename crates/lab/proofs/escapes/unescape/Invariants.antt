use Rattle.std.proofs.Common.{◌≡◌, ◌++◌, length, option_map}
use Rattle.lab.specs.Escapes.{unescaped_text}
use Rattle.lab.proofs.escapes.unescape.Given as goal

abbrev pub invariant-loop-rest : goal.invariant-loop-rest
invariant-loop-rest l = option_map (λ more. l.bytes.items ++ more) (unescaped_text l.rest) ≡ unescaped_text l.text

abbrev pub decreases-loop-rest : goal.decreases-loop-rest
decreases-loop-rest l = length l.rest
