use Rattle.std.proofs.Common.{◌≡◌, ◌++◌, map, drop, string_bytes}
use Rattle.auth.proofs.auth.copies.Given as goal

-- the copies so far and the texts to come are all texts
abbrev pub invariant-loop-text : goal.invariant-loop-text
invariant-loop-text l = map string_bytes l.copies.items ++ map string_bytes (drop l.text-index l.texts) ≡ map string_bytes l.texts
