use Rattle.std.proofs.Common.{◌≡◌, ◌&&◌, length, drop, bytes_eq}
use Rattle.auth.proofs.auth.is_same.Given as goal

-- the answer is that of the bytes so far and of those to come
abbrev pub invariant-loop-a : goal.invariant-loop-a
invariant-loop-a l =
    (l.same && bytes_eq (drop (length l.yielded) l.given) (drop (length l.yielded) l.wanted)) ≡ bytes_eq l.given l.wanted
