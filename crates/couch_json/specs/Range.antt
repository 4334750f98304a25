-- Which whole numbers a value may hold.
-- RFC 8259, section 6, lets a receiver set limits on the range of numbers; these are those of an integer of 64 bits, with a sign or
-- without.
use Rattle.std.specs.Prelude.{ℕ, ℤ, pos, negsuc, ◌^◌, ◌-◌, ◌≤ℤ◌}

-- from -2^63 to 2^64 - 1
pub record IsInRange (n : ℤ) : Type 0 where
  pub above : negsuc (2 ^ 63 - 1) ≤ℤ n
  pub below : n ≤ℤ pos (2 ^ 64 - 1)

-- the greatest count and the greatest sequence that a request names, 2^63 - 1; no other value is bound by it
abbrev pub greatest_count : ℕ
greatest_count = 9223372036854775807
