-- Segments of a path: what they escape, and what they spell.
use Rattle.std.proofs.Common.{◌≡◌, ◌<◌, ℕ, List, not, refl, All}
use Rattle.std.proofs.lemmas.Bool.{agree_below_at}
use Rattle.percent_encoding.proofs.PercentLemmas.{round_trip}
use Rattle.percent_encoding.specs.AsciiSet.{contains}
use Rattle.percent_encoding.specs.Percent.{percent_decode}
use Rattle.repl.specs.Spelling.{is_unreserved, reserved_bytes, segment}

pub contains-reserved : (b : ℕ) → b < 128 → contains reserved_bytes b ≡ not (is_unreserved b)
contains-reserved b small = agree_below_at (contains reserved_bytes) (λ k. not (is_unreserved k)) 128 b refl small

pub percent_decode-segment : (name : List ℕ) → All (λ b. b < 256) name → percent_decode (segment name) ≡ name
percent_decode-segment name small = round_trip reserved_bytes name refl small
