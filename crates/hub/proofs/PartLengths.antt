-- The first part of a piece is one part.
use Rattle.std.proofs.Common.{◌≡◌, ◌∙◌, ℕ, zero, suc, ◌+◌, ◌≤◌, ◌&&◌, ◌||◌, Bool, true, false, ◌<◌, List, [], ◌∷◌, length, slice_index_or, nat_le, take, drop, if◌then◌else◌, sym, arith}
use Rattle.std.specs.Prelude.{◌==◌}
use Rattle.std.proofs.lemmas.Bool.Decides.{nat_tests}
use Rattle.std.proofs.lemmas.List.{at_drop_more, length-take-le}
use Rattle.hub.specs.Parts.{IsPart, carriage_return, least_request, line_feed, part_from, part_length}

part_again : (n place : ℕ) (is_empty : Bool) (bytes : List ℕ) → place + n ≡ part_from place is_empty bytes → part_from place is_empty (take n bytes) ≡ place + n
part_again zero place is_empty bytes is = omega arith
part_again (suc n) place is_empty [] is = omega (arith, is)
part_again (suc n) place is_empty (b ∷ bytes) is =
    by ((b == line_feed && is_empty) && nat_le least_request (suc place)) (b == line_feed || (is_empty && b == carriage_return)) is (λ next at. part_again n (suc place) next bytes at)
  where
    by : (ends next : Bool) → place + suc n ≡ (if ends then suc place else part_from (suc place) next bytes)
        → ((e : Bool) → suc place + n ≡ part_from (suc place) e bytes → part_from (suc place) e (take n bytes) ≡ suc place + n)
        → (if ends then suc place else part_from (suc place) next (take n bytes)) ≡ place + suc n
    by true next at again = sym at
    by false next at again = let e = again next (omega (arith, at)) in omega (arith, e)

pub first_is_part : (n : ℕ) (bytes : List ℕ) → n ≡ part_length bytes → n ≤ length bytes → IsPart (take n bytes)
first_is_part n bytes is inside =
    let e = part_again n 0 false bytes (omega (arith, is)) in
    let length_is = length-take-le n bytes inside in omega (arith, e, length_is)

-- the byte that ends the part
ends_here : (place b : ℕ) (is_empty : Bool) (rest : List ℕ) → b ≡ line_feed → is_empty ≡ true → least_request ≤ place + 1 → part_from place is_empty (b ∷ rest) ≡ place + 1
ends_here place b is_empty rest feed empty far =
    let reached : nat_le least_request (suc place) ≡ true = grind (arith, nat_tests) in
    rw (feed, empty, reached) (omega arith)

pub part_found : (place : ℕ) (is_empty : Bool) (piece : List ℕ) → place < length piece → slice_index_or piece place 0 ≡ line_feed → is_empty ≡ true → least_request ≤ place + 1
    → part_from place is_empty (drop place piece) ≡ part_length piece → IsPart (take (place + 1) piece)
part_found place is_empty piece inside feed empty far is =
    first_is_part (place + 1) piece
    (sym (ends_here place (slice_index_or piece place 0) is_empty (drop (place + 1) piece) feed empty far) ∙ sym (at_drop_more (part_from place is_empty) piece place 0 inside) ∙ is)
    (omega (arith, inside))
