-- A list between commas is its first element and the others, each after a comma.
use Rattle.std.proofs.Common.{◌≡◌, ℕ, List, [], ◌∷◌, ◌++◌, ap, sym}
use Rattle.std.proofs.lemmas.List.{append-nil}
use Rattle.std.specs.List.{join_with_byte}
use Rattle.repl.specs.inner.Joined.{after_commas}

pub join_after_first : (x : List ℕ) (xs : List (List ℕ)) → join_with_byte 44 (x ∷ xs) ≡ x ++ after_commas xs
join_after_first x [] = sym (append-nil x)
join_after_first x (y ∷ ys) = ap (λ rest. x ++ (44 ∷ rest)) (join_after_first y ys)
