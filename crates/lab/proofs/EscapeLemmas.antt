-- What is unescaped_text so far, and what is left to spell.
use Rattle.std.proofs.Common.{ℕ, ◌≡◌, ◌++◌, List, [], ◌∷◌, Option, Some, None, option_map, refl, append_assoc}
use Rattle.lab.specs.Escapes.{put}

-- one more byte in front of what is left stands as well behind what is there
pub option_map-put : (bytes : List ℕ) (byte : ℕ) (rest : Option (List ℕ)) → option_map (λ more. bytes ++ more) (put byte rest) ≡ option_map (λ more. (bytes ++ byte ∷ []) ++ more) rest
option_map-put bytes byte None = refl
option_map-put bytes byte (Some more) = simp append_assoc
