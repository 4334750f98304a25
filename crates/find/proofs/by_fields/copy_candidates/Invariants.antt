use Rattle.std.proofs.Common.{◌≡◌, ◌++◌, map}
use Rattle.find.specs.inner.Sources.{candidate_at}
use Rattle.find.proofs.by_fields.copy_candidates.Given as goal

-- the candidates so far and those of the places to come are those of all places
abbrev pub invariant-loop-place : goal.invariant-loop-place
invariant-loop-place l =
    l.candidates.items ++ map candidate_at (map (λ p. p.id) l.place-iterator) ≡ map candidate_at (map (λ p. p.id) l.fn.places.keys)
