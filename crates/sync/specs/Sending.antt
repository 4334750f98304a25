-- Requests that are sent over a connection ahead of their turn.
-- RFC 9112, section 9.3.2: the replies come in the order of the requests.
use Rattle.std.specs.Prelude.{◌≡◌, ℕ, List, [], ◌∷◌, ◌++◌, map, take}
use Rattle.std.specs.List.{concat}
use Rattle.sync.specs.declared.ahead.Ahead.{Ahead}

-- the requests whose replies were not read yet, in their order
abbrev pub awaited_of : Ahead → List (List ℕ)
awaited_of ahead = map (λ request. request.items) ahead.requests.items

-- a request and some of those that come next are sent one behind another, and the replies to the latter are awaited
abbrev pub IsQueued : List ℕ → List (List ℕ) → List (List ℕ) → List (List ℕ) → List ℕ → Type 0
IsQueued first next before after bytes =
    (count : ℕ) × (after ≡ before ++ take count next) × (bytes ≡ concat (first ∷ take count next))
