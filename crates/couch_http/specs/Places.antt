-- Where the last byte of each request stands in a stream.
-- RFC 9112, section 6: a request ends with the last byte of its body, or of its head where it has none.
use Rattle.std.specs.Prelude.{◌≡◌, ℕ, ◌+◌, List, [], ◌∷◌, length, MatchBool}
use Rattle.couch_http.specs.Message.{Message}
use Rattle.couch_http.specs.Stream.{whole, Begins}

-- Behind so many bytes of a stream, these bytes hold the requests, whose last bytes stand at these places, counted from 1.
-- Behind a request that says that it is the last there is no other.
abbrev pub EndsAt : ℕ → List ℕ → List Message → List ℕ → Type 0
EndsAt before bytes [] places = places ≡ []
EndsAt before bytes (m ∷ messages) [] = ⊥
EndsAt before bytes (m ∷ messages) (place ∷ places) =
    (rest : List ℕ) × Begins bytes (whole m rest) × (place + length rest ≡ before + length bytes)
    × MatchBool m.last ((messages ≡ []) × (places ≡ [])) (EndsAt place rest messages places)
