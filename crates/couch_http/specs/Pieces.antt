-- A stream that comes in pieces.
-- This project's own words: a stream of HTTP has no pieces (RFC 9112, section 2).
use Rattle.std.specs.Prelude.{◌≡◌, ℕ, List, [], ◌∷◌, ◌++◌}
use Rattle.std.specs.List.{flat_map}
use Rattle.couch_http.specs.Message.{Message}
use Rattle.couch_http.specs.Stream.{StreamEnd, unfinished, ended, faulty, Cuts}

-- the bytes of all the pieces
abbrev pub bytes_of_pieces : List (List ℕ) → List ℕ
bytes_of_pieces pieces = flat_map (λ piece. piece) pieces

-- after a piece that gave the first of the requests; Next says what the later pieces give behind what was left
abbrev pub GivesFirst : StreamEnd → (List ℕ → List Message → Type 0) → List Message → List Message → StreamEnd → Type 0
GivesFirst (unfinished left) Next first messages end = (others : List Message) × Next left others × (messages ≡ first ++ others)
GivesFirst ended Next first messages end = (messages ≡ first) × (end ≡ ended)
GivesFirst (faulty fault) Next first messages end = (messages ≡ first) × (end ≡ faulty fault)

-- cut one after another, behind the bytes left of what came before, the pieces give these requests in all, and the
-- stream then stands so; an ended stream takes no more
abbrev pub CutInPieces : List ℕ → List (List ℕ) → List Message → StreamEnd → Type 0
CutInPieces left [] messages end = (messages ≡ []) × (end ≡ unfinished left)
CutInPieces left (piece ∷ pieces) messages end =
    (first : List Message) × (middle : StreamEnd) × Cuts (left ++ piece) first middle
    × GivesFirst middle (λ after others. CutInPieces after pieces others end) first messages end
