-- The parts of a piece: what a server feeds of it before it writes the replies. Few requests end in one part.
-- RFC 9112, sections 2.1 and 2.2, for the empty line that ends a head; the parts are this project's own.
use Rattle.std.specs.Prelude.{◌≡◌, ◌⊎◌, ◌≤◌, ◌++◌, ℕ, suc, Bool, false, ◌&&◌, ◌||◌, ◌==◌, List, [], ◌∷◌, length, nat_le, Option, Some, if◌then◌else◌}
use Rattle.couch_http.specs.Message.{Message}
use Rattle.couch_http.specs.Reply.{Reply}
use Rattle.couch_http.specs.Stream.{Begins, Cuts, StreamEnd, waits}
use Rattle.store.specs.declared.store.Store.{Ghosts}
use Rattle.couch_http.specs.Writing.{Takes}
use Rattle.hub.specs.Feeding.{HubState, IsFed}
use Rattle.hub.specs.Service.{bytes_of, end_after_farewell, end_after_replies, farewell}
use Rattle.hub.specs.declared.service_end.ServiceEnd.{ServiceEnd}

-- the bytes that end a line
abbrev pub line_feed : ℕ
line_feed = 10

abbrev pub carriage_return : ℕ
carriage_return = 13

-- how many bytes the shortest request has: a method and a target of one letter, the version, and an empty line
abbrev pub least_request : ℕ
least_request = 14

-- where the part ends, in bytes that come at this place; whether all that has come of their line is at most a carriage return
abbrev pub part_from : ℕ → Bool → List ℕ → ℕ
part_from place is_empty [] = place
part_from place is_empty (b ∷ bytes) =
    if (b == line_feed && is_empty) && nat_le least_request (suc place) then suc place
    else part_from (suc place) (b == line_feed || (is_empty && b == carriage_return)) bytes

-- How many bytes the first part of a piece has. It ends with the first empty line that doesn't end before the shortest request would, and else with the piece. So at
-- most two requests end in it: one in its first bytes or with a body, and one with the part.
abbrev pub part_length : List ℕ → ℕ
part_length piece = part_from 0 false piece

-- the bytes are one part
abbrev pub IsPart : List ℕ → Type 0
IsPart bytes = part_length bytes ≡ length bytes

-- Where a stream waits for the rest of a request, at most two requests end in a part that comes then.
abbrev pub FewEndInAPart : Type 0
FewEndInAPart =
    (left part : List ℕ) (messages : List Message) (end : StreamEnd) → Begins left waits → IsPart part → Cuts (left ++ part) messages end
    → length messages ≤ 2

-- ---- for private clauses

-- A part was fed, and its replies were written, or a first part of them; or memory ran out, nothing was fed, and the farewell was written, or
-- a first part of it.
abbrev pub ServesPart : {S : Type 0} → Ghosts S → HubState S → ℕ → List ℕ → Option ServiceEnd → Option (List ℕ) → Option (List ℕ) → HubState S → Type 0
ServesPart {S} g old conn part end output after new =
    ((list : List Reply) × (last whole : Bool) × IsFed g old conn part list last new × (end ≡ end_after_replies whole last) × Takes output after (bytes_of list) whole)
    ⊎ ((whole : Bool) × (new ≡ old) × (end ≡ Some (end_after_farewell whole)) × Takes output after farewell whole)
