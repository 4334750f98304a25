-- What a cutter answers to a piece, in the words of `Stream`.
-- The same sources as `Stream`: RFC 9112, and this project's own limits.
use Rattle.std.specs.Prelude.{⊤, List, ◌++◌, map, ℕ, Option, Some, None}
use Rattle.couch_http.specs.declared.cut.Ending.{Ending}
use Rattle.couch_http.specs.declared.cut.Ending.TheVariants.{Open, Last, Fault}
use Rattle.couch_http.specs.declared.cut.Cut.{Cut}
use Rattle.couch_http.specs.Message.{Message, message_of}
use Rattle.couch_http.specs.Stream.{Cuts, IsStreamFault, unfinished, ended, faulty}

-- the requests of an answer
abbrev pub messages_of : Cut → List Message
messages_of cut = map message_of cut.requests.items

-- A stream of these bytes holds these requests and then stands so; left is what has come of the next request, and None
-- where no more is taken.
abbrev pub CutsTo : List ℕ → List Message → Ending → Option (List ℕ) → Type 0
CutsTo bytes messages Open (Some left) = Cuts bytes messages (unfinished left)
CutsTo bytes messages Open None = ⊥
CutsTo bytes messages Last (Some left) = ⊥
CutsTo bytes messages Last None = Cuts bytes messages ended
CutsTo bytes messages (Fault fault) (Some left) = ⊥
CutsTo bytes messages (Fault fault) None = Cuts bytes messages (faulty fault)

-- where a stream ends with a fault, it is one that a stream may have
abbrev pub HasStreamFault : Ending → Type 0
HasStreamFault Open = ⊤
HasStreamFault Last = ⊤
HasStreamFault (Fault fault) = IsStreamFault fault

-- the answer to a piece, where old had come of the next request before it
abbrev pub CutsPiece : Option (List ℕ) → List ℕ → Cut → Option (List ℕ) → Type 0
CutsPiece (Some old) piece cut left = CutsTo (old ++ piece) (messages_of cut) cut.ending left
CutsPiece None piece cut left = ⊥
