-- A side of which only its answers are known.
-- This project's own.
use Rattle.std.specs.Prelude.{◌≡◌, List, [], ◌∷◌, ◌++◌, map}
use Rattle.couch_http.specs.Message.{Message, message_of}
use Rattle.couch_http.specs.declared.request.Request.{Request}
use Rattle.sync.specs.declared.answer.Answer.{Answer}

-- a request, which was sent once or more, and what came of it
pub record Exchanged : Type 0 where
  pub request : Message
  pub answer : Answer

-- what a log holds
abbrev pub exchanges_of : List (Request × Answer) → List Exchanged
exchanges_of entries = map (λ e. record { request = message_of e.0; answer = e.1 }) entries

-- the log has one more exchange, this one
abbrev pub IsLogged : List (Request × Answer) → Message → Answer → List (Request × Answer) → Type 0
IsLogged before m answer after = exchanges_of after ≡ exchanges_of before ++ record { request = m; answer = answer } ∷ []
