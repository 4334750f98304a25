-- What comes of a reply with one more piece of its bytes.
-- RFC 9112: how a reply begins is said by couch_http.
use Rattle.std.specs.Prelude.{◌≡◌, ◌≢◌, ◌⊎◌, ℕ, List, [], Option, Some, None}
use Rattle.couch_http.specs.ReplyStream.{GivesReply, RefusesReply}
use Rattle.couch_http.specs.declared.fault.HttpFault.{HttpFault}
use Rattle.couch_http.specs.declared.fault.HttpFault.TheVariants.{Memory}
use Rattle.sync.specs.Streams.{IsFinal}
use Rattle.sync.specs.declared.outcome.Outcome.{Outcome}
use Rattle.sync.specs.declared.outcome.Outcome.TheVariants.{Interrupted}
use Rattle.sync.specs.declared.turn.Turn.{Turn}
use Rattle.sync.specs.declared.turn.Turn.TheVariants.{Waits, Whole, Lost, Broken}

-- What comes of a reply with a read that gave this piece, where old had come of it before: the cutter is fed the piece, or the read was
-- interrupted; or nothing more comes.
abbrev pub IsTurn : Option (List ℕ) → Outcome → List ℕ → Turn → Option (List ℕ) → Type 0
IsTurn old outcome piece Waits new = GivesReply old piece None new ⊎ ((outcome ≡ Interrupted) × (piece ≡ []) × (new ≡ old))
IsTurn old outcome piece (Whole reply) new = GivesReply old piece (Some reply) new
IsTurn old outcome piece Lost new = IsFinal outcome × (piece ≡ [])
IsTurn old outcome piece Broken new = (fault : HttpFault) × (fault ≢ Memory) × RefusesReply old piece fault new
