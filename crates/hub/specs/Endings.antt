-- What the end of a stream means for its connection: what is left of it, whether it has ended, and its last reply.
-- RFC 9112, sections 9.3 and 9.6; the fixed replies are this project's own.
use Rattle.std.specs.Prelude.{ℕ, Bool, true, false, List, [], ◌∷◌, Option, Some, None}
use Rattle.couch_http.specs.Reply.{Reply, fixed_reply}
use Rattle.couch_http.specs.Stream.{StreamEnd, unfinished, ended, faulty}
use Rattle.couch_http.specs.declared.fault.HttpFault.{HttpFault}
use Rattle.couch_http.specs.declared.fault.HttpFault.TheVariants.{Syntax, Encoding, TooLarge, Memory, Closed}
use Rattle.couch_http.specs.declared.fixed.Fixed.TheVariants as fixed

-- what has come of the next request where a stream stands so, and None where it has ended
abbrev pub rest_of : StreamEnd → Option (List ℕ)
rest_of (unfinished rest) = Some rest
rest_of ended = None
rest_of (faulty fault) = None

-- no more requests come
abbrev pub is_last : StreamEnd → Bool
is_last (unfinished rest) = false
is_last ended = true
is_last (faulty fault) = true

-- the reply to a fault of a stream; the last two are faults of calls alone
abbrev pub refusal_of : HttpFault → List Reply
refusal_of Syntax = fixed_reply fixed.Syntax ∷ []
refusal_of Encoding = fixed_reply fixed.Encoding ∷ []
refusal_of TooLarge = fixed_reply fixed.TooLarge ∷ []
refusal_of Memory = []
refusal_of Closed = []

-- the reply that a stream still has to have where it stands so
abbrev pub last_replies : StreamEnd → List Reply
last_replies (unfinished rest) = []
last_replies ended = []
last_replies (faulty fault) = refusal_of fault
