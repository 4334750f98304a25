-- Runs of requests on one node, one after another, with the state after each.
-- This server's own; that requests are answered in order is RFC 9112, section 9.3.2.
use Rattle.std.specs.Prelude.{◌≢◌, List, [], ◌∷◌, ⊤}
use Rattle.auth.specs.Callers.{Configuration}
use Rattle.couch_http.specs.Message.{Message}
use Rattle.couch_http.specs.Reply.{Reply}
use Rattle.store.specs.Contents.{Contents}
use Rattle.node.specs.Step.{IsStep}

-- a request with its reply, and the state after it: a store, or its contents
pub record Stepped (S : Type 0) : Type 0 where
  pub message : Message
  pub reply : Reply
  pub after : S

-- each request is answered from the state that the one before it left
abbrev pub IsRun : {S : Type 0} → (S → Message → Reply → S → Type 0) → S → List (Stepped S) → Type 0
IsRun step before [] = ⊤
IsRun step before (s ∷ ss) = step before s.message s.reply s.after × IsRun step s.after ss

-- the state after all of them
abbrev pub end_of : {S : Type 0} → S → List (Stepped S) → S
end_of before [] = before
end_of before (s ∷ ss) = end_of s.after ss

-- the requests of a run
abbrev pub messages_of : {S : Type 0} → List (Stepped S) → List Message
messages_of [] = []
messages_of (s ∷ ss) = s.message ∷ messages_of ss

-- a step from databases to databases, whatever a fault of the store came from
abbrev pub Steps : Configuration → Contents → Message → Reply → Contents → Type 0
Steps c before m reply after = IsStep c before m (λ _. ⊤) reply after

-- the request was served: the reply stands neither for a fault of the store nor for want of memory
abbrev pub IsServedReply : Reply → Type 0
IsServedReply reply = (reply.status ≢ 500) × (reply.status ≢ 503)

-- each reply is no fixed one
abbrev pub AreServed : {S : Type 0} → List (Stepped S) → Type 0
AreServed [] = ⊤
AreServed (s ∷ ss) = IsServedReply s.reply × AreServed ss
