-- What a node answers to requests, one after another, where the states are those of its store.
-- RFC 9112, section 9.3.2: replies come in the order of their requests.
use Rattle.std.specs.Prelude.{◌≡◌, List, [], ◌∷◌}
use Rattle.auth.specs.Callers.{Configuration}
use Rattle.couch_http.specs.Message.{Message}
use Rattle.couch_http.specs.Reply.{Reply}
use Rattle.store.specs.declared.store.Store.{Ghosts}
use Rattle.node.specs.Causes.{HasCause}
use Rattle.node.specs.Runs.{IsRun, Stepped, end_of, messages_of}
use Rattle.node.specs.Step.{IsStep}

-- a step from store to store; a reply of 500 has its cause in this step
abbrev pub StoreSteps : {S : Type 0} → Ghosts S → Configuration → S → Message → Reply → S → Type 0
StoreSteps g c before m reply after = IsStep c (g.contents before) m (HasCause g before after) reply (g.contents after)

-- the replies of a run
abbrev pub replies_of : {S : Type 0} → List (Stepped S) → List Reply
replies_of [] = []
replies_of (s ∷ ss) = s.reply ∷ replies_of ss

-- from one store to the other these requests have these replies, each by a step from the store that the one before left
pub record RepliesInOrder {S : Type 0} (g : Ghosts S) (c : Configuration) (before : S) (messages : List Message) (replies : List Reply) (after : S) : Type 0 where
  pub steps : List (Stepped S)
  pub run : IsRun (StoreSteps g c) before steps
  pub requests : messages_of steps ≡ messages
  pub answers : replies_of steps ≡ replies
  pub ends : end_of before steps ≡ after
