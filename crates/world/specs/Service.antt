-- What nodes reply to requests that arrive one after another, each at the node of its connection.
-- RFC 9112, section 9.3.2, for the order on a connection; between connections they are served as they arrive.
use Rattle.std.specs.Prelude.{◌≡◌, ℕ, List, [], ◌∷◌, Some, slice_set}
use Rattle.std.specs.List.{slice_get}
use Rattle.auth.specs.Callers.{Configuration}
use Rattle.couch_http.specs.Message.{Message}
use Rattle.couch_http.specs.Reply.{Reply}
use Rattle.node.specs.Step.{Serving}
use Rattle.node.specs.Runs.{IsServedReply}
use Rattle.hub.specs.Arrival.{Arrival, fault_on, request_on}
use Rattle.hub.specs.Endings.{refusal_of}
use Rattle.world.specs.Network.{node_of_connection}
use Rattle.world.specs.declared.fate.Fate.{Fate}

-- a reply on a connection
pub record SeenReply : Type 0 where
  pub conn : ℕ
  pub reply : Reply

-- what a node may reply to a request, and the state of its store after it
abbrev pub StepOf : Type 0 → Type 1
StepOf S = Configuration → S → Message → Reply → S → Type 0

-- who asks: somebody on a connection, or the pass of a number, with this fate of its request and the reply
pub data Asker : Type 0 where
  on_connection : ℕ → Asker
  by_pass : ℕ → Fate → Asker

-- what may come of a request: by who asks, the nodes before it, the number of the node that is asked, its reply, and the nodes after it
abbrev pub Handling : Type 0 → Type 1
Handling S = Asker → List (Serving S) → ℕ → Message → Reply → List (Serving S) → Type 0

-- the node of this number replies to a request, and the others stay as they are
pub record IsHandled {S : Type 0} (step : StepOf S) (old : List (Serving S)) (place : ℕ) (m : Message) (reply : Reply) (new : List (Serving S)) : Type 0 where
  pub node : Serving S
  pub there : slice_get old place ≡ Some node
  pub after : S
  pub handled : step node.configuration node.store m reply after
  pub left : new ≡ slice_set old place (record node { store = after })

-- whoever asks, the node that is asked takes a step of this kind
abbrev pub alike : {S : Type 0} → StepOf S → Handling S
alike step who = IsHandled step

module _ {S : Type 0} (handling : Handling S) where
  -- a request is handled by the node of its connection; a fault of a stream has its fixed reply, and changes nothing
  abbrev pub IsAnswered : List ℕ → List (Serving S) → Arrival → SeenReply → List (Serving S) → Type 0
  IsAnswered homes old (request_on conn m) told new = (told.conn ≡ conn) × handling (on_connection conn) old (node_of_connection homes conn) m told.reply new
  IsAnswered homes old (fault_on conn fault) told new = (told.conn ≡ conn) × (refusal_of fault ≡ told.reply ∷ []) × (new ≡ old)

  -- each arrival has its reply, from the nodes as the one before left them
  abbrev pub IsService : List ℕ → List (Serving S) → List Arrival → List SeenReply → List (Serving S) → Type 0
  IsService homes old [] [] new = new ≡ old
  IsService homes old [] (t ∷ ts) new = ⊥
  IsService homes old (a ∷ ars) [] new = ⊥
  IsService homes old (a ∷ ars) (t ∷ ts) new = (between : List (Serving S)) × IsAnswered homes old a t between × IsService homes between ars ts new

-- no reply stands for a fault of a store or for want of memory
abbrev pub AreAllServed : List SeenReply → Type 0
AreAllServed [] = Unit {0}
AreAllServed (t ∷ ts) = IsServedReply t.reply × AreAllServed ts
