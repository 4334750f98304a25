-- What private clauses say of one event: a piece at a node, and the turn of a pass.
-- This project's own.
use Rattle.std.specs.Prelude.{◌≡◌, ◌<◌, ℕ, true, false, Bool, List, [], ◌∷◌, map, length, None, Some, slice_set}
use Rattle.std.specs.List.{All, slice_get}
use Rattle.couch_http.specs.Message.{Message}
use Rattle.couch_http.specs.Reply.{Reply}
use Rattle.store.specs.declared.store.Store.{Ghosts}
use Rattle.node.specs.Step.{Serving}
use Rattle.hub.specs.Connections.{ConnectionTable}
use Rattle.hub.specs.Feeding.{IsFed}
use Rattle.repl.specs.Asks.{pass_of}
use Rattle.repl.specs.Passes.{Asked, Pass, to_source, to_target, done, stopped_by, answered_of, lost_of}
use Rattle.world.specs.Happening.{Happening, Sight, exchanges, exchanged, ended}
use Rattle.world.specs.Network.{Network, Transfer as Between}
use Rattle.world.specs.OneEvent.{sight_of}
use Rattle.world.specs.Playing.{Happens, all_replied}
use Rattle.world.specs.Service.{Handling, IsHandled, SeenReply, StepOf}
use Rattle.world.specs.declared.fate.Fate.{Fate}
use Rattle.world.specs.declared.fate.Fate.TheVariants.{Answered, ReplyLost, RequestLost}
use Rattle.world.specs.declared.event_outcome.EventOutcome.{EventOutcome}
use Rattle.world.specs.declared.event_outcome.EventOutcome.TheVariants as outcome
use Rattle.world.specs.declared.transfer.Transfer.{Transfer}

abbrev pub transfer_of : Transfer → Between
transfer_of t = record { from = t.from; to = t.to; pass = pass_of t.pass }

abbrev pub replies_on : ℕ → List Reply → List SeenReply
replies_on conn replies = map (λ r. record { conn = conn; reply = r }) replies

-- what is seen of an event
abbrev pub sights_of : EventOutcome → List Sight
sights_of (outcome.Replies conn list) = all_replied (replies_on conn list.items)
sights_of (outcome.One one) = sight_of one ∷ []
sights_of outcome.Lost = []

-- both nodes of each pass are there
abbrev pub AreBetween : {S : Type 0} → List (Serving S) → List Between → Type 0
AreBetween nodes transfers = All (λ t. (t.from < length nodes) × (t.to < length nodes)) transfers

-- each connection leads to one of the nodes
pub record AreHomes {S : Type 0} (nodes : List (Serving S)) (homes : List ℕ) (table : ConnectionTable) : Type 0 where
  pub each : length homes ≡ table.opened
  pub inside : All (λ home. home < length nodes) homes

-- A piece came on a connection that leads to the node of this number.
pub record IsTurn {S : Type 0} (g : Ghosts S) (old : List (Serving S)) (home : ℕ) (before : ConnectionTable) (conn : ℕ) (bytes : List ℕ) (list : List Reply) (last : Bool)
    (new : List (Serving S)) (after : ConnectionTable) : Type 0 where
  pub node : Serving S
  pub there : slice_get old home ≡ Some node
  pub next : Serving S
  pub fed : IsFed g (record { node = node; connections = before; failures = None }) conn bytes list last (record { node = next; connections = after; failures = None })
  pub configuration : next.configuration ≡ node.configuration
  pub left : new ≡ slice_set old home next

-- an event stands as an exchange whose reply was lost
pub record IsLost {S : Type 0} (handling : Handling S) (old : Network S) (h : Happening) (new : Network S) : Type 0 where
  pub number : ℕ
  pub asked : h ≡ exchanges number Answered
  pub seen : List Sight
  pub left : Happens handling old (exchanges number ReplyLost) seen new

-- what came of an event, as it stands
abbrev pub HappensAs : {S : Type 0} → Handling S → Network S → Happening → EventOutcome → Network S → Type 0
HappensAs handling old h (outcome.Replies conn list) new = Happens handling old h (all_replied (replies_on conn list.items)) new
HappensAs handling old h (outcome.One one) new = Happens handling old h (sight_of one ∷ []) new
HappensAs handling old h outcome.Lost new = IsLost handling old h new

-- What is said of an exchange is so with its fate and with what is seen of it; or, where there was no memory to take its reply in, with
-- the fate of a loss.
abbrev pub StandsWith : Fate → EventOutcome → (Fate → List Sight → Type 0) → Type 0
StandsWith fate (outcome.Replies conn list) said = ⊥
StandsWith fate (outcome.One one) said = said fate (sight_of one ∷ [])
StandsWith fate outcome.Lost said = (fate ≡ Answered) × ((seen : List Sight) × said ReplyLost seen)

-- ---- the turn of a pass

-- a request to a node, and its reply
pub record IsReplied {S : Type 0} (step : StepOf S) (old : List (Serving S)) (place : ℕ) (m : Message) (new : List (Serving S)) (said : Reply → Type 0) : Type 0 where
  pub reply : Reply
  pub handled : IsHandled step old place m reply new
  pub outcome : said reply

-- a reply has come: its status is seen, and the pass has taken it in
abbrev pub IsTaken : Pass → Reply → ℕ → Pass → Type 0
IsTaken before reply status after = (status ≡ reply.status) × (after ≡ answered_of before reply.status reply.body)

-- A pass that asks a node of this number, by the fate of its request and the reply: the status that is seen, 0 for none, the
-- nodes, and the pass afterwards.
abbrev pub IsReached : {S : Type 0} → StepOf S → Fate → List (Serving S) → ℕ → Message → Pass → ℕ → List (Serving S) → Pass → Type 0
IsReached step Answered old place m before status new after = IsReplied step old place m new (λ reply. IsTaken before reply status after)
IsReached step ReplyLost old place m before status new after = IsReplied step old place m new (λ reply. (status ≡ 0) × (after ≡ lost_of before))
IsReached step RequestLost old place m before status new after = (new ≡ old) × ((status ≡ 0) × (after ≡ lost_of before))

-- A pass asked the node of this number: what is seen, the nodes, and the pass afterwards.
pub record IsMadeOf {S : Type 0} (step : StepOf S) (fate : Fate) (old : List (Serving S)) (number : ℕ) (t : Between) (place : ℕ) (is_to_target : Bool) (m : Message) (seen : List Sight)
    (new : List (Serving S)) (after : Between) : Type 0 where
  pub status : ℕ
  pub sight : seen ≡ exchanged number is_to_target m status ∷ []
  pub carried : IsReached step fate old place m t.pass status new after.pass
  pub ends : after ≡ record t { pass = after.pass }

-- what came of what a pass asks
abbrev pub IsTurned : {S : Type 0} → StepOf S → Fate → List (Serving S) → ℕ → Between → Asked → List Sight → List (Serving S) → Between → Type 0
IsTurned step fate old number t (to_source m) seen new after = IsMadeOf step fate old number t t.from false m seen new after
IsTurned step fate old number t (to_target m) seen new after = IsMadeOf step fate old number t t.to true m seen new after
IsTurned step fate old number t (done s) seen new after = (seen ≡ ended number (done s) ∷ []) × (new ≡ old) × (after ≡ t)
IsTurned step fate old number t (stopped_by why s) seen new after = (seen ≡ ended number (stopped_by why s) ∷ []) × (new ≡ old) × (after ≡ t)
