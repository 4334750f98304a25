-- What comes of an exchange of a pass: one request at one node, and the turn that the pass takes by it.
-- CouchDB manual, replication/protocol; losses are this project's own.
use Rattle.std.specs.Prelude.{◌≡◌, ℕ, Bool, true, false, List, [], ◌∷◌, Some}
use Rattle.couch_http.specs.Message.{Message}
use Rattle.couch_http.specs.Reply.{Reply}
use Rattle.node.specs.Step.{Serving}
use Rattle.repl.specs.Passes.{Asked, to_source, to_target, done, stopped_by, asked_of}
use Rattle.repl.specs.Turns.{Turn, after_turn, answered, lost}
use Rattle.world.specs.Happening.{Sight, exchanged, ended}
use Rattle.world.specs.Network.{Network, Transfer, transfer_at, with_transfer}
use Rattle.world.specs.Service.{Handling, by_pass}
use Rattle.world.specs.declared.fate.Fate.{Fate}
use Rattle.world.specs.declared.fate.Fate.TheVariants.{Answered, ReplyLost, RequestLost}

-- What a pass asks of a node: the number of the pass, the pass, the number of the node, whether that is its target's, or else its source's, and
-- the request.
pub record Question : Type 0 where
  pub number : ℕ
  pub transfer : Transfer
  pub place : ℕ
  pub is_to_target : Bool
  pub message : Message

-- what the pass of this number asks the node of its source
abbrev pub question_to_source : ℕ → Transfer → Message → Question
question_to_source number t m = record { number = number; transfer = t; place = t.from; is_to_target = false; message = m }

-- what the pass of this number asks the node of its target
abbrev pub question_to_target : ℕ → Transfer → Message → Question
question_to_target number t m = record { number = number; transfer = t; place = t.to; is_to_target = true; message = m }

-- the status that is seen of a turn, 0 where no reply came
abbrev pub status_of_turn : Turn → ℕ
status_of_turn (answered status body) = status
status_of_turn lost = 0

module _ {S : Type 0} (handling : Handling S) where
  -- Which turn a pass takes by what it asks. The node handles the request, unless that is lost; and the pass takes the reply in, unless that is lost.
  abbrev pub IsCarried : Fate → List (Serving S) → Question → Turn → List (Serving S) → Type 0
  IsCarried Answered old q turn new = (reply : Reply) × handling (by_pass q.number Answered) old q.place q.message reply new × (turn ≡ answered reply.status reply.body)
  IsCarried ReplyLost old q turn new = (reply : Reply) × handling (by_pass q.number ReplyLost) old q.place q.message reply new × (turn ≡ lost)
  IsCarried RequestLost old q turn new = (new ≡ old) × (turn ≡ lost)

module _ {S : Type 0} (handling : Handling S) (fate : Fate) where
  -- A pass asks a node: what is seen, and the network afterwards. So pass 1, whose target is node 2, may ask that node for `GET /b/_local/x`. The
  -- node replies 404, `exchanged 1 true m 404` is seen, and the pass goes on by the turn `answered 404 body`. Where the reply is lost, the node is as
  -- before or later, `exchanged 1 true m 0` is seen, and the pass goes on by `lost`.
  pub record IsMade (old : Network S) (q : Question) (seen : List Sight) (new : Network S) : Type 0 where
    pub turn : Turn
    pub nodes : List (Serving S)
    pub carried : IsCarried handling fate old.nodes q turn nodes
    pub sight : seen ≡ exchanged q.number q.is_to_target q.message (status_of_turn turn) ∷ []
    pub left : new ≡ record old { nodes = nodes; transfers = with_transfer old.transfers q.number (record q.transfer { pass = after_turn q.transfer.pass turn }) }

  -- what the pass asks is asked of its source's or its target's node; a pass that has ended says so, and nothing changes
  abbrev pub IsAsked : Network S → ℕ → Transfer → Asked → List Sight → Network S → Type 0
  IsAsked old number t (to_source m) seen new = IsMade old (question_to_source number t m) seen new
  IsAsked old number t (to_target m) seen new = IsMade old (question_to_target number t m) seen new
  IsAsked old number t ending seen new = (seen ≡ ended number ending ∷ []) × (new ≡ old)

  -- the pass of this number asks
  pub record IsExchanged (old : Network S) (number : ℕ) (seen : List Sight) (new : Network S) : Type 0 where
    pub transfer : Transfer
    pub there : transfer_at old.transfers number ≡ Some transfer
    pub asked : IsAsked old number transfer (asked_of transfer.pass) seen new
