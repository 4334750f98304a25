-- What a network's play is made of: the requests that its nodes handle one after another, with what is seen of each.
-- RFC 9112, section 9.3.2, for the order on a connection; CouchDB manual, replication/protocol, for passes.
use Rattle.std.specs.Prelude.{◌≡◌, ◌==◌, ℕ, Bool, true, false, List, [], ◌∷◌, map, Option, Some, None, ⊤, slice_set}
use Rattle.std.specs.List.{slice_get}
use Rattle.couch_http.specs.Message.{Message}
use Rattle.couch_http.specs.Reply.{Reply}
use Rattle.couch_http.specs.declared.fault.HttpFault.{HttpFault}
use Rattle.store.specs.Contents.{Contents}
use Rattle.node.specs.Runs.{Stepped, Steps}
use Rattle.node.specs.Step.{Serving}
use Rattle.hub.specs.Endings.{refusal_of}
use Rattle.world.specs.Happening.{Sight, replied, exchanged, ended}
use Rattle.world.specs.Service.{Asker, on_connection, by_pass}
use Rattle.world.specs.declared.fate.Fate.TheVariants.{Answered, ReplyLost, RequestLost}

-- a request that a node handled: who asked, the number of the node, and its step
pub record HandledStep : Type 0 where
  pub who : Asker
  pub place : ℕ
  pub step : Stepped Contents

-- something that is seen, and the request that a node handled for it, if there was one
pub record SeenTurn : Type 0 where
  pub sight : Sight
  pub handled : Option HandledStep

-- what is seen of a request: its reply on its connection; or, of a pass that asked, the reply's status, or 0 where the reply was lost
abbrev pub IsShown : Asker → Message → Reply → Sight → Type 0
IsShown (on_connection conn) m reply sight = sight ≡ replied (record { conn = conn; reply = reply })
IsShown (by_pass number Answered) m reply sight = (is_to_target : Bool) × (sight ≡ exchanged number is_to_target m reply.status)
IsShown (by_pass number ReplyLost) m reply sight = (is_to_target : Bool) × (sight ≡ exchanged number is_to_target m 0)
IsShown (by_pass number RequestLost) m reply sight = ⊥

-- what is seen though no node handled a request: the fixed reply to a fault of a stream, a request that was lost, or that a pass has ended
abbrev pub IsShownAlone : Sight → Type 0
IsShownAlone (replied t) = (fault : HttpFault) × (refusal_of fault ≡ t.reply ∷ [])
IsShownAlone (exchanged number is_to_target m status) = status ≡ 0
IsShownAlone (ended number asked) = ⊤

-- the node of this number makes the step, and the others stay as they are
pub record IsStepAt (old : List (Serving Contents)) (h : HandledStep) (new : List (Serving Contents)) : Type 0 where
  pub node : Serving Contents
  pub there : slice_get old h.place ≡ Some node
  pub stepped : Steps node.configuration node.store h.step.message h.step.reply h.step.after
  pub left : new ≡ slice_set old h.place (record node { store = h.step.after })

-- what is seen is a reply of the node that handled the request, or nothing of any node
abbrev pub IsHandledAs : List (Serving Contents) → Sight → Option HandledStep → List (Serving Contents) → Type 0
IsHandledAs old sight None new = IsShownAlone sight × (new ≡ old)
IsHandledAs old sight (Some h) new = IsShown h.who h.step.message h.step.reply sight × IsStepAt old h new

-- one turn after another, and the nodes after them
abbrev pub AreTurns : List (Serving Contents) → List SeenTurn → List (Serving Contents) → Type 0
AreTurns old [] new = new ≡ old
AreTurns old (t ∷ ts) new = (between : List (Serving Contents)) × IsHandledAs old t.sight t.handled between × AreTurns between ts new

-- all that is seen of turns
abbrev pub sights_in : List SeenTurn → List Sight
sights_in turns = map (λ t. t.sight) turns

-- the steps with one more, where it counts
abbrev pub with_step : Bool → Stepped Contents → List (Stepped Contents) → List (Stepped Contents)
with_step true s ss = s ∷ ss
with_step false s ss = ss

-- the steps with that of a turn, where it was one of this node
abbrev pub with_handled : ℕ → Option HandledStep → List (Stepped Contents) → List (Stepped Contents)
with_handled place None ss = ss
with_handled place (Some h) ss = with_step (h.place == place) h.step ss

-- the steps of the node of this number
abbrev pub steps_at : ℕ → List SeenTurn → List (Stepped Contents)
steps_at place [] = []
steps_at place (t ∷ ts) = with_handled place t.handled (steps_at place ts)
