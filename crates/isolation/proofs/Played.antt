-- Plays are made of turns, through which each node goes through a run.
use Rattle.std.proofs.Common.{◌≡◌, ◌≢◌, ◌∙◌, ◌==◌, ℕ, Bool, true, false, List, [], ◌∷◌, ◌++◌, Option, Some, None, refl, sym, ap, subst, eqb-true, eq-eqb}
use Rattle.std.specs.Prelude.{slice_set}
use Rattle.std.specs.List.{slice_get}
use Rattle.couch_http.specs.Message.{Message}
use Rattle.couch_http.specs.Reply.{Reply}
use Rattle.store.specs.Contents.{Contents}
use Rattle.node.specs.Runs.{IsRun, Stepped, Steps, end_of}
use Rattle.node.specs.Step.{Serving}
use Rattle.hub.specs.Arrival.{Arrival, fault_on, request_on}
use Rattle.repl.specs.Passes.{Asked, to_source, to_target, done, stopped_by, asked_of}
use Rattle.repl.specs.Turns.{Turn}
use Rattle.world.specs.Exchanging.{IsAsked, IsCarried, Question, status_of_turn}
use Rattle.world.specs.Happening.{Happening, Sight, comes, exchanges, exchanged, ended, replied}
use Rattle.world.specs.Network.{Network, Transfer, node_of_connection}
use Rattle.world.specs.Playing.{Happens, Plays, all_replied}
use Rattle.world.specs.Service.{Asker, IsAnswered, IsHandled, IsService, SeenReply, alike, by_pass, on_connection}
use Rattle.world.specs.declared.fate.Fate.{Fate}
use Rattle.world.specs.declared.fate.Fate.TheVariants.{Answered, ReplyLost, RequestLost}
use Rattle.isolation.specs.Isolated.{IsolatedInPlays, NodesRun, PlaysAreTurns}
use Rattle.isolation.specs.Turns.{AreTurns, HandledStep, IsHandledAs, IsShown, IsStepAt, SeenTurn, sights_in, steps_at, with_handled, with_step}
use Rattle.world.proofs.Along.{one_node, set_elsewhere, set_here}
use Rattle.isolation.proofs.Isolations.{isolated_alike}

abbrev Nodes : Type 0
Nodes = List (Serving Contents)

-- ---- from plays to turns

-- turns from some nodes to others, which show this
record IsMadeOfTurns (old : Nodes) (seen : List Sight) (new : Nodes) : Type 0 where
  turns : List SeenTurn
  shown : seen ≡ sights_in turns
  are : AreTurns old turns new

no_turns : (old new : Nodes) (seen : List Sight) → seen ≡ [] → new ≡ old → IsMadeOfTurns old seen new
no_turns old new seen none same = record { turns = []; shown = none; are = same }

one_turn : (old new : Nodes) (seen : List Sight) (t : SeenTurn) → seen ≡ t.sight ∷ [] → IsHandledAs old t.sight t.handled new → IsMadeOfTurns old seen new
one_turn old new seen t one handled = record { turns = t ∷ []; shown = one; are = (new, handled, refl) }

turns_then : (a b c : Nodes) (ts us : List SeenTurn) → AreTurns a ts b → AreTurns b us c → AreTurns a (ts ++ us) c
turns_then a b c [] us p q = subst (λ (x : Nodes). AreTurns x us c) p q
turns_then a b c (t ∷ ts) us (between, here, later) q = (between, here, turns_then between b c ts us later q)

sights_then : (ts us : List SeenTurn) → sights_in (ts ++ us) ≡ sights_in ts ++ sights_in us
sights_then [] us = refl
sights_then (t ∷ ts) us = ap (λ (ss : List Sight). t.sight ∷ ss) (sights_then ts us)

made_then : (a b c : Nodes) (ss later_seen all : List Sight) → IsMadeOfTurns a ss b → IsMadeOfTurns b later_seen c → all ≡ ss ++ later_seen → IsMadeOfTurns a all c
made_then a b c ss later_seen all p q order = record {
  turns = p.turns ++ q.turns;
  shown = order ∙ ap (λ (xs : List Sight). xs ++ later_seen) p.shown ∙ ap (λ (xs : List Sight). sights_in p.turns ++ xs) q.shown ∙ sym (sights_then p.turns q.turns);
  are = turns_then a b c p.turns q.turns p.are q.are;
}

step_of : (old new : Nodes) (place : ℕ) (m : Message) (r : Reply) (who : Asker) (h : IsHandled Steps old place m r new)
    → IsStepAt old (record { who = who; place = place; step = record { message = m; reply = r; after = h.after } }) new
step_of old new place m r who h = record { node = h.node; there = h.there; stepped = h.handled; left = h.left }

handled_turn : (old new : Nodes) (place : ℕ) (m : Message) (r : Reply) (who : Asker) (sight : Sight) (seen : List Sight) → seen ≡ sight ∷ [] → IsShown who m r sight → IsHandled Steps old place m r new
    → IsMadeOfTurns old seen new
handled_turn old new place m r who sight seen one shown h =
    one_turn old new seen (record { sight = sight; handled = Some (record { who = who; place = place; step = record { message = m; reply = r; after = h.after } }) }) one
    (shown, step_of old new place m r who h)

same_seen : (t : SeenReply) (conn : ℕ) → t.conn ≡ conn → replied t ≡ replied (record { conn = conn; reply = t.reply })
same_seen t conn e = λ i. replied (record { conn = e i; reply = t.reply })

answered_turn : (homes : List ℕ) (old new : Nodes) (a : Arrival) (t : SeenReply) → IsAnswered (alike Steps) homes old a t new → IsMadeOfTurns old (replied t ∷ []) new
answered_turn homes old new (request_on conn m) t p = handled_turn old new (node_of_connection homes conn) m t.reply (on_connection conn) (replied t) (replied t ∷ []) refl (same_seen t conn p.0) p.1
answered_turn homes old new (fault_on conn f) t p = one_turn old new (replied t ∷ []) (record { sight = replied t; handled = None }) refl ((f, p.1), p.2)

service_turns : (homes : List ℕ) (old new : Nodes) (xs : List Arrival) (ts : List SeenReply) → IsService (alike Steps) homes old xs ts new → IsMadeOfTurns old (all_replied ts) new
service_turns homes old new [] [] p = no_turns old new [] refl p
service_turns homes old new [] (t ∷ ts) p = absurd p
service_turns homes old new (x ∷ xs) [] p = absurd p
service_turns homes old new (x ∷ xs) (t ∷ ts) p =
    made_then old p.0 new (replied t ∷ []) (all_replied ts) (all_replied (t ∷ ts)) (answered_turn homes old p.0 x t p.1) (service_turns homes p.0 new xs ts p.2) refl

carried_turn : (fate : Fate) (old new : Nodes) (q : Question) (t : Turn) (seen : List Sight)
    → seen ≡ exchanged q.number q.is_to_target q.message (status_of_turn t) ∷ [] → IsCarried (alike Steps) fate old q t new → IsMadeOfTurns old seen new
carried_turn Answered old new q t seen one c =
    handled_turn old new q.place q.message c.0 (by_pass q.number Answered) (exchanged q.number q.is_to_target q.message (status_of_turn t)) seen one
    (q.is_to_target, ap (λ (x : Turn). exchanged q.number q.is_to_target q.message (status_of_turn x)) c.2) c.1
carried_turn ReplyLost old new q t seen one c =
    handled_turn old new q.place q.message c.0 (by_pass q.number ReplyLost) (exchanged q.number q.is_to_target q.message (status_of_turn t)) seen one
    (q.is_to_target, ap (λ (x : Turn). exchanged q.number q.is_to_target q.message (status_of_turn x)) c.2) c.1
carried_turn RequestLost old new q t seen one c =
    one_turn old new seen (record { sight = exchanged q.number q.is_to_target q.message (status_of_turn t); handled = None }) one (ap status_of_turn c.1, c.0)

asked_turn : (fate : Fate) (old new : Network Contents) (number : ℕ) (t : Transfer) (asked : Asked) (seen : List Sight) → IsAsked (alike Steps) fate old number t asked seen new
    → IsMadeOfTurns old.nodes seen new.nodes
asked_turn fate old new number t (to_source m) seen p =
    subst (λ (x : Network Contents). IsMadeOfTurns old.nodes seen x.nodes) (sym p.left) (carried_turn fate old.nodes p.nodes _ p.turn seen p.sight p.carried)
asked_turn fate old new number t (to_target m) seen p =
    subst (λ (x : Network Contents). IsMadeOfTurns old.nodes seen x.nodes) (sym p.left) (carried_turn fate old.nodes p.nodes _ p.turn seen p.sight p.carried)
asked_turn fate old new number t (done s) seen p =
    one_turn old.nodes new.nodes seen (record { sight = ended number (done s); handled = None }) p.0 (tt, ap (λ (x : Network Contents). x.nodes) p.1)
asked_turn fate old new number t (stopped_by why s) seen p =
    one_turn old.nodes new.nodes seen (record { sight = ended number (stopped_by why s); handled = None }) p.0 (tt, ap (λ (x : Network Contents). x.nodes) p.1)

event_turns : (old new : Network Contents) (h : Happening) (seen : List Sight) → Happens (alike Steps) old h seen new → IsMadeOfTurns old.nodes seen new.nodes
event_turns old new (comes piece) seen (told, played, same) =
    subst (λ (xs : List Sight). IsMadeOfTurns old.nodes xs new.nodes) (sym same) (service_turns old.homes old.nodes new.nodes played.arrivals told played.served)
event_turns old new (exchanges number fate) seen p = asked_turn fate old new number p.transfer (asked_of p.transfer.pass) seen p.asked

play_turns : (old new : Network Contents) (hs : List Happening) (seen : List Sight) → Plays (alike Steps) old hs seen new → IsMadeOfTurns old.nodes seen new.nodes
play_turns old new [] seen p = no_turns old.nodes new.nodes seen p.0 (ap (λ (x : Network Contents). x.nodes) p.1)
play_turns old new (h ∷ hs) seen (first, others, between, here, later, order) =
    made_then old.nodes between.nodes new.nodes first others seen (event_turns old between h first here) (play_turns between new hs others later) order

pub plays_are_turns : PlaysAreTurns
plays_are_turns old new hs seen p = let t = play_turns old new hs seen p in (t.turns, t.shown, t.are)

-- ---- the run of a node

-- a node's run, and where it ends
record GoesThrough (node : Serving Contents) (steps : List (Stepped Contents)) (new : Nodes) (place : ℕ) : Type 0 where
  run : IsRun (Steps node.configuration) node.store steps
  ends : slice_get new place ≡ Some (record node { store = end_of node.store steps })

-- by a step of this node, or of another
goes_by : (old between new : Nodes) (h : HandledStep) (place : ℕ) (node : Serving Contents) (ss : List (Stepped Contents)) (is : Bool) → (h.place == place) ≡ is → slice_get old place ≡ Some node
    → IsStepAt old h between → ((next : Serving Contents) → slice_get between place ≡ Some next → GoesThrough next ss new place) → GoesThrough node (with_step is h.step ss) new place
goes_by old between new h place node ss true is there s rest =
    let at : h.place ≡ place = eqb-true h.place place is in
    let same : s.node ≡ node = one_node s.node node (sym s.there ∙ ap (slice_get old) at ∙ there) in
    let next : Serving Contents = record s.node { store = h.step.after } in
    let here : slice_get between place ≡ Some next =
    ap (λ (xs : Nodes). slice_get xs place) s.left ∙ ap (slice_get (slice_set old h.place next)) (sym at) ∙ set_here old h.place s.node next s.there in
    let k = rest next here in
    subst (λ (n : Serving Contents). GoesThrough n (h.step ∷ ss) new place) same (record { run = (s.stepped, k.run); ends = k.ends })
goes_by old between new h place node ss false is there s rest =
    let next : Serving Contents = record s.node { store = h.step.after } in
    let apart : place ≢ h.place = λ e. let k : true ≡ false = sym (eq-eqb h.place place (sym e)) ∙ is in cc in
    rest node (ap (λ (xs : Nodes). slice_get xs place) s.left ∙ set_elsewhere old h.place place next apart ∙ there)

goes : (old new : Nodes) (turns : List SeenTurn) (place : ℕ) (node : Serving Contents) → AreTurns old turns new → slice_get old place ≡ Some node → GoesThrough node (steps_at place turns) new place
goes old new [] place node p there = record { run = tt; ends = ap (λ (xs : Nodes). slice_get xs place) p ∙ there }
goes old new (t ∷ ts) place node (between, here, later) there = by t.handled here (λ next at. goes between new ts place next later at)
  where
    by : (o : Option HandledStep) → IsHandledAs old t.sight o between → ((next : Serving Contents) → slice_get between place ≡ Some next → GoesThrough next (steps_at place ts) new place)
        → GoesThrough node (with_handled place o (steps_at place ts)) new place
    by None h rest = rest node (ap (λ (xs : Nodes). slice_get xs place) h.1 ∙ there)
    by (Some h) k rest = goes_by old between new h place node (steps_at place ts) (h.place == place) refl there k.1 rest

pub nodes_run : NodesRun
nodes_run old new turns place node p there = let k = goes old new turns place node p there in (k.run, k.ends)

pub isolated_in_plays : IsolatedInPlays
isolated_in_plays group names c before start old new was now turns others place spot p q there then like served and_served hidden same =
    isolated_alike c group names before start (steps_at place turns) (steps_at spot others) like
    (goes old new turns place (record { store = before; configuration = c }) p there).run (goes was now others spot (record { store = start; configuration = c }) q then).run
    served and_served hidden same
