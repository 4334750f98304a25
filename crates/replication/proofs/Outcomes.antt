-- The same events from the same network have one outcome, where each request was served; and so two calls are one.
use Rattle.std.proofs.Common.{◌≡◌, ◌≢◌, ◌∙◌, ℕ, List, [], ◌∷◌, ◌++◌, map, Option, Some, None, refl, sym, ap, subst}
use Rattle.std.specs.Prelude.{⊤, slice_set}
use Rattle.couch_http.proofs.CutLemmas.{Cuts_unique}
use Rattle.couch_http.specs.Message.{Message}
use Rattle.couch_http.specs.Reply.{Reply}
use Rattle.couch_http.specs.Stream.{StreamEnd}
use Rattle.store.specs.Contents.{Contents}
use Rattle.node.proofs.Steps.{step_done}
use Rattle.node.specs.Answer.{answer, with_change}
use Rattle.node.specs.Runs.{IsServedReply, Steps}
use Rattle.node.specs.Step.{Serving, reply_to}
use Rattle.hub.specs.Arrival.{Arrival, BringsBehind, Piece, fault_at, fault_on, request_on}
use Rattle.hub.specs.Connections.{ConnectionTable, rest_on, with_rest}
use Rattle.hub.specs.Endings.{rest_of}
use Rattle.repl.specs.Passes.{Asked, to_source, to_target, done, stopped_by, asked_of}
use Rattle.repl.specs.Turns.{Turn, after_turn, answered}
use Rattle.world.specs.Exchanging.{IsAsked, IsCarried, IsMade, Question, question_to_source, question_to_target, status_of_turn}
use Rattle.world.specs.Happening.{Happening, Sight, comes, exchanged, exchanges}
use Rattle.world.specs.Network.{Network, Transfer, node_of_connection, with_transfer}
use Rattle.world.specs.Playing.{Happens, Plays, all_replied}
use Rattle.world.specs.Service.{Asker, Handling, IsAnswered, IsService, SeenReply, StepOf, alike, by_pass, on_connection}
use Rattle.world.specs.declared.fate.Fate.{Fate}
use Rattle.world.specs.declared.fate.Fate.TheVariants.{Answered, ReplyLost, RequestLost}
use Rattle.world.proofs.Events.{plays_then}
use Rattle.replication.specs.Parted.{AreHeard, AreServedSights, PlaysHaveOneOutcome, Serves, SightsTellService, TwoCallsAreOne, TwoCallsAreSeenAsOne}

abbrev Nodes : Type 0
Nodes = List (Serving Contents)

abbrev serves : Handling Contents
serves = Serves Steps

same_reply : (s t : SeenReply) → s.conn ≡ t.conn → s.reply ≡ t.reply → s ≡ t
same_reply s t e f = λ i. record { conn = e i; reply = f i }

pub same_network : {S : Type 0} (a b : Network S) → a.nodes ≡ b.nodes → a.homes ≡ b.homes → a.connections ≡ b.connections → a.transfers ≡ b.transfers → a ≡ b
same_network a b e f g h = λ i. record { nodes = e i; homes = f i; connections = g i; transfers = h i }

-- ---- requests

handled_one : (who : Asker) (old new other : Nodes) (place : ℕ) (m : Message) (r q : Reply) → serves who old place m r new → serves who old place m q other → (r ≡ q) × (new ≡ other)
handled_one who old new other place m r q (a, served) (b, and_served) =
    let node : a.node ≡ b.node = (let e : Some a.node ≡ Some b.node = sym a.there ∙ b.there in cc) in
    let d = step_done a.node.configuration a.node.store m (λ _. ⊤) r a.after a.handled served in
    let e = step_done b.node.configuration b.node.store m (λ _. ⊤) q b.after b.handled and_served in
    let after : a.after ≡ b.after = d.1 ∙ ap (λ (n : Serving Contents). with_change (answer n.configuration n.store m).change n.store) node ∙ sym e.1 in (
      d.0 ∙ ap (λ (n : Serving Contents). reply_to (answer n.configuration n.store m) m.last) node ∙ sym e.0,
      a.left ∙ ap (λ (n : Serving Contents). slice_set old place (record n { store = a.after })) node
          ∙ ap (λ (x : Contents). slice_set old place (record b.node { store = x })) after ∙ sym b.left,
    )

answered_one : (homes : List ℕ) (old new other : Nodes) (a : Arrival) (s t : SeenReply) → IsAnswered serves homes old a s new → IsAnswered serves homes old a t other → (s ≡ t) × (new ≡ other)
answered_one homes old new other (request_on conn m) s t p q =
    let one = handled_one (on_connection conn) old new other (node_of_connection homes conn) m s.reply t.reply p.1 q.1 in
    (same_reply s t (p.0 ∙ sym q.0) one.0, one.1)
answered_one homes old new other (fault_on conn f) s t p q =
    (same_reply s t (p.0 ∙ sym q.0) (let e : s.reply ∷ [] ≡ t.reply ∷ [] = sym p.1 ∙ q.1 in cc), p.2 ∙ sym q.2)

service_one : (homes : List ℕ) (old new other : Nodes) (ars : List Arrival) (ss ts : List SeenReply) → IsService serves homes old ars ss new → IsService serves homes old ars ts other
    → (ss ≡ ts) × (new ≡ other)
service_one homes old new other [] [] [] p q = (refl, p ∙ sym q)
service_one homes old new other [] [] (t ∷ ts) p q = absurd q
service_one homes old new other [] (s ∷ ss) ts p q = absurd p
service_one homes old new other (a ∷ ars) [] ts p q = absurd p
service_one homes old new other (a ∷ ars) (s ∷ ss) [] p q = absurd q
service_one homes old new other (a ∷ ars) (s ∷ ss) (t ∷ ts) p q =
    let here = answered_one homes old p.0 q.0 a s t p.1 q.1 in
    let later = service_one homes p.0 new other ars ss ts p.2 (subst (λ (x : Nodes). IsService serves homes x ars ts other) (sym here.1) q.2) in
    (ap (λ (x : SeenReply). x ∷ ss) here.0 ∙ ap (λ (xs : List SeenReply). t ∷ xs) later.0, later.1)

-- ---- pieces

brings_one : (o : Option (List ℕ)) (old : ConnectionTable) (p : Piece) (xs ys : List Arrival) (new other : ConnectionTable) → BringsBehind o old p xs new → BringsBehind o old p ys other
    → (xs ≡ ys) × (new ≡ other)
brings_one None old p xs ys new other a b = (a.0 ∙ sym b.0, a.1 ∙ sym b.1)
brings_one (Some rest) old p xs ys new other (ms, end, cut, is, left) (ns, stop, and_cut, and_is, and_left) =
    let one = Cuts_unique (rest ++ p.bytes) ms ns end stop cut and_cut in (
      is ∙ ap (λ (zs : List Message). map (request_on p.conn) zs ++ fault_at p.conn end) one.0 ∙ ap (λ (e : StreamEnd). map (request_on p.conn) ns ++ fault_at p.conn e) one.1 ∙ sym and_is,
      left ∙ ap (λ (e : StreamEnd). with_rest old p.conn (rest_of e)) one.1 ∙ sym and_left,
    )

-- ---- exchanges

carried_one : (fate : Fate) (old new other : Nodes) (q : Question) (t u : Turn) → IsCarried serves fate old q t new → IsCarried serves fate old q u other → (t ≡ u) × (new ≡ other)
carried_one Answered old new other q t u c d =
    let one = handled_one (by_pass q.number Answered) old new other q.place q.message c.0 d.0 c.1 d.1 in
    (c.2 ∙ ap (λ (r : Reply). answered r.status r.body) one.0 ∙ sym d.2, one.1)
carried_one ReplyLost old new other q t u c d =
    (c.2 ∙ sym d.2, (handled_one (by_pass q.number ReplyLost) old new other q.place q.message c.0 d.0 c.1 d.1).1)
carried_one RequestLost old new other q t u c d = (c.1 ∙ sym d.1, c.0 ∙ sym d.0)

made_one : (fate : Fate) (old new other : Network Contents) (q : Question) (ss ts : List Sight) → IsMade serves fate old q ss new → IsMade serves fate old q ts other
    → (ss ≡ ts) × (new ≡ other)
made_one fate old new other q ss ts c d =
    let one = carried_one fate old.nodes c.nodes d.nodes q c.turn d.turn c.carried d.carried in (
      c.sight ∙ ap (λ (t : Turn). exchanged q.number q.is_to_target q.message (status_of_turn t) ∷ []) one.0 ∙ sym d.sight,
      c.left ∙ ap (λ (xs : Nodes). record old { nodes = xs; transfers = with_transfer old.transfers q.number (record q.transfer { pass = after_turn q.transfer.pass c.turn }) }) one.1
          ∙ ap (λ (t : Turn). record old { nodes = d.nodes; transfers = with_transfer old.transfers q.number (record q.transfer { pass = after_turn q.transfer.pass t }) }) one.0 ∙ sym d.left,
    )

asked_one : (fate : Fate) (old new other : Network Contents) (number : ℕ) (t : Transfer) (asked : Asked) (ss ts : List Sight) → IsAsked serves fate old number t asked ss new
    → IsAsked serves fate old number t asked ts other → (ss ≡ ts) × (new ≡ other)
asked_one fate old new other number t (to_source m) ss ts p q = made_one fate old new other (question_to_source number t m) ss ts p q
asked_one fate old new other number t (to_target m) ss ts p q = made_one fate old new other (question_to_target number t m) ss ts p q
asked_one fate old new other number t (done s) ss ts p q = (p.0 ∙ sym q.0, p.1 ∙ sym q.1)
asked_one fate old new other number t (stopped_by why s) ss ts p q = (p.0 ∙ sym q.0, p.1 ∙ sym q.1)

-- ---- events

event_one : (h : Happening) (old new other : Network Contents) (ss ts : List Sight) → Happens serves old h ss new → Happens serves old h ts other → (ss ≡ ts) × (new ≡ other)
event_one (comes piece) old new other ss ts (told, p, is) (said, q, and_is) =
    let arrived = brings_one (rest_on old.connections piece.conn) old.connections piece p.arrivals q.arrivals new.connections other.connections p.brought q.brought in
    let served = service_one old.homes old.nodes new.nodes other.nodes q.arrivals told said (subst (λ (xs : List Arrival). IsService serves old.homes old.nodes xs told new.nodes) arrived.0 p.served) q.served in
    (is ∙ ap all_replied served.0 ∙ sym and_is, same_network new other served.1 (p.homes ∙ sym q.homes) arrived.1 (p.transfers ∙ sym q.transfers))
event_one (exchanges number fate) old new other ss ts p q =
    let same : q.transfer ≡ p.transfer = (let e : Some q.transfer ≡ Some p.transfer = sym q.there ∙ p.there in cc) in
    asked_one fate old new other number p.transfer (asked_of p.transfer.pass) ss ts p.asked
    (subst (λ (t : Transfer). IsAsked serves fate old number t (asked_of t.pass) ts other) same q.asked)

pub one_outcome : PlaysHaveOneOutcome
one_outcome old new other [] ss ts p q = (p.0 ∙ sym q.0, p.1 ∙ sym q.1)
one_outcome old new other (h ∷ hs) ss ts (first, others, between, here, later, order) (start, rest, middle, and_here, and_later, and_order) =
    let one = event_one h old between middle first start here and_here in
    let more = one_outcome between new other hs others rest later (subst (λ (w : Network Contents). Plays serves w hs rest other) (sym one.1) and_later) in
    (order ∙ ap (λ (xs : List Sight). xs ++ others) one.0 ∙ ap (λ (xs : List Sight). start ++ xs) more.0 ∙ sym and_order, more.1)

pub two_calls : TwoCallsAreOne
two_calls a b c d earlier later seen others all p q r =
    one_outcome a d c (earlier ++ later) all (seen ++ others) r (plays_then serves a b c earlier later seen others p q)

-- ---- what sights tell

sights_front : (xs ys : List Sight) → AreServedSights (xs ++ ys) → AreServedSights xs
sights_front [] ys h = tt
sights_front (x ∷ xs) ys h = (h.0, sights_front xs ys h.1)

sights_back : (xs ys : List Sight) → AreServedSights (xs ++ ys) → AreServedSights ys
sights_back [] ys h = h
sights_back (x ∷ xs) ys h = sights_back xs ys h.1

module _ {S : Type 0} (step : StepOf S) where
  answer_told : (homes : List ℕ) (old new : List (Serving S)) (a : Arrival) (t : SeenReply) → IsServedReply t.reply → IsAnswered (alike step) homes old a t new → IsAnswered (Serves step) homes old a t new
  answer_told homes old new (request_on conn m) t served p = (p.0, (p.1, served))
  answer_told homes old new (fault_on conn f) t served p = p

  service_told : (homes : List ℕ) (old new : List (Serving S)) (ars : List Arrival) (ts : List SeenReply) → AreServedSights (all_replied ts) → IsService (alike step) homes old ars ts new
      → IsService (Serves step) homes old ars ts new
  service_told homes old new [] [] served p = p
  service_told homes old new [] (t ∷ ts) served p = absurd p
  service_told homes old new (a ∷ ars) [] served p = absurd p
  service_told homes old new (a ∷ ars) (t ∷ ts) served p =
      (p.0, answer_told homes old p.0 a t served.0 p.1, service_told homes p.0 new ars ts served.1 p.2)

  served_by : (r : Reply) (status : ℕ) → status ≡ r.status → (status ≢ 500) × (status ≢ 503) → IsServedReply r
  served_by r status is (a, b) = (λ e. a (is ∙ e), λ e. b (is ∙ e))

  carried_told : (fate : Fate) (old new : List (Serving S)) (q : Question) (t : Turn) → AreHeard (exchanges q.number fate ∷ [])
      → (status_of_turn t ≢ 500) × (status_of_turn t ≢ 503) → IsCarried (alike step) fate old q t new → IsCarried (Serves step) fate old q t new
  carried_told Answered old new q t heard served c = (c.0, (c.1, served_by c.0 (status_of_turn t) (ap status_of_turn c.2) served), c.2)
  carried_told ReplyLost old new q t heard served c = absurd heard.0
  carried_told RequestLost old new q t heard served c = c

  made_told : (fate : Fate) (old new : Network S) (q : Question) (seen : List Sight) → AreHeard (exchanges q.number fate ∷ []) → AreServedSights seen
      → IsMade (alike step) fate old q seen new → IsMade (Serves step) fate old q seen new
  made_told fate old new q seen heard served p =
      let sight = subst AreServedSights p.sight served in
      record { turn = p.turn; nodes = p.nodes; carried = carried_told fate old.nodes p.nodes q p.turn heard sight.0 p.carried; sight = p.sight; left = p.left }

  asked_told : (fate : Fate) (old new : Network S) (number : ℕ) (t : Transfer) (asked : Asked) (seen : List Sight) → AreHeard (exchanges number fate ∷ []) → AreServedSights seen
      → IsAsked (alike step) fate old number t asked seen new → IsAsked (Serves step) fate old number t asked seen new
  asked_told fate old new number t (to_source m) seen heard served p = made_told fate old new (question_to_source number t m) seen heard served p
  asked_told fate old new number t (to_target m) seen heard served p = made_told fate old new (question_to_target number t m) seen heard served p
  asked_told fate old new number t (done s) seen heard served p = p
  asked_told fate old new number t (stopped_by why s) seen heard served p = p

  event_told : (h : Happening) (old new : Network S) (seen : List Sight) → AreHeard (h ∷ []) → AreServedSights seen → Happens (alike step) old h seen new → Happens (Serves step) old h seen new
  event_told (comes piece) old new seen heard served (told, p, is) = (
    told,
    record {
      arrivals = p.arrivals;
      brought = p.brought;
      served = service_told old.homes old.nodes new.nodes p.arrivals told (subst AreServedSights is served) p.served;
      homes = p.homes;
      transfers = p.transfers;
    },
    is,
  )
  event_told (exchanges number fate) old new seen heard served p =
      record { transfer = p.transfer; there = p.there; asked = asked_told fate old new number p.transfer (asked_of p.transfer.pass) seen heard served p.asked }

  pub sights_tell : SightsTellService step
  sights_tell old new [] seen heard served p = p
  sights_tell old new (h ∷ hs) seen heard served (first, others, between, here, later, order) =
      let all = subst AreServedSights order served in
      (first, others, between, event_told h old between first (heard.0, tt) (sights_front first others all) here, sights_tell between new hs others heard.1 (sights_back first others all) later, order)

heard_both : (hs ks : List Happening) → AreHeard hs → AreHeard ks → AreHeard (hs ++ ks)
heard_both [] ks p q = q
heard_both (h ∷ hs) ks p q = (p.0, heard_both hs ks p.1 q)

pub two_calls_seen : TwoCallsAreSeenAsOne
two_calls_seen a b c d earlier later seen others all heard and_heard served and_served all_served p q r =
    two_calls a b c d earlier later seen others all (sights_tell Steps a b earlier seen heard served p) (sights_tell Steps b c later others and_heard and_served q)
    (sights_tell Steps a d (earlier ++ later) all (heard_both earlier later heard and_heard) all_served r)
