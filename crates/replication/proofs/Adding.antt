-- What connections and passes that are added later change of events played before: nothing.
use Rattle.std.proofs.Common.{◌≡◌, ◌<◌, ◌∙◌, ℕ, zero, suc, ◌-◌, leb, leb-true, Bool, true, false, ◌&&◌, List, [], ◌∷◌, ◌++◌, get_or, length, Some, refl, sym, ap, subst, arith}
use Rattle.std.specs.Prelude.{⊤, nat_le}
use Rattle.std.specs.List.{AllByRecursion}
use Rattle.std.proofs.lemmas.List.Elements.{recursion_from_All}
use Rattle.node.specs.Runs.{Steps}
use Rattle.node.specs.Step.{Serving}
use Rattle.hub.specs.Arrival.{Arrival, fault_on, request_on}
use Rattle.hub.specs.Connections.{ConnectionTable, rest_on, was_opened}
use Rattle.repl.specs.Passes.{Asked, to_source, to_target, done, stopped_by, asked_of}
use Rattle.repl.specs.Turns.{after_turn}
use Rattle.world.specs.Exchanging.{IsAsked, IsMade, Question, question_to_source, question_to_target}
use Rattle.world.specs.Happening.{Happening, Sight, comes, exchanges}
use Rattle.world.specs.Network.{Network, Transfer, node_of_connection, transfer_at, with_transfer}
use Rattle.world.specs.Playing.{Happens, Plays}
use Rattle.world.specs.Service.{Handling, IsAnswered, IsService, SeenReply, on_connection}
use Rattle.world.specs.OneEvent.{is_known}
use Rattle.world.specs.declared.fate.Fate.{Fate}
use Rattle.replication.specs.Parted.{OpeningChangesNothing, OpeningMayComeBetween, Serves, StartingChangesNothing, StartingMayComeBetween, with_home, with_pass}
use Rattle.replication.proofs.Outcomes.{two_calls}
use Rattle.replication.proofs.Places.{got_before, set_before}
use Rattle.replication.proofs.Tables.{IsOn, arrives_after, brings_many, brings_on}

-- ---- homes

home_kept : (homes : List ℕ) (node k : ℕ) → k < length homes → get_or (homes ++ node ∷ []) k 0 ≡ get_or homes k 0
home_kept [] node k lt = absurd (omega (arith, lt))
home_kept (h ∷ hs) node zero lt = refl
home_kept (h ∷ hs) node (suc k) lt = home_kept hs node k (omega (arith, lt))

home_is : (homes : List ℕ) (node n conn : ℕ) → length homes ≡ n → (nat_le 1 conn && nat_le conn n) ≡ true → node_of_connection (homes ++ node ∷ []) conn ≡ node_of_connection homes conn
home_is homes node n conn many known = by (leb 1 conn) (leb conn n) refl refl known
  where
    by : (a b : Bool) → leb 1 conn ≡ a → leb conn n ≡ b → (a && b) ≡ true → node_of_connection (homes ++ node ∷ []) conn ≡ node_of_connection homes conn
    by true true ge le k = home_kept homes node (conn - 1) (omega (arith, leb-true 1 conn ge, leb-true conn n le, many))
    by true false ge le k = absurd cc
    by false b ge le k = absurd cc

module _ {S : Type 0} (handling : Handling S) where
  answer_moved : (homes others : List ℕ) (conn : ℕ) (old new : List (Serving S)) (a : Arrival) (t : SeenReply) → node_of_connection others conn ≡ node_of_connection homes conn → IsOn conn a
      → IsAnswered handling homes old a t new → IsAnswered handling others old a t new
  answer_moved homes others conn old new (request_on c m) t same on p =
      (p.0, subst (λ (place : ℕ). handling (on_connection c) old place m t.reply new) (ap (node_of_connection homes) on ∙ sym same ∙ ap (node_of_connection others) (sym on)) p.1)
  answer_moved homes others conn old new (fault_on c f) t same on p = p

  service_moved : (homes others : List ℕ) (conn : ℕ) (old new : List (Serving S)) (ars : List Arrival) (ts : List SeenReply) → node_of_connection others conn ≡ node_of_connection homes conn
      → AllByRecursion (IsOn conn) ars → IsService handling homes old ars ts new → IsService handling others old ars ts new
  service_moved homes others conn old new [] [] same on p = p
  service_moved homes others conn old new [] (t ∷ ts) same on p = absurd p
  service_moved homes others conn old new (a ∷ ars) [] same on p = absurd p
  service_moved homes others conn old new (a ∷ ars) (t ∷ ts) same on p =
      (p.0, answer_moved homes others conn old p.0 a t same on.0 p.1, service_moved homes others conn p.0 new ars ts same on.1 p.2)

  -- ---- a connection more

  made_opened : (node : ℕ) (fate : Fate) (old new : Network S) (q : Question) (seen : List Sight)
      → IsMade handling fate old q seen new → IsMade handling fate (with_home node old) q seen (with_home node new)
  made_opened node fate old new q seen p = record { turn = p.turn; nodes = p.nodes; carried = p.carried; sight = p.sight; left = ap (with_home node) p.left }

  asked_opened : (node : ℕ) (fate : Fate) (old new : Network S) (number : ℕ) (t : Transfer) (asked : Asked) (seen : List Sight) → IsAsked handling fate old number t asked seen new
      → IsAsked handling fate (with_home node old) number t asked seen (with_home node new)
  asked_opened node fate old new number t (to_source m) seen p = made_opened node fate old new (question_to_source number t m) seen p
  asked_opened node fate old new number t (to_target m) seen p = made_opened node fate old new (question_to_target number t m) seen p
  asked_opened node fate old new number t (done s) seen p = (p.0, ap (with_home node) p.1)
  asked_opened node fate old new number t (stopped_by why s) seen p = (p.0, ap (with_home node) p.1)

  asked_kept : (fate : Fate) (old new : Network S) (number : ℕ) (t : Transfer) (asked : Asked) (seen : List Sight) → IsAsked handling fate old number t asked seen new
      → (new.homes ≡ old.homes) × (new.connections ≡ old.connections)
  asked_kept fate old new number t (to_source m) seen p = (ap (λ (n : Network S). n.homes) p.left, ap (λ (n : Network S). n.connections) p.left)
  asked_kept fate old new number t (to_target m) seen p = (ap (λ (n : Network S). n.homes) p.left, ap (λ (n : Network S). n.connections) p.left)
  asked_kept fate old new number t (done s) seen p = (ap (λ (n : Network S). n.homes) p.1, ap (λ (n : Network S). n.connections) p.1)
  asked_kept fate old new number t (stopped_by why s) seen p = (ap (λ (n : Network S). n.homes) p.1, ap (λ (n : Network S). n.connections) p.1)

  -- the connection of an event is among the first so many
  abbrev IsAmong : ℕ → Happening → Type 0
  IsAmong many (comes piece) = (nat_le 1 piece.conn && nat_le piece.conn many) ≡ true
  IsAmong many (exchanges number fate) = ⊤

  event_opened : (node : ℕ) (h : Happening) (old new : Network S) (seen : List Sight) (many : ℕ) → old.connections.opened ≡ many → length old.homes ≡ many → IsAmong many h
      → Happens handling old h seen new → Happens handling (with_home node old) h seen (with_home node new)
  event_opened node (comes piece) old new seen many opened homes known (told, p, is) =
      let here : was_opened old.connections piece.conn ≡ true = ap (λ (n : ℕ). nat_le 1 piece.conn && nat_le piece.conn n) opened ∙ known in (
        told,
        record {
          arrivals = p.arrivals;
          brought = arrives_after old.connections new.connections piece p.arrivals here p.brought;
          served = service_moved old.homes (old.homes ++ node ∷ []) piece.conn old.nodes new.nodes p.arrivals told (home_is old.homes node many piece.conn homes known)
              (brings_on (rest_on old.connections piece.conn) old.connections piece p.arrivals new.connections p.brought) p.served;
          homes = ap (λ (hs : List ℕ). hs ++ node ∷ []) p.homes;
          transfers = p.transfers;
        },
        is,
      )
  event_opened node (exchanges number fate) old new seen many opened homes known p =
      record { transfer = p.transfer; there = p.there; asked = asked_opened node fate old new number p.transfer (asked_of p.transfer.pass) seen p.asked }

  event_many : (h : Happening) (old new : Network S) (seen : List Sight) (many : ℕ) → old.connections.opened ≡ many → length old.homes ≡ many → Happens handling old h seen new
      → (new.connections.opened ≡ many) × (length new.homes ≡ many)
  event_many (comes piece) old new seen many opened homes (told, p, is) =
      (brings_many (rest_on old.connections piece.conn) old.connections piece p.arrivals new.connections p.brought ∙ opened, ap length p.homes ∙ homes)
  event_many (exchanges number fate) old new seen many opened homes p =
      let k = asked_kept fate old new number p.transfer (asked_of p.transfer.pass) seen p.asked in
      (ap (λ (t : ConnectionTable). t.opened) k.1 ∙ opened, ap length k.0 ∙ homes)

  opened_plays : (node : ℕ) (hs : List Happening) (old new : Network S) (seen : List Sight) (many : ℕ) → old.connections.opened ≡ many → length old.homes ≡ many → AllByRecursion (IsAmong many) hs
      → Plays handling old hs seen new → Plays handling (with_home node old) hs seen (with_home node new)
  opened_plays node [] old new seen many opened homes known p = (p.0, ap (with_home node) p.1)
  opened_plays node (h ∷ hs) old new seen many opened homes known (first, others, between, here, later, order) =
      let k = event_many h old between first many opened homes here in (
        first,
        others,
        with_home node between,
        event_opened node h old between first many opened homes known.0 here,
        opened_plays node hs between new others many k.0 k.1 known.1 later,
        order,
      )

  among : (old : Network S) (hs : List Happening) → AllByRecursion (λ h. is_known old.connections old.transfers h ≡ true) hs → AllByRecursion (IsAmong old.connections.opened) hs
  among old [] k = tt
  among old (comes piece ∷ hs) k = (k.0, among old hs k.1)
  among old (exchanges number fate ∷ hs) k = (tt, among old hs k.1)

  pub opening : OpeningChangesNothing handling
  opening node old new hs seen homes known p =
      opened_plays node hs old new seen old.connections.opened refl homes
      (among old hs (recursion_from_All (λ h. is_known old.connections old.transfers h ≡ true) hs known)) p

  -- ---- a pass more

  with_kept : (ts : List Transfer) (t u v : Transfer) (number : ℕ) → transfer_at ts number ≡ Some u → with_transfer (ts ++ t ∷ []) number v ≡ with_transfer ts number v ++ t ∷ []
  with_kept ts t u v zero e = absurd cc
  with_kept ts t u v (suc k) e = set_before ts (t ∷ []) k u v e

  at_kept : (ts : List Transfer) (t u : Transfer) (number : ℕ) → transfer_at ts number ≡ Some u → transfer_at (ts ++ t ∷ []) number ≡ Some u
  at_kept ts t u zero e = absurd cc
  at_kept ts t u (suc k) e = got_before ts (t ∷ []) k u e

  made_started : (t : Transfer) (fate : Fate) (old new : Network S) (q : Question) (seen : List Sight) → transfer_at old.transfers q.number ≡ Some q.transfer
      → IsMade handling fate old q seen new → IsMade handling fate (with_pass t old) q seen (with_pass t new)
  made_started t fate old new q seen there p =
      record {
        turn = p.turn;
        nodes = p.nodes;
        carried = p.carried;
        sight = p.sight;
        left = ap (with_pass t) p.left
            ∙ ap (λ (ts : List Transfer). record old { nodes = p.nodes; transfers = ts })
            (sym (with_kept old.transfers t q.transfer (record q.transfer { pass = after_turn q.transfer.pass p.turn }) q.number there));
      }

  asked_started : (t : Transfer) (fate : Fate) (old new : Network S) (number : ℕ) (u : Transfer) (asked : Asked) (seen : List Sight) → transfer_at old.transfers number ≡ Some u
      → IsAsked handling fate old number u asked seen new → IsAsked handling fate (with_pass t old) number u asked seen (with_pass t new)
  asked_started t fate old new number u (to_source m) seen there p = made_started t fate old new (question_to_source number u m) seen there p
  asked_started t fate old new number u (to_target m) seen there p = made_started t fate old new (question_to_target number u m) seen there p
  asked_started t fate old new number u (done s) seen there p = (p.0, ap (with_pass t) p.1)
  asked_started t fate old new number u (stopped_by why s) seen there p = (p.0, ap (with_pass t) p.1)

  event_started : (t : Transfer) (h : Happening) (old new : Network S) (seen : List Sight) → Happens handling old h seen new → Happens handling (with_pass t old) h seen (with_pass t new)
  event_started t (comes piece) old new seen (told, p, is) = (
    told,
    record { arrivals = p.arrivals; brought = p.brought; served = p.served; homes = p.homes; transfers = ap (λ (ts : List Transfer). ts ++ t ∷ []) p.transfers },
    is,
  )
  event_started t (exchanges number fate) old new seen p =
      record {
        transfer = p.transfer;
        there = at_kept old.transfers t p.transfer number p.there;
        asked = asked_started t fate old new number p.transfer (asked_of p.transfer.pass) seen p.there p.asked;
      }

  pub starting : StartingChangesNothing handling
  starting t old new [] seen p = (p.0, ap (with_pass t) p.1)
  starting t old new (h ∷ hs) seen (first, others, between, here, later, order) =
      (first, others, with_pass t between, event_started t h old between first here, starting t between new hs others later, order)

-- ---- between two calls

pub opening_between : OpeningMayComeBetween
opening_between node a b c d earlier later seen others all homes known first then whole =
    two_calls (with_home node a) (with_home node b) c d earlier later seen others all (opening (Serves Steps) node a b earlier seen homes known first) then whole

pub starting_between : StartingMayComeBetween
starting_between t a b c d earlier later seen others all first then whole =
    two_calls (with_pass t a) (with_pass t b) c d earlier later seen others all (starting (Serves Steps) t a b earlier seen first) then whole
