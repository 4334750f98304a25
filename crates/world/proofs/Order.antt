-- Events in the order of arrival by whole streams.
use Rattle.std.proofs.Common.{◌≡◌, ◌∙◌, ℕ, List, [], ◌∷◌, ◌++◌, map, append_assoc, append-nil, refl, sym, ap, subst}
use Rattle.std.proofs.lemmas.List.{append_cancel_left}
use Rattle.hub.proofs.Arrivals.{order_kept, order_one}
use Rattle.hub.specs.Arrival.{AreNew, Arrival, Arrives, ArrivesAt, Brings, BringsBehind, Piece, stream_of}
use Rattle.hub.specs.Connections.{ConnectionTable, rest_on}
use Rattle.repl.specs.Passes.{Asked, asked_of, to_source, to_target, done, stopped_by}
use Rattle.world.specs.Exchanging.{IsAsked, IsExchanged}
use Rattle.world.specs.Happening.{Happening, Sight, comes, exchanges, pieces_of}
use Rattle.world.specs.Network.{Network, Transfer}
use Rattle.world.specs.Playing.{IsPlayedInOrder, Plays, PlaysInOrder, all_replied}
use Rattle.world.specs.Service.{Handling, IsService, SeenReply}
use Rattle.world.specs.declared.fate.Fate.{Fate}
use Rattle.world.proofs.Events.{replied_more}
use Rattle.world.proofs.Services.{arrives_append, service_append}

-- ---- the last piece of several

-- what pieces and one more bring, apart
record LastOf (before ps : List Piece) (q : Piece) (zs : List Arrival) : Type 0 where
  first : List Arrival
  last : List Arrival
  arrives : Arrives before ps first
  brings : Brings q.conn (stream_of (before ++ ps) q.conn) q.bytes last
  order : zs ≡ first ++ last

last_of : (before ps : List Piece) (q : Piece) (zs : List Arrival) → Arrives before (ps ++ q ∷ []) zs → LastOf before ps q zs
last_of before [] q zs (first, others, here, later, order) = record {
  first = [];
  last = first;
  arrives = refl;
  brings = subst (λ (es : List Piece). Brings q.conn (stream_of es q.conn) q.bytes first) (sym (append-nil before)) here;
  order = order ∙ ap (λ (xs : List Arrival). first ++ xs) later ∙ append-nil first;
}
last_of before (p ∷ ps) q zs (first, others, here, later, order) =
    let rest = last_of (before ++ p ∷ []) ps q others later in
    record {
      first = first ++ rest.first;
      last = rest.last;
      arrives = (first, rest.first, here, rest.arrives, refl);
      brings = subst (λ (es : List Piece). Brings q.conn (stream_of es q.conn) q.bytes rest.last) (append_assoc before (p ∷ []) ps) rest.brings;
      order = order ∙ ap (λ (xs : List Arrival). first ++ xs) rest.order ∙ sym (append_assoc first rest.first rest.last);
    }

new_first : (table : ConnectionTable) (ps qs : List Piece) → AreNew table (ps ++ qs) → AreNew table ps
new_first table [] qs new = tt
new_first table (p ∷ ps) qs new = (new.0, new_first table ps qs new.1)

-- what a piece brings behind the rests that earlier ones left is what it brings to its connection's whole stream
brings_next : (start between after : ConnectionTable) (earlier : List Piece) (p : Piece) (xs ys : List Arrival) → AreNew start (earlier ++ p ∷ []) → ArrivesAt start earlier xs between
    → ArrivesAt between (p ∷ []) ys after → Brings p.conn (stream_of earlier p.conn) p.bytes ys
brings_next start between after earlier p xs ys new first next =
    let all = last_of [] earlier p (xs ++ ys)
    (order_kept start after (earlier ++ p ∷ []) (xs ++ ys) new (arrives_append start between after earlier (p ∷ []) xs ys first next)) in
    let same : all.first ≡ xs = order_one [] earlier all.first xs all.arrives (order_kept start between earlier xs (new_first start earlier (p ∷ []) new) first) in
    let last : all.last ≡ ys = append_cancel_left xs all.last ys (ap (λ (zs : List Arrival). zs ++ all.last) (sym same) ∙ sym all.order) in
    subst (λ (zs : List Arrival). Brings p.conn (stream_of earlier p.conn) p.bytes zs) last all.brings

-- the piece alone, in a list
pub arrives_alone : (old new : ConnectionTable) (p : Piece) (xs : List Arrival) → BringsBehind (rest_on old p.conn) old p xs new → ArrivesAt old (p ∷ []) xs new
arrives_alone old new p xs brought = (xs, [], new, brought, (refl, refl), sym (append-nil xs))

-- ---- exchanges leave connections as they are

asked_connections : {S : Type 0} (handling : Handling S) (fate : Fate) (old new : Network S) (number : ℕ) (t : Transfer) (asked : Asked) (seen : List Sight)
    → IsAsked handling fate old number t asked seen new → new.connections ≡ old.connections
asked_connections {S} handling fate old new number t (to_source m) seen p = ap (λ (n : Network S). n.connections) p.left
asked_connections {S} handling fate old new number t (to_target m) seen p = ap (λ (n : Network S). n.connections) p.left
asked_connections {S} handling fate old new number t (done s) seen p = ap (λ (n : Network S). n.connections) p.1
asked_connections {S} handling fate old new number t (stopped_by why s) seen p = ap (λ (n : Network S). n.connections) p.1

exchanged_connections : {S : Type 0} (handling : Handling S) (fate : Fate) (old new : Network S) (number : ℕ) (seen : List Sight) → IsExchanged handling fate old number seen new
    → new.connections ≡ old.connections
exchanged_connections handling fate old new number seen p = asked_connections handling fate old new number p.transfer (asked_of p.transfer.pass) seen p.asked

-- ---- from rests to streams

-- from connections on which nothing had come before these earlier pieces
plays_behind : {S : Type 0} (handling : Handling S) (start : ConnectionTable) (earlier : List Piece) (xs : List Arrival) (old new : Network S) (hs : List Happening) (seen : List Sight)
    → AreNew start (earlier ++ pieces_of hs) → ArrivesAt start earlier xs old.connections → Plays handling old hs seen new → PlaysInOrder handling earlier old hs seen new
plays_behind handling start earlier xs old new [] seen fresh at p = p
plays_behind handling start earlier xs old new (comes piece ∷ hs) seen fresh at (first, others, between, (told, played, same), later, order) =
    let fresh' = subst (AreNew start) (sym (append_assoc earlier (piece ∷ []) (pieces_of hs))) fresh in
    let alone = arrives_alone old.connections between.connections piece played.arrivals played.brought in
    let brought = brings_next start old.connections between.connections earlier piece xs played.arrivals
    (new_first start (earlier ++ piece ∷ []) (pieces_of hs) fresh') at alone in
    let at' = arrives_append start old.connections between.connections earlier (piece ∷ []) xs played.arrivals at alone in (
      told,
      others,
      between,
      record { arrivals = played.arrivals; brought = brought; served = played.served; homes = played.homes; transfers = played.transfers },
      plays_behind handling start (earlier ++ piece ∷ []) (xs ++ played.arrivals) between new hs others fresh' at' later,
      order ∙ ap (λ (ss : List Sight). ss ++ others) same,
    )
plays_behind handling start earlier xs old new (exchanges number fate ∷ hs) seen fresh at (first, others, between, here, later, order) =
    let at' = subst (ArrivesAt start earlier xs) (sym (exchanged_connections handling fate old between number first here)) at in
    (first, others, between, here, plays_behind handling start earlier xs between new hs others fresh at' later, order)

pub plays_in_order : {S : Type 0} (handling : Handling S) (old new : Network S) (hs : List Happening) (seen : List Sight) → AreNew old.connections (pieces_of hs) → Plays handling old hs seen new
    → PlaysInOrder handling [] old hs seen new
plays_in_order handling old new hs seen fresh p = plays_behind handling old.connections [] [] old new hs seen fresh (refl, refl) p

-- ---- pieces alone

-- the arrivals of pieces, and their replies
record AreServed {S : Type 0} (handling : Handling S) (earlier : List Piece) (old : Network S) (pieces : List Piece) (sights : List Sight) (new : Network S) : Type 0 where
  told : List SeenReply
  seen : sights ≡ all_replied told
  arrivals : List Arrival
  arrive : Arrives earlier pieces arrivals
  served : IsService handling old.homes old.nodes arrivals told new.nodes

served_behind : {S : Type 0} (handling : Handling S) (earlier : List Piece) (old new : Network S) (pieces : List Piece) (seen : List Sight) → PlaysInOrder handling earlier old (map comes pieces) seen new
    → AreServed handling earlier old pieces seen new
served_behind {S} handling earlier old new [] seen p =
    record { told = []; seen = p.0; arrivals = []; arrive = refl; served = ap (λ (n : Network S). n.nodes) p.1 }
served_behind {S} handling earlier old new (p ∷ ps) seen (told, others, between, here, later, order) =
    let rest = served_behind handling (earlier ++ p ∷ []) between new ps others later in
    record {
      told = told ++ rest.told;
      seen = order ∙ ap (λ (ss : List Sight). all_replied told ++ ss) rest.seen ∙ sym (replied_more told rest.told);
      arrivals = here.arrivals ++ rest.arrivals;
      arrive = (here.arrivals, rest.arrivals, here.brought, rest.arrive, refl);
      served = service_append handling old.homes old.nodes between.nodes new.nodes here.arrivals rest.arrivals told rest.told here.served
          (subst (λ (h : List ℕ). IsService handling h between.nodes rest.arrivals rest.told new.nodes) here.homes rest.served);
    }

pub pieces_in_order : {S : Type 0} (handling : Handling S) (old new : Network S) (pieces : List Piece) (seen : List Sight) → PlaysInOrder handling [] old (map comes pieces) seen new
    → (told : List SeenReply) × (seen ≡ all_replied told) × IsPlayedInOrder handling old.homes old.nodes pieces told new.nodes
pieces_in_order handling old new pieces seen p =
    let s = served_behind handling [] old new pieces seen p in
    (s.told, s.seen, record { arrivals = s.arrivals; arrive = s.arrive; served = s.served })
