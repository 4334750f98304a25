-- What pieces bring to connections, by their rests and by their streams.
use Rattle.std.proofs.Common.{◌≡◌, ◌≢◌, ◌∙◌, ◌⊎◌, inl, inr, ℕ, ◌==◌, Bool, true, false, cond, List, [], ◌∷◌, ◌++◌, map, Option, Some, None, append_assoc, append-nil, refl, sym, ap, subst, arith}
use Rattle.std.specs.Prelude.{⊤}
use Rattle.std.specs.Cmp.{nat_cmp_total}
use Rattle.std.specs.FinMap.{FinMap, get, get-insert, get-remove, gets, insert, remove}
use Rattle.std.specs.Ordering.{eq_by_cmp, nat_cmp}
use Rattle.std.proofs.lemmas.Bool.{cases_eq}
use Rattle.std.proofs.lemmas.List.{append_cancel_left}
use Rattle.std.proofs.lemmas.Map.Lookups.{exact_unsigned}
use Rattle.std.proofs.lemmas.Map.Views.{tells_apart}
use Rattle.std.proofs.lemmas.Bool.Decides.{nat_tests}
use Rattle.couch_http.proofs.CutLemmas.{Begins-nothing, Cuts-append, Cuts-append_ended, Cuts-append_faulty, Cuts_unique}
use Rattle.couch_http.specs.Message.{Message}
use Rattle.couch_http.specs.Stream.{Cuts, StreamEnd, unfinished, ended, faulty}
use Rattle.hub.specs.Arrival.{AreNew, Arrival, Arrives, ArrivesAt, Brings, BringsBehind, HasOneOrder, KeepsOrder, Piece, fault_at, fault_between, request_on, stream_of}
use Rattle.hub.specs.Connections.{ConnectionTable, rest_on, was_opened, with_rest}
use Rattle.hub.specs.Endings.{is_last, rest_of}

-- ---- rests

apart_by : (q k : ℕ) (b : Bool) → eq_by_cmp nat_cmp q k ≡ b → q ≢ k → b ≡ false
apart_by q k true is apart = absurd (apart (tells_apart exact_unsigned q k is))
apart_by q k false is apart = refl

get_same : (m : FinMap nat_cmp (List ℕ)) (k : ℕ) (v : List ℕ) → get (insert m k v) k ≡ Some v
get_same m k v = grind (gets, arith)

get_other : (m : FinMap nat_cmp (List ℕ)) (k q : ℕ) (v : List ℕ) → q ≢ k → get (insert m k v) q ≡ get m q
get_other m k q v apart = get-insert nat_cmp_total m k v q ∙ ap (λ (b : Bool). cond b (Some v) (get m q)) (apart_by q k (eq_by_cmp nat_cmp q k) refl apart)

gone_same : (m : FinMap nat_cmp (List ℕ)) (k : ℕ) → get (remove m k) k ≡ None
gone_same m k = grind (gets, arith)

gone_other : (m : FinMap nat_cmp (List ℕ)) (k q : ℕ) → q ≢ k → get (remove m k) q ≡ get m q
gone_other m k q apart = get-remove nat_cmp_total m k q ∙ ap (λ (b : Bool). cond b None (get m q)) (apart_by q k (eq_by_cmp nat_cmp q k) refl apart)

opened_by_rest : (b : Bool) (o : Option (List ℕ)) (rest : List ℕ) → cond b o None ≡ Some rest → b ≡ true
opened_by_rest true o rest e = refl
opened_by_rest false o rest e = absurd cc

pub rest_same : (table : ConnectionTable) (conn : ℕ) (rest : List ℕ) (left : Option (List ℕ)) → rest_on table conn ≡ Some rest → rest_on (with_rest table conn left) conn ≡ left
rest_same table conn rest (Some x) at =
    ap (λ (b : Bool). cond b (get (insert table.rests conn x) conn) None) (opened_by_rest (was_opened table conn) (get table.rests conn) rest at) ∙ get_same table.rests conn x
rest_same table conn rest None at =
    ap (λ (b : Bool). cond b (get (remove table.rests conn) conn) None) (opened_by_rest (was_opened table conn) (get table.rests conn) rest at) ∙ gone_same table.rests conn

pub rest_other : (table : ConnectionTable) (conn other : ℕ) (left : Option (List ℕ)) → other ≢ conn → rest_on (with_rest table conn left) other ≡ rest_on table other
rest_other table conn other (Some x) apart = ap (λ (o : Option (List ℕ)). cond (was_opened table other) o None) (get_other table.rests conn other x apart)
rest_other table conn other None apart = ap (λ (o : Option (List ℕ)). cond (was_opened table other) o None) (gone_other table.rests conn other apart)

-- ---- streams

stream_push : (ps : List Piece) (p : Piece) (conn : ℕ) → stream_of (ps ++ p ∷ []) conn ≡ stream_of ps conn ++ cond (p.conn == conn) p.bytes []
stream_push [] p conn = append-nil (cond (p.conn == conn) p.bytes [])
stream_push (q ∷ ps) p conn =
    ap (λ xs. cond (q.conn == conn) q.bytes [] ++ xs) (stream_push ps p conn)
    ∙ sym (append_assoc (cond (q.conn == conn) q.bytes []) (stream_of ps conn) (cond (p.conn == conn) p.bytes []))

own_bytes : (p : Piece) (conn : ℕ) → p.conn ≡ conn → cond (p.conn == conn) p.bytes [] ≡ p.bytes
own_bytes p conn same = grind (arith, nat_tests)

other_bytes : (p : Piece) (conn : ℕ) → conn ≢ p.conn → cond (p.conn == conn) p.bytes [] ≡ []
other_bytes p conn apart = grind (arith, nat_tests)

stream_own : (ps : List Piece) (p : Piece) → stream_of (ps ++ p ∷ []) p.conn ≡ stream_of ps p.conn ++ p.bytes
stream_own ps p = stream_push ps p p.conn ∙ ap (λ xs. stream_of ps p.conn ++ xs) (own_bytes p p.conn refl)

stream_other : (ps : List Piece) (p : Piece) (conn : ℕ) → conn ≢ p.conn → stream_of (ps ++ p ∷ []) conn ≡ stream_of ps conn
stream_other ps p conn apart = stream_push ps p conn ∙ ap (λ xs. stream_of ps conn ++ xs) (other_bytes p conn apart) ∙ append-nil (stream_of ps conn)

-- what a connection keeps of its stream
abbrev pub IsRest : List ℕ → Option (List ℕ) → Type 0
IsRest stream (Some rest) = (messages : List Message) × Cuts stream messages (unfinished rest)
IsRest stream None = (messages : List Message) × (end : StreamEnd) × Cuts stream messages end × (is_last end ≡ true)

-- the stream goes on by a piece
rest_next : (stream bytes rest : List ℕ) (old ms : List Message) (end : StreamEnd) → Cuts stream old (unfinished rest) → Cuts (rest ++ bytes) ms end → IsRest (stream ++ bytes) (rest_of end)
rest_next stream bytes rest old ms (unfinished left) held cuts = (old ++ ms, Cuts-append stream bytes old ms rest (unfinished left) held cuts)
rest_next stream bytes rest old ms ended held cuts = (old ++ ms, ended, Cuts-append stream bytes old ms rest ended held cuts, refl)
rest_next stream bytes rest old ms (faulty f) held cuts = (old ++ ms, faulty f, Cuts-append stream bytes old ms rest (faulty f) held cuts, refl)

pub ended_next : (stream bytes : List ℕ) (ms : List Message) (end : StreamEnd) → Cuts stream ms end → is_last end ≡ true → Cuts (stream ++ bytes) ms end
ended_next stream bytes ms (unfinished rest) held last = absurd cc
ended_next stream bytes ms ended held last = Cuts-append_ended stream bytes ms held
ended_next stream bytes ms (faulty f) held last = Cuts-append_faulty stream bytes ms f held

fault_new : (conn : ℕ) (rest : List ℕ) (end : StreamEnd) → fault_between conn (unfinished rest) end ≡ fault_at conn end
fault_new conn rest (unfinished left) = refl
fault_new conn rest ended = refl
fault_new conn rest (faulty f) = refl

fault_old : (conn : ℕ) (end : StreamEnd) → is_last end ≡ true → fault_between conn end end ≡ []
fault_old conn (unfinished rest) last = absurd cc
fault_old conn ended last = refl
fault_old conn (faulty f) last = refl

-- a piece brings behind the rest what it brings behind the stream; the connection then keeps the rest of its stream, and the others
-- keep what they had
pub record Next (table : ConnectionTable) (p : Piece) (stream : List ℕ) (first : List Arrival) (between : ConnectionTable) : Type 0 where
  pub brings : Brings p.conn stream p.bytes first
  pub own : IsRest (stream ++ p.bytes) (rest_on between p.conn)
  pub others : (other : ℕ) → other ≢ p.conn → rest_on between other ≡ rest_on table other

next_by : (table between : ConnectionTable) (p : Piece) (stream : List ℕ) (first : List Arrival) (o : Option (List ℕ)) → rest_on table p.conn ≡ o → IsRest stream o
    → BringsBehind o table p first between → Next table p stream first between
next_by table between p stream first (Some rest) at is (ms, end, cuts, order, new) = record {
  brings = record {
    old = is.0;
    before = unfinished rest;
    held = is.1;
    new = ms;
    after = end;
    holds = Cuts-append stream p.bytes is.0 ms rest end is.1 cuts;
    order = order ∙ ap (λ xs. map (request_on p.conn) ms ++ xs) (sym (fault_new p.conn rest end));
  };
  own = subst (λ (o : Option (List ℕ)). IsRest (stream ++ p.bytes) o) (sym (ap (λ (t : ConnectionTable). rest_on t p.conn) new ∙ rest_same table p.conn rest (rest_of end) at))
      (rest_next stream p.bytes rest is.0 ms end is.1 cuts);
  others = λ other apart. ap (λ (t : ConnectionTable). rest_on t other) new ∙ rest_other table p.conn other (rest_of end) apart;
}
next_by table between p stream first None at is (order, new) = record {
  brings = record {
    old = is.0;
    before = is.1;
    held = is.2;
    new = [];
    after = is.1;
    holds = rw append-nil (ended_next stream p.bytes is.0 is.1 is.2 is.3);
    order = order ∙ sym (fault_old p.conn is.1 is.3);
  };
  own = subst (λ (o : Option (List ℕ)). IsRest (stream ++ p.bytes) o) (sym (ap (λ (t : ConnectionTable). rest_on t p.conn) new ∙ at))
      (is.0, is.1, ended_next stream p.bytes is.0 is.1 is.2 is.3, is.3);
  others = λ other apart. ap (λ (t : ConnectionTable). rest_on t other) new;
}

-- the connections of these pieces keep the rests of their streams
abbrev pub KeepRests : ConnectionTable → List Piece → List Piece → Type 0
KeepRests table earlier [] = ⊤
KeepRests table earlier (p ∷ ps) = IsRest (stream_of earlier p.conn) (rest_on table p.conn) × KeepRests table earlier ps

keep_one : (table between : ConnectionTable) (earlier : List Piece) (p q : Piece) (first : List Arrival) → Next table p (stream_of earlier p.conn) first between
    → IsRest (stream_of earlier q.conn) (rest_on table q.conn) → (q.conn ≡ p.conn) ⊎ (q.conn ≢ p.conn) → IsRest (stream_of (earlier ++ p ∷ []) q.conn) (rest_on between q.conn)
keep_one table between earlier p q first n is (inl same) =
    subst (λ (k : ℕ). IsRest (stream_of (earlier ++ p ∷ []) k) (rest_on between k)) (sym same) (rw (stream_own earlier p) n.own)
keep_one table between earlier p q first n is (inr apart) = rw (stream_other earlier p q.conn apart, n.others q.conn apart) is

keep_next : (table between : ConnectionTable) (earlier : List Piece) (p : Piece) (ps : List Piece) (first : List Arrival) → Next table p (stream_of earlier p.conn) first between
    → KeepRests table earlier ps → KeepRests between (earlier ++ p ∷ []) ps
keep_next table between earlier p [] first n keep = tt
keep_next table between earlier p (q ∷ ps) first n keep =
    (keep_one table between earlier p q first n keep.0 (cases_eq q.conn p.conn), keep_next table between earlier p ps first n keep.1)

pub arrives_by : (table after : ConnectionTable) (earlier pieces : List Piece) (arrivals : List Arrival) → KeepRests table earlier pieces
    → ArrivesAt table pieces arrivals after → Arrives earlier pieces arrivals
arrives_by table after earlier [] arrivals keep at = at.0
arrives_by table after earlier (p ∷ ps) arrivals keep (first, others, between, here, later, order) =
    let n = next_by table between p (stream_of earlier p.conn) first (rest_on table p.conn) refl keep.0 here in
    (first, others, n.brings, arrives_by between after (earlier ++ p ∷ []) ps others (keep_next table between earlier p ps first n keep.1) later, order)

new_one : (o : Option (List ℕ)) → o ≡ Some [] → IsRest [] o
new_one o at = subst (λ (x : Option (List ℕ)). IsRest [] x) (sym at) ([], (Begins-nothing, refl))

new_keep : (table : ConnectionTable) (pieces : List Piece) → AreNew table pieces → KeepRests table [] pieces
new_keep table [] new = tt
new_keep table (p ∷ ps) new = (new_one (rest_on table p.conn) new.0, new_keep table ps new.1)

pub order_kept : KeepsOrder
order_kept table after pieces arrivals new at = arrives_by table after [] pieces arrivals (new_keep table pieces new) at

-- ---- one order

brings_one : (conn : ℕ) (stream bytes : List ℕ) (xs ys : List Arrival) → Brings conn stream bytes xs → Brings conn stream bytes ys → xs ≡ ys
brings_one conn stream bytes xs ys a b =
    let was = Cuts_unique stream a.old b.old a.before b.before a.held b.held in
    let is = Cuts_unique (stream ++ bytes) (a.old ++ a.new) (b.old ++ b.new) a.after b.after a.holds b.holds in
    let new : a.new ≡ b.new = append_cancel_left a.old a.new b.new (is.0 ∙ ap (λ (ms : List Message). ms ++ b.new) (sym was.0)) in
    a.order ∙ ap (λ (ms : List Message). map (request_on conn) ms ++ fault_between conn a.before a.after) new
    ∙ ap (λ (e : StreamEnd). map (request_on conn) b.new ++ fault_between conn e a.after) was.1
    ∙ ap (λ (e : StreamEnd). map (request_on conn) b.new ++ fault_between conn b.before e) is.1 ∙ sym b.order

pub order_one : HasOneOrder
order_one earlier [] xs ys a b = a ∙ sym b
order_one earlier (p ∷ ps) xs ys (x, xs', here, later, order) (y, ys', and_here, and_later, and_order) =
    order ∙ ap (λ (zs : List Arrival). zs ++ xs') (brings_one p.conn (stream_of earlier p.conn) p.bytes x y here and_here)
    ∙ ap (λ (zs : List Arrival). y ++ zs) (order_one (earlier ++ p ∷ []) ps xs' ys' later and_later) ∙ sym and_order
