-- What was fed, piece by piece, and what it brings.
use Rattle.std.proofs.Common.{◌≡◌, ◌≢◌, ◌∙◌, ◌⊎◌, inl, inr, ℕ, ◌+◌, ◌≤◌, ◌<◌, ◌==◌, ◌&&◌, Bool, true, false, cond, List, [], ◌∷◌, ◌++◌, map, Option, Some, None, is_some, refl, sym, ap, ap₂, subst, append_assoc, append-nil, arith, nat_le, true≢false}
use Rattle.std.specs.Cmp.{nat_cmp_total}
use Rattle.std.specs.FinMap.{FinMap, empty, get, get-empty, get-insert, gets, insert, remove}
use Rattle.std.specs.Ordering.{eq_by_cmp, nat_cmp}
use Rattle.std.proofs.lemmas.Bool.{cases_eq}
use Rattle.std.proofs.lemmas.Bool.Decides.{nat_tests}
use Rattle.std.proofs.lemmas.Map.Lookups.{exact_unsigned}
use Rattle.std.proofs.lemmas.Map.Views.{tells_apart}
use Rattle.auth.specs.Callers.{Configuration}
use Rattle.couch_http.proofs.CutLemmas.{Begins-nothing, Cuts-append}
use Rattle.couch_http.specs.Message.{Message}
use Rattle.couch_http.specs.Reply.{Reply}
use Rattle.couch_http.specs.Stream.{Cuts, StreamEnd, unfinished, ended, faulty}
use Rattle.store.specs.declared.store.Store.{Ghosts}
use Rattle.node.specs.Runs.{Stepped, messages_of}
use Rattle.node.specs.Step.{Serving}
use Rattle.hub.proofs.Arrivals.{rest_other, rest_same}
use Rattle.hub.proofs.ServiceLemmas.{ended_here, was_open}
use Rattle.hub.proofs.Serving.{serves_none, serves_then}
use Rattle.hub.specs.Answering.{RepliesInOrder, replies_of}
use Rattle.hub.specs.Arrival.{Arrival, Arrives, Piece, fault_between, fault_on, request_on, stream_of}
use Rattle.hub.specs.Connections.{ConnectionTable, is_open, next_connection, rest_on, was_opened, with_connection, with_rest, without}
use Rattle.hub.specs.Endings.{last_replies, rest_of}
use Rattle.hub.specs.Feeding.{HubState, IsFed}
use Rattle.hub.specs.Service.{bytes_of, farewell, hub_without}
use Rattle.engine.specs.Acts.{Act, accepted, opened, brought, took, closed, conn_of}
use Rattle.engine.specs.Desks.{Deed, Desk, Does, Runs, said_in}
use Rattle.engine.specs.Order.{HandlesInOrder, fed_by, fed_in, requests_of}
use Rattle.engine.specs.Saying.{IsSaid, SaysInOrder, replies_on}
use Rattle.engine.specs.Standing.{Owes, Seat, Standing, TakesPiece, ending, given_up, serving, with_owed}
use Rattle.engine.proofs.Keeping.{runs_keep}
use Rattle.engine.proofs.Standings.{insert_here, insert_other, remove_here, remove_other}
use Rattle.engine.proofs.Takings.{nothing, own, other, piece_opened, rest_opened, without_opened}

-- ---- arrivals

requests_more : (xs ys : List Arrival) → requests_of (xs ++ ys) ≡ requests_of xs ++ requests_of ys
requests_more [] ys = refl
requests_more (request_on conn m ∷ xs) ys = ap (λ (ms : List Message). m ∷ ms) (requests_more xs ys)
requests_more (fault_on conn f ∷ xs) ys = requests_more xs ys

requests_first : (conn : ℕ) (ms : List Message) (rest : List ℕ) (end : StreamEnd) → requests_of (map (request_on conn) ms ++ fault_between conn (unfinished rest) end) ≡ ms
requests_first conn [] rest (unfinished left) = refl
requests_first conn [] rest ended = refl
requests_first conn [] rest (faulty f) = refl
requests_first conn (m ∷ ms) rest end = ap (λ (l : List Message). m ∷ l) (requests_first conn ms rest end)

-- ---- streams

stream_push : (ps : List Piece) (p : Piece) (conn : ℕ) → stream_of (ps ++ p ∷ []) conn ≡ stream_of ps conn ++ cond (p.conn == conn) p.bytes []
stream_push [] p conn = append-nil (cond (p.conn == conn) p.bytes [])
stream_push (q ∷ ps) p conn =
    ap (λ (xs : List ℕ). cond (q.conn == conn) q.bytes [] ++ xs) (stream_push ps p conn)
    ∙ sym (append_assoc (cond (q.conn == conn) q.bytes []) (stream_of ps conn) (cond (p.conn == conn) p.bytes []))

stream_own : (ps : List Piece) (p : Piece) (conn : ℕ) → conn ≡ p.conn → stream_of (ps ++ p ∷ []) conn ≡ stream_of ps conn ++ p.bytes
stream_own ps p conn same = stream_push ps p conn ∙ ap (λ (xs : List ℕ). stream_of ps conn ++ xs) (own p.conn conn p.bytes (sym same))

stream_other : (ps : List Piece) (p : Piece) (conn : ℕ) → conn ≢ p.conn → stream_of (ps ++ p ∷ []) conn ≡ stream_of ps conn
stream_other ps p conn apart = stream_push ps p conn ∙ ap (λ (xs : List ℕ). stream_of ps conn ++ xs) (other p.conn conn p.bytes apart) ∙ append-nil (stream_of ps conn)

-- ---- what is said

-- the replies to what arrived were said to each connection
abbrev Says : List Piece → List Arrival → List Reply → Type 0
Says said arrivals replies = (conn : ℕ) → IsSaid (stream_of said conn) (replies_on conn arrivals replies)

says_nothing : Says [] [] []
says_nothing conn = inl refl

says_quiet : (others : List Piece) (arrivals : List Arrival) (replies : List Reply) (c : ℕ) (words : List ℕ) → words ≡ [] → Says others arrivals replies
    → Says (record { conn = c; bytes = words } ∷ others) arrivals replies
says_quiet others arrivals replies c words none says conn =
    subst (λ (xs : List ℕ). IsSaid xs (replies_on conn arrivals replies)) (sym (ap (λ (xs : List ℕ). xs ++ stream_of others conn) (nothing (c == conn) words none))) (says conn)

mine_none : {A : Type 0} (b : Bool) (xs : List A) → xs ≡ cond b [] [] ++ xs
mine_none true xs = refl
mine_none false xs = refl

mine_more : {A : Type 0} (b : Bool) (xs ys : List A) → cond b xs [] ++ cond b ys [] ≡ cond b (xs ++ ys) []
mine_more true xs ys = refl
mine_more false xs ys = refl

mine_bytes : (b : Bool) (rs : List Reply) → bytes_of (cond b rs []) ≡ cond b (bytes_of rs) []
mine_bytes true rs = refl
mine_bytes false rs = refl

bytes_more : (rs ss : List Reply) → bytes_of (rs ++ ss) ≡ bytes_of rs ++ bytes_of ss
bytes_more [] ss = refl
bytes_more (r ∷ rs) ss = ap (λ (xs : List ℕ). r.bytes ++ xs) (bytes_more rs ss) ∙ sym (append_assoc r.bytes (bytes_of rs) (bytes_of ss))

-- the replies to requests that arrive one behind the other on one connection
replies_run : {S : Type 0} (conn c : ℕ) (steps : List (Stepped S)) (arrivals : List Arrival) (replies : List Reply)
    → replies_on conn (map (request_on c) (messages_of steps) ++ arrivals) (replies_of steps ++ replies) ≡ cond (c == conn) (replies_of steps) [] ++ replies_on conn arrivals replies
replies_run conn c [] arrivals replies = mine_none (c == conn) (replies_on conn arrivals replies)
replies_run conn c (x ∷ steps) arrivals replies =
    ap (λ (rs : List Reply). cond (c == conn) (x.reply ∷ []) [] ++ rs) (replies_run conn c steps arrivals replies)
    ∙ sym (append_assoc (cond (c == conn) (x.reply ∷ []) []) (cond (c == conn) (replies_of steps) []) (replies_on conn arrivals replies))
    ∙ ap (λ (rs : List Reply). rs ++ replies_on conn arrivals replies) (mine_more (c == conn) (x.reply ∷ []) (replies_of steps))

replies_fault : (conn c : ℕ) (rest : List ℕ) (end : StreamEnd) (arrivals : List Arrival) (replies : List Reply)
    → replies_on conn (fault_between c (unfinished rest) end ++ arrivals) replies ≡ cond (c == conn) (last_replies end) [] ++ replies_on conn arrivals replies
replies_fault conn c rest (unfinished left) arrivals replies = mine_none (c == conn) (replies_on conn arrivals replies)
replies_fault conn c rest ended arrivals replies = mine_none (c == conn) (replies_on conn arrivals replies)
replies_fault conn c rest (faulty f) arrivals replies = refl

-- a piece was fed
replies_fed : {S : Type 0} (conn c : ℕ) (steps : List (Stepped S)) (messages : List Message) (answers : List Reply) (rest : List ℕ) (end : StreamEnd) (arrivals : List Arrival) (replies : List Reply)
    → messages_of steps ≡ messages → replies_of steps ≡ answers
    → replies_on conn ((map (request_on c) messages ++ fault_between c (unfinished rest) end) ++ arrivals) (answers ++ replies)
    ≡ cond (c == conn) (answers ++ last_replies end) [] ++ replies_on conn arrivals replies
replies_fed conn c steps messages answers rest end arrivals replies requests is =
    ap (λ (xs : List Arrival). replies_on conn xs (answers ++ replies)) (append_assoc (map (request_on c) messages) (fault_between c (unfinished rest) end) arrivals)
    ∙ ap₂ (λ (ms : List Message) (rs : List Reply). replies_on conn (map (request_on c) ms ++ (fault_between c (unfinished rest) end ++ arrivals)) (rs ++ replies)) (sym requests) (sym is)
    ∙ replies_run conn c steps (fault_between c (unfinished rest) end ++ arrivals) replies
    ∙ ap₂ (λ (rs ss : List Reply). cond (c == conn) rs [] ++ ss) is (replies_fault conn c rest end arrivals replies)
    ∙ sym (append_assoc (cond (c == conn) answers []) (cond (c == conn) (last_replies end) []) (replies_on conn arrivals replies))
    ∙ ap (λ (rs : List Reply). rs ++ replies_on conn arrivals replies) (mine_more (c == conn) answers (last_replies end))

says_fed : {S : Type 0} (others : List Piece) (arrivals : List Arrival) (replies : List Reply) (c : ℕ) (words : List ℕ) (list : List Reply) (messages : List Message) (answers : List Reply) (rest : List ℕ) (end : StreamEnd)
    (steps : List (Stepped S)) → words ≡ bytes_of list → list ≡ answers ++ last_replies end → messages_of steps ≡ messages → replies_of steps ≡ answers → Says others arrivals replies
    → Says (record { conn = c; bytes = words } ∷ others) ((map (request_on c) messages ++ fault_between c (unfinished rest) end) ++ arrivals) (answers ++ replies)
says_fed others arrivals replies c words list messages answers rest end steps told lists requests served says conn = by (says conn)
  where
    mine : List Reply
    mine = cond (c == conn) (answers ++ last_replies end) []

    first : cond (c == conn) words [] ≡ bytes_of mine
    first = ap (λ (xs : List ℕ). cond (c == conn) xs []) (told ∙ ap bytes_of lists) ∙ sym (mine_bytes (c == conn) (answers ++ last_replies end))

    stream : cond (c == conn) words [] ++ stream_of others conn ≡ bytes_of mine ++ stream_of others conn
    stream = ap (λ (xs : List ℕ). xs ++ stream_of others conn) first

    whole : bytes_of (replies_on conn ((map (request_on c) messages ++ fault_between c (unfinished rest) end) ++ arrivals) (answers ++ replies)) ≡ bytes_of mine ++ bytes_of (replies_on conn arrivals replies)
    whole = ap bytes_of (replies_fed conn c steps messages answers rest end arrivals replies requests served) ∙ bytes_more mine (replies_on conn arrivals replies)

    by : IsSaid (stream_of others conn) (replies_on conn arrivals replies)
        → IsSaid (cond (c == conn) words [] ++ stream_of others conn) (replies_on conn ((map (request_on c) messages ++ fault_between c (unfinished rest) end) ++ arrivals) (answers ++ replies))
    by (inl e) = inl (stream ∙ ap (λ (xs : List ℕ). bytes_of mine ++ xs) e ∙ sym whole)
    by (inr e) =
        inr (stream ∙ ap (λ (xs : List ℕ). bytes_of mine ++ xs) e ∙ sym (append_assoc (bytes_of mine) (bytes_of (replies_on conn arrivals replies)) farewell)
        ∙ ap (λ (xs : List ℕ). xs ++ farewell) (sym whole))

no_front : (xs ys : List ℕ) → xs ++ ys ≡ [] → xs ≡ []
no_front [] ys e = refl
no_front (x ∷ xs) ys e = absurd cc

none_before : (bytes : List ℕ) (rs : List Reply) → bytes ≡ [] → IsSaid bytes rs → bytes_of rs ≡ []
none_before bytes rs none (inl e) = sym e ∙ none
none_before bytes rs none (inr e) = no_front (bytes_of rs) farewell (sym e ∙ none)

-- the hub refused a piece, and nothing is said behind the farewell
says_farewell : (others : List Piece) (arrivals : List Arrival) (replies : List Reply) (c : ℕ) (words : List ℕ) → words ≡ farewell → stream_of others c ≡ [] → Says others arrivals replies
    → Says (record { conn = c; bytes = words } ∷ others) arrivals replies
says_farewell others arrivals replies c words told none says conn = by (cases_eq conn c)
  where
    by : (conn ≡ c) ⊎ (conn ≢ c) → IsSaid (cond (c == conn) words [] ++ stream_of others conn) (replies_on conn arrivals replies)
    by (inl same) =
        let nothing_more : stream_of others conn ≡ [] = ap (λ (k : ℕ). stream_of others k) same ∙ none in
        let unsaid : bytes_of (replies_on conn arrivals replies) ≡ [] = none_before (stream_of others conn) (replies_on conn arrivals replies) nothing_more (says conn) in
        inr (ap₂ (λ (xs ys : List ℕ). xs ++ ys) (own c conn words (sym same) ∙ told) nothing_more ∙ append-nil farewell ∙ ap (λ (xs : List ℕ). xs ++ farewell) (sym unsaid))
    by (inr apart) = subst (λ (xs : List ℕ). IsSaid xs (replies_on conn arrivals replies)) (sym (ap (λ (xs : List ℕ). xs ++ stream_of others conn) (other c conn words apart))) (says conn)

-- ---- rests

apart_by : (q k : ℕ) (b : Bool) → eq_by_cmp nat_cmp q k ≡ b → q ≢ k → b ≡ false
apart_by q k true is apart = absurd (apart (tells_apart exact_unsigned q k is))
apart_by q k false is apart = refl

new_rest : (t : ConnectionTable) → rest_on (with_connection t) (next_connection t) ≡ Some []
new_rest t =
    let n = t.opened + 1 in
    let low : nat_le 1 n ≡ true = grind (arith, nat_tests) in
    let same : nat_le n n ≡ true = grind (arith, nat_tests) in
    let here : get (insert t.rests n []) n ≡ Some [] = grind (gets, arith) in
    ap (λ (b : Bool). cond b (get (insert t.rests n []) n) None) (ap₂ (λ (x y : Bool). x && y) low same) ∙ here

new_other : (t : ConnectionTable) (k : ℕ) → k ≢ next_connection t → rest_on (with_connection t) k ≡ rest_on t k
new_other t k apart =
    let n = t.opened + 1 in
    let high : nat_le k n ≡ nat_le k t.opened = grind (arith, nat_tests) in
    let there : get (insert t.rests n []) k ≡ get t.rests k = get-insert nat_cmp_total t.rests n [] k ∙ ap (λ (b : Bool). cond b (Some []) (get t.rests k)) (apart_by k n (eq_by_cmp nat_cmp k n) refl apart) in
    ap (λ (b : Bool). cond (nat_le 1 k && b) (get (insert t.rests n []) k) None) high ∙ ap (λ (o : Option (List ℕ)). cond (nat_le 1 k && nat_le k t.opened) o None) there

gone_other : (t : ConnectionTable) (c k : ℕ) → k ≢ c → rest_on (without t c) k ≡ rest_on t k
gone_other t c k apart = by (was_opened t c)
  where
    by : (b : Bool) → rest_on (cond b (with_rest t c None) t) k ≡ rest_on t k
    by true = rest_other t c k None apart
    by false = refl

and_false : (b : Bool) → b && false ≡ false
and_false true = refl
and_false false = refl

-- no number that was not given has a rest
not_given : (t : ConnectionTable) (c : ℕ) (rest : List ℕ) → rest_on t c ≡ Some rest → t.opened < c → ⊥
not_given t c rest at lt =
    let high : nat_le c t.opened ≡ false = grind (arith, nat_tests) in
    (was_open t c (ap (λ (o : Option (List ℕ)). is_some o) at)).0 (ap (λ (b : Bool). nat_le 1 c && b) high ∙ and_false (nat_le 1 c))

module _ {S : Type 0} (g : Ghosts S) where
  -- each connection keeps the rest of what was fed of it, nothing was fed of those to come, and none of these stands
  record Held (d : Desk S) (earlier : List Piece) : Type 0 where
    pub known : (c : ℕ) (s : Standing) (rest : List ℕ) → get d.standings c ≡ Some s → rest_on d.hub.connections c ≡ Some rest
        → (ms : List Message) × Cuts (stream_of earlier c) ms (unfinished rest)
    pub fresh : (c : ℕ) → d.hub.connections.opened < c → stream_of earlier c ≡ []
    pub given : (c : ℕ) (s : Standing) → get d.standings c ≡ Some s → c ≤ d.hub.connections.opened

  held_opened : (old new : Desk S) (earlier : List Piece) (c : ℕ) (words : List ℕ) → Held old earlier → Does g old (opened c) words new → Held new earlier
  held_opened old new earlier c words held (said, next, is) = record {
    known = λ k s rest at on. here k s rest (sym (ap (λ (d : Desk S). get d.standings k) is) ∙ at) (sym (ap (λ (d : Desk S). rest_on d.hub.connections k) is) ∙ on) (cases_eq k c);
    fresh = λ k lt. held.fresh k (let e = ap (λ (d : Desk S). d.hub.connections.opened) is in omega (arith, e, lt));
    given = λ k s at. let e = ap (λ (d : Desk S). d.hub.connections.opened) is in
        let le = stands k s (sym (ap (λ (d : Desk S). get d.standings k) is) ∙ at) (cases_eq k c) in omega (arith, e, le);
  }
    where
      stands : (k : ℕ) (s : Standing) → get (insert old.standings c (serving [])) k ≡ Some s → (k ≡ c) ⊎ (k ≢ c) → k ≤ old.hub.connections.opened + 1
      stands k s at (inl same) = omega (arith, same, next)
      stands k s at (inr apart) =
          let le = held.given k s (sym (insert_other old.standings c k (serving []) apart) ∙ at) in
          omega (arith, le)

      here : (k : ℕ) (s : Standing) (rest : List ℕ) → get (insert old.standings c (serving [])) k ≡ Some s → rest_on (with_connection old.hub.connections) k ≡ Some rest → (k ≡ c) ⊎ (k ≢ c)
          → (ms : List Message) × Cuts (stream_of earlier k) ms (unfinished rest)
      here k s rest at on (inl same) =
          let none : stream_of earlier k ≡ [] = held.fresh k (omega (arith, same, next)) in
          let empty_rest : Some rest ≡ Some [] = sym on ∙ ap (λ (q : ℕ). rest_on (with_connection old.hub.connections) q) (same ∙ next) ∙ new_rest old.hub.connections in
          let is_empty : rest ≡ [] = cc in
          ([], rw (none, is_empty) (Begins-nothing, refl))
      here k s rest at on (inr apart) =
          held.known k s rest (sym (insert_other old.standings c k (serving []) apart) ∙ at)
          (sym (new_other old.hub.connections k (λ e. apart (e ∙ sym next))) ∙ on)

  -- where the hub lets a connection go
  held_gone : (old new : Desk S) (earlier : List Piece) (c : ℕ) → Held old earlier → new.hub.connections ≡ without old.hub.connections c
      → ((k : ℕ) → k ≢ c → get new.standings k ≡ get old.standings k) → ((s : Standing) → get new.standings c ≡ Some s → c ≤ old.hub.connections.opened) → Held new earlier
  held_gone old new earlier c held is same own = record {
    known = λ k s rest at on. here k s rest at (sym (ap (λ (t : ConnectionTable). rest_on t k) is) ∙ on) (cases_eq k c);
    fresh = λ k lt. held.fresh k (let e = ap (λ (t : ConnectionTable). t.opened) is ∙ without_opened old.hub.connections c in omega (arith, e, lt));
    given = λ k s at. let e = ap (λ (t : ConnectionTable). t.opened) is ∙ without_opened old.hub.connections c in
        let le = stands k s at (cases_eq k c) in omega (arith, e, le);
  }
    where
      stands : (k : ℕ) (s : Standing) → get new.standings k ≡ Some s → (k ≡ c) ⊎ (k ≢ c) → k ≤ old.hub.connections.opened
      stands k s at (inl eq) = let le = own s (ap (λ (q : ℕ). get new.standings q) (sym eq) ∙ at) in omega (arith, eq, le)
      stands k s at (inr apart) = held.given k s (sym (same k apart) ∙ at)

      here : (k : ℕ) (s : Standing) (rest : List ℕ) → get new.standings k ≡ Some s → rest_on (without old.hub.connections c) k ≡ Some rest → (k ≡ c) ⊎ (k ≢ c)
          → (ms : List Message) × Cuts (stream_of earlier k) ms (unfinished rest)
      here k s rest at on (inl eq) =
          absurd (true≢false (sym (ap (λ (o : Option (List ℕ)). is_some o) on) ∙ ap (λ (q : ℕ). is_open (without old.hub.connections c) q) eq ∙ ended_here old.hub.connections c))
      here k s rest at on (inr apart) = held.known k s rest (sym (same k apart) ∙ at) (sym (gone_other old.hub.connections c k apart) ∙ on)

  -- where the hub stays
  held_still : (old new : Desk S) (earlier : List Piece) (c : ℕ) (was now : Standing) → Held old earlier → new.hub.connections ≡ old.hub.connections
      → get old.standings c ≡ Some was → new.standings ≡ insert old.standings c now → Held new earlier
  held_still old new earlier c was now held same at is = record {
    known = λ k s rest here on. by k s rest here (sym (ap (λ (t : ConnectionTable). rest_on t k) same) ∙ on) (cases_eq k c);
    fresh = λ k lt. held.fresh k (let e = ap (λ (t : ConnectionTable). t.opened) same in omega (arith, e, lt));
    given = λ k s here. let e = ap (λ (t : ConnectionTable). t.opened) same in let le = stands k s here (cases_eq k c) in omega (arith, e, le);
  }
    where
      stands : (k : ℕ) (s : Standing) → get new.standings k ≡ Some s → (k ≡ c) ⊎ (k ≢ c) → k ≤ old.hub.connections.opened
      stands k s here (inl eq) = let le = held.given c was at in omega (arith, eq, le)
      stands k s here (inr apart) =
          held.given k s (sym (ap (λ (m : FinMap nat_cmp Standing). get m k) is ∙ insert_other old.standings c k now apart) ∙ here)

      by : (k : ℕ) (s : Standing) (rest : List ℕ) → get new.standings k ≡ Some s → rest_on old.hub.connections k ≡ Some rest → (k ≡ c) ⊎ (k ≢ c)
          → (ms : List Message) × Cuts (stream_of earlier k) ms (unfinished rest)
      by k s rest here on (inl eq) = held.known k was rest (ap (λ (q : ℕ). get old.standings q) eq ∙ at) on
      by k s rest here on (inr apart) =
          held.known k s rest (sym (ap (λ (m : FinMap nat_cmp Standing). get m k) is ∙ insert_other old.standings c k now apart) ∙ here) on

  -- where a piece was fed
  held_fed : (old new : Desk S) (earlier : List Piece) (c : ℕ) (was now : Standing) (piece : List ℕ) (list : List Reply) (last : Bool) → Held old earlier
      → IsFed g old.hub c piece list last new.hub → get old.standings c ≡ Some was → new.standings ≡ insert old.standings c now
      → Held new (earlier ++ record { conn = c; bytes = piece } ∷ [])
  held_fed old new earlier c was now piece list last held fed at is = record {
    known = λ k s rest here on. by k s rest here (sym (ap (λ (t : ConnectionTable). rest_on t k) fed.left) ∙ on) (cases_eq k c);
    fresh = λ k lt. let e = ap (λ (t : ConnectionTable). t.opened) fed.left ∙ rest_opened old.hub.connections c (rest_of fed.end) in
        let under : old.hub.connections.opened < k = omega (arith, e, lt) in
        stream_other earlier (record { conn = c; bytes = piece }) k (λ eq. not_given old.hub.connections c fed.rest fed.was (subst (λ (q : ℕ). old.hub.connections.opened < q) eq under)) ∙ held.fresh k under;
    given = λ k s here. let e = ap (λ (t : ConnectionTable). t.opened) fed.left ∙ rest_opened old.hub.connections c (rest_of fed.end) in
        let le = stands k s here (cases_eq k c) in omega (arith, e, le);
  }
    where
      stands : (k : ℕ) (s : Standing) → get new.standings k ≡ Some s → (k ≡ c) ⊎ (k ≢ c) → k ≤ old.hub.connections.opened
      stands k s here (inl eq) = let le = held.given c was at in omega (arith, eq, le)
      stands k s here (inr apart) =
          held.given k s (sym (ap (λ (m : FinMap nat_cmp Standing). get m k) is ∙ insert_other old.standings c k now apart) ∙ here)

      onward : (k : ℕ) (rest : List ℕ) (end : StreamEnd) (ms ns : List Message) → rest_of end ≡ Some rest → Cuts (stream_of earlier k) ms (unfinished fed.rest) → Cuts (fed.rest ++ piece) ns end
          → (l : List Message) × Cuts (stream_of earlier k ++ piece) l (unfinished rest)
      onward k rest (unfinished left) ms ns e before cuts =
          let same : left ≡ rest = cc in
          (ms ++ ns, subst (λ (r : List ℕ). Cuts (stream_of earlier k ++ piece) (ms ++ ns) (unfinished r)) same (Cuts-append (stream_of earlier k) piece ms ns fed.rest (unfinished left) before cuts))
      onward k rest ended ms ns e before cuts = absurd cc
      onward k rest (faulty f) ms ns e before cuts = absurd cc

      by : (k : ℕ) (s : Standing) (rest : List ℕ) → get new.standings k ≡ Some s → rest_on (with_rest old.hub.connections c (rest_of fed.end)) k ≡ Some rest → (k ≡ c) ⊎ (k ≢ c)
          → (ms : List Message) × Cuts (stream_of (earlier ++ record { conn = c; bytes = piece } ∷ []) k) ms (unfinished rest)
      by k s rest here on (inl eq) =
          let left : rest_of fed.end ≡ Some rest = sym (rest_same old.hub.connections c fed.rest (rest_of fed.end) fed.was) ∙ ap (λ (q : ℕ). rest_on (with_rest old.hub.connections c (rest_of fed.end)) q) (sym eq) ∙ on in
          let before = held.known k was fed.rest (ap (λ (q : ℕ). get old.standings q) eq ∙ at) (ap (λ (q : ℕ). rest_on old.hub.connections q) eq ∙ fed.was) in
          let after = onward k rest fed.end before.0 fed.messages left before.1 fed.cuts in
          (after.0, subst (λ (l : List ℕ). Cuts l after.0 (unfinished rest)) (sym (stream_own earlier (record { conn = c; bytes = piece }) k eq)) after.1)
      by k s rest here on (inr apart) =
          let before = held.known k s rest (sym (ap (λ (m : FinMap nat_cmp Standing). get m k) is ∙ insert_other old.standings c k now apart) ∙ here)
          (sym (rest_other old.hub.connections c k (rest_of fed.end) apart) ∙ on) in
          (before.0, subst (λ (l : List ℕ). Cuts l before.0 (unfinished rest)) (sym (stream_other earlier (record { conn = c; bytes = piece }) k apart)) before.1)

  -- ---- what is said

  -- a connection whose number was given, and which isn't served any more
  record IsQuiet (conn : ℕ) (d : Desk S) : Type 0 where
    pub still : conn ≤ d.hub.connections.opened
    pub unserved : (owed : List ℕ) → get d.standings conn ≢ Some (serving owed)

  not_serving : (x : Standing) (owed left : List ℕ) → ((bytes : List ℕ) → x ≢ serving bytes) → with_owed x left ≢ serving owed
  not_serving (serving bytes) owed left un e = un bytes refl
  not_serving (ending bytes) owed left un e = absurd cc
  not_serving given_up owed left un e = absurd cc

  some_standing : (x y : Standing) → Some x ≡ Some y → x ≡ y
  some_standing x y e = cc

  -- it stays so, and no act says anything to it
  quiet_does : (conn : ℕ) (old new : Desk S) (a : Act) (words : List ℕ) → IsQuiet conn old → Does g old a words new → IsQuiet conn new × (cond (conn_of a == conn) words [] ≡ [])
  quiet_does conn old new accepted words q (said, is) = (subst (λ (d : Desk S). IsQuiet conn d) (sym is) q, nothing (0 == conn) words said)
  quiet_does conn old new (opened c) words q (said, next, is) = (
    record {
      still = let e = ap (λ (d : Desk S). d.hub.connections.opened) is in let le = q.still in omega (arith, e, le);
      unserved = λ owed at. q.unserved owed (sym (ap (λ (d : Desk S). get d.standings conn) is
          ∙ insert_other old.standings c conn (serving []) (λ e. let le = q.still in omega (arith, e, next, le))) ∙ at);
    },
    nothing (c == conn) words said,
  )
  quiet_does conn old new (closed c) words q (said, is) = (
    record {
      still = let e = ap (λ (d : Desk S). d.hub.connections.opened) is ∙ without_opened old.hub.connections c in let le = q.still in omega (arith, e, le);
      unserved = λ owed at. by owed (sym (ap (λ (d : Desk S). get d.standings conn) is) ∙ at) (cases_eq conn c);
    },
    nothing (c == conn) words said,
  )
    where
      by : (owed : List ℕ) → get (remove old.standings c) conn ≡ Some (serving owed) → (conn ≡ c) ⊎ (conn ≢ c) → ⊥
      by owed at (inl same) =
          let gone : None ≡ Some (serving owed) = sym (ap (λ (k : ℕ). get (remove old.standings c) k) same ∙ remove_here old.standings c) ∙ at in cc
      by owed at (inr apart) = q.unserved owed (sym (remove_other old.standings c conn apart) ∙ at)
  quiet_does conn old new (took c bytes) words q (was, left, at, owed, said, is) = (
    record {
      still = let e = ap (λ (d : Desk S). d.hub.connections.opened) is in let le = q.still in omega (arith, e, le);
      unserved = λ o there. by o (sym (ap (λ (d : Desk S). get d.standings conn) is) ∙ there) (cases_eq conn c);
    },
    nothing (c == conn) words said,
  )
    where
      by : (o : List ℕ) → get (insert old.standings c (with_owed was left)) conn ≡ Some (serving o) → (conn ≡ c) ⊎ (conn ≢ c) → ⊥
      by o there (inl same) =
          not_serving was o left (λ bytes e. q.unserved bytes (ap (λ (k : ℕ). get old.standings k) same ∙ at ∙ ap Some e))
          (some_standing (with_owed was left) (serving o) (sym (ap (λ (k : ℕ). get (insert old.standings c (with_owed was left)) k) same ∙ insert_here old.standings c (with_owed was left)) ∙ there))
      by o there (inr apart) =
          q.unserved o (sym (insert_other old.standings c conn (with_owed was left) apart) ∙ there)
  quiet_does conn old new (brought c bytes) words q (was, now, at, takes, is) = by (cases_eq conn c)
    where
      seat : Seat S
      seat = record { hub = old.hub; standing = was }

      piece : Piece
      piece = record { conn = c; bytes = bytes }

      still : conn ≤ new.hub.connections.opened
      still = let e = ap (λ (d : Desk S). d.hub.connections.opened) is ∙ piece_opened g seat now piece words takes in let le = q.still in omega (arith, e, le)

      passed : (x y : Seat S) → ((owed : List ℕ) → x.standing ≢ serving owed) → TakesPiece g x piece words y → (words ≡ []) × ((owed : List ℕ) → y.standing ≢ serving owed)
      passed x y un (inl feeds) = absurd (un [] feeds.free)
      passed x y un (inr (inl refuses)) = absurd (un [] refuses.free)
      passed x y un (inr (inr (stood, said, same))) = (said, λ owed e. un owed (sym (ap (λ (s : Seat S). s.standing) same) ∙ e))

      by : (conn ≡ c) ⊎ (conn ≢ c) → IsQuiet conn new × (cond (c == conn) words [] ≡ [])
      by (inl same) =
          let p = passed seat now (λ owed e. q.unserved owed (ap (λ (k : ℕ). get old.standings k) same ∙ at ∙ ap Some e)) takes in (
            record {
              still = still;
              unserved = λ o there. p.1 o (some_standing now.standing (serving o) (sym (ap (λ (d : Desk S). get d.standings conn) is ∙ ap (λ (k : ℕ). get (insert old.standings c now.standing) k) same ∙ insert_here old.standings c now.standing) ∙ there));
            },
            nothing (c == conn) words p.0,
          )
      by (inr apart) = (
        record {
          still = still;
          unserved = λ o there. q.unserved o (sym (ap (λ (d : Desk S). get d.standings conn) is ∙ insert_other old.standings c conn now.standing apart) ∙ there);
        },
        other c conn words apart,
      )

  quiet_says : (conn : ℕ) (old new : Desk S) (deeds : List Deed) → IsQuiet conn old → Runs g old deeds new → stream_of (said_in deeds) conn ≡ []
  quiet_says conn old new [] q is = refl
  quiet_says conn old new (d ∷ deeds) q (between, does, rest) =
      let first = quiet_does conn old between d.act d.words q does in
      ap (λ (xs : List ℕ). xs ++ stream_of (said_in deeds) conn) first.1 ∙ quiet_says conn between new deeds first.0 rest

  -- so it is where the hub refused a piece
  refused_quiet : (old new : Desk S) (c : ℕ) (now : Seat S) → now.hub ≡ hub_without c old.hub → c ≤ old.hub.connections.opened
      → new ≡ record { hub = now.hub; standings = insert old.standings c now.standing } → Owes now.standing true farewell → IsQuiet c new
  refused_quiet old new c now gone le is owes = record {
    still = let e = ap (λ (d : Desk S). d.hub.connections.opened) is ∙ ap (λ (h : HubState S). h.connections.opened) gone ∙ without_opened old.hub.connections c in omega (arith, e, le);
    unserved = λ o there. by now.standing owes o (some_standing now.standing (serving o) (sym (ap (λ (d : Desk S). get d.standings c) is ∙ insert_here old.standings c now.standing) ∙ there));
  }
    where
      by : (x : Standing) → Owes x true farewell → (o : List ℕ) → x ≢ serving o
      by (serving bytes) (last, said, bound) o e = true≢false last
      by (ending bytes) owes o e = absurd cc
      by given_up owes o e = absurd cc

  -- ---- what is handled

  -- these pieces bring arrivals whose requests are served in order, and their replies were said
  abbrev Handled : Serving S → List Piece → List Piece → List Piece → S → Type 0
  Handled node earlier pieces said after =
      (arrivals : List Arrival) × (replies : List Reply) × Arrives earlier pieces arrivals × RepliesInOrder g node.configuration node.store (requests_of arrivals) replies after
      × Says said arrivals replies

  -- the same behind an act by which nothing is said
  quietly : (old node : Serving S) (earlier pieces others : List Piece) (after : S) (c : ℕ) (words : List ℕ) → words ≡ [] → node ≡ old → Handled node earlier pieces others after
      → Handled old earlier pieces (record { conn = c; bytes = words } ∷ others) after
  quietly old node earlier pieces others after c words none same handled =
      let (arrivals, replies, arrive, serve, says) = subst (λ (n : Serving S). Handled n earlier pieces others after) same handled in
      (arrivals, replies, arrive, serve, says_quiet others arrivals replies c words none says)

  -- a piece was fed
  fed_handled : (old between new : Desk S) (deeds : List Deed) (earlier : List Piece) (c : ℕ) (bytes words : List ℕ) (was now : Standing) (list : List Reply) (last : Bool) (rest : Runs g between deeds new)
      → Held old earlier → g.is_honest new.hub.node.store → get old.standings c ≡ Some was → IsFed g old.hub c bytes list last between.hub → between.hub.node.configuration ≡ old.hub.node.configuration
      → words ≡ bytes_of list → between.standings ≡ insert old.standings c now
      → ((pieces : List Piece) → Held between pieces → Handled between.hub.node pieces (fed_in g between deeds new rest) (said_in deeds) new.hub.node.store)
      → Handled old.hub.node earlier (record { conn = c; bytes = bytes } ∷ fed_in g between deeds new rest) (record { conn = c; bytes = words } ∷ said_in deeds) new.hub.node.store
  fed_handled old between new deeds earlier c bytes words was now list last rest held honest at fed configured told stands more_of =
      let before = held.known c was fed.rest at fed.was in
      let more = more_of (earlier ++ record { conn = c; bytes = bytes } ∷ []) (held_fed old between earlier c was now bytes list last held fed at stands) in
      let first = map (request_on c) fed.messages ++ fault_between c (unfinished fed.rest) fed.end in
      let kept = fed.serves ((runs_keep g between new deeds rest).1.honest honest) in
      let later = subst (λ (n : Configuration). RepliesInOrder g n between.hub.node.store (requests_of more.0) more.1 new.hub.node.store) configured more.3 in (
        first ++ more.0,
        fed.answers ++ more.1,
        (
          first,
          more.0,
          record {
            old = before.0;
            before = unfinished fed.rest;
            held = before.1;
            new = fed.messages;
            after = fed.end;
            holds = Cuts-append (stream_of earlier c) bytes before.0 fed.messages fed.rest fed.end before.1 fed.cuts;
            order = refl;
          },
          more.2,
          refl,
        ),
        subst (λ (ms : List Message). RepliesInOrder g old.hub.node.configuration old.hub.node.store ms (fed.answers ++ more.1) new.hub.node.store)
            (sym (requests_more first more.0 ∙ ap (λ (ms : List Message). ms ++ requests_of more.0) (requests_first c fed.messages fed.rest fed.end)))
            (serves_then g old.hub.node.configuration old.hub.node.store between.hub.node.store new.hub.node.store fed.messages (requests_of more.0) fed.answers more.1 kept later),
        says_fed (said_in deeds) more.0 more.1 c words list fed.messages fed.answers fed.rest fed.end kept.steps told fed.replies kept.requests kept.answers more.4,
      )

  -- an act, where those behind it are handled
  act_handled : (old between new : Desk S) (deeds : List Deed) (act : Act) (words : List ℕ) (earlier : List Piece) (does : Does g old act words between) (rest : Runs g between deeds new)
      → Held old earlier → g.is_honest new.hub.node.store
      → ((pieces : List Piece) → Held between pieces → Handled between.hub.node pieces (fed_in g between deeds new rest) (said_in deeds) new.hub.node.store)
      → Handled old.hub.node earlier (fed_by g old act words between does ++ fed_in g between deeds new rest) (record { conn = conn_of act; bytes = words } ∷ said_in deeds) new.hub.node.store
  act_handled old between new deeds accepted words earlier (quiet, is) rest held honest more =
      quietly old.hub.node between.hub.node earlier (fed_in g between deeds new rest) (said_in deeds) new.hub.node.store 0 words quiet (ap (λ (d : Desk S). d.hub.node) is)
      (more earlier (subst (λ (d : Desk S). Held d earlier) (sym is) held))
  act_handled old between new deeds (opened c) words earlier (quiet, next, is) rest held honest more =
      quietly old.hub.node between.hub.node earlier (fed_in g between deeds new rest) (said_in deeds) new.hub.node.store c words quiet (ap (λ (d : Desk S). d.hub.node) is)
      (more earlier (held_opened old between earlier c words held (quiet, next, is)))
  act_handled old between new deeds (closed c) words earlier (quiet, is) rest held honest more =
      quietly old.hub.node between.hub.node earlier (fed_in g between deeds new rest) (said_in deeds) new.hub.node.store c words quiet (ap (λ (d : Desk S). d.hub.node) is)
      (more earlier (held_gone old between earlier c held (ap (λ (d : Desk S). d.hub.connections) is)
      (λ k apart. ap (λ (d : Desk S). get d.standings k) is ∙ remove_other old.standings c k apart)
      (λ s at. absurd (let gone : None ≡ Some s = sym (ap (λ (d : Desk S). get d.standings c) is ∙ remove_here old.standings c) ∙ at in cc))))
  act_handled old between new deeds (took c bytes) words earlier (was, left, at, owed, quiet, is) rest held honest more =
      quietly old.hub.node between.hub.node earlier (fed_in g between deeds new rest) (said_in deeds) new.hub.node.store c words quiet (ap (λ (d : Desk S). d.hub.node) is)
      (more earlier (held_still old between earlier c was (with_owed was left) held (ap (λ (d : Desk S). d.hub.connections) is) at (ap (λ (d : Desk S). d.standings) is)))
  act_handled old between new deeds (brought c bytes) words earlier (was, now, at, inl feeds, is) rest held honest more =
      fed_handled old between new deeds earlier c bytes words was now.standing feeds.replies feeds.last rest held honest at
      (subst (λ (h : HubState S). IsFed g old.hub c bytes feeds.replies feeds.last h) (sym (ap (λ (d : Desk S). d.hub) is)) feeds.fed)
      (ap (λ (d : Desk S). d.hub.node.configuration) is ∙ feeds.configuration) feeds.said (ap (λ (d : Desk S). d.standings) is) more
  act_handled old between new deeds (brought c bytes) words earlier (was, now, at, inr (inl refuses), is) rest held honest more =
      let hub_is : between.hub ≡ hub_without c old.hub = ap (λ (d : Desk S). d.hub) is ∙ refuses.ended in
      let given = held.given c was at in
      let quiet = refused_quiet old between c now refuses.ended given is (subst (λ (ws : List ℕ). Owes now.standing true ws) refuses.said refuses.owes) in
      let handled = subst (λ (n : Serving S). Handled n earlier (fed_in g between deeds new rest) (said_in deeds) new.hub.node.store) (ap (λ (h : HubState S). h.node) hub_is)
      (more earlier (held_gone old between earlier c held (ap (λ (h : HubState S). h.connections) hub_is)
      (λ k apart. ap (λ (d : Desk S). get d.standings k) is ∙ insert_other old.standings c k now.standing apart)
      (λ s there. given))) in
      (handled.0, handled.1, handled.2, handled.3, says_farewell (said_in deeds) handled.0 handled.1 c words refuses.said (quiet_says c between new deeds quiet rest) handled.4)
  act_handled old between new deeds (brought c bytes) words earlier (was, now, at, inr (inr (stood, quiet, same)), is) rest held honest more =
      let hub_is : between.hub ≡ old.hub = ap (λ (d : Desk S). d.hub) is ∙ ap (λ (s : Seat S). s.hub) same in
      quietly old.hub.node between.hub.node earlier (fed_in g between deeds new rest) (said_in deeds) new.hub.node.store c words quiet (ap (λ (h : HubState S). h.node) hub_is)
      (more earlier (held_still old between earlier c was now.standing held (ap (λ (h : HubState S). h.connections) hub_is) at (ap (λ (d : Desk S). d.standings) is)))

  handled_in : (old new : Desk S) (deeds : List Deed) (earlier : List Piece) (runs : Runs g old deeds new) → Held old earlier → g.is_honest new.hub.node.store
      → Handled old.hub.node earlier (fed_in g old deeds new runs) (said_in deeds) new.hub.node.store
  handled_in old new [] earlier is held honest =
      ([], [], refl, subst (λ (d : Desk S). RepliesInOrder g old.hub.node.configuration old.hub.node.store [] [] d.hub.node.store) (sym is) (serves_none g old.hub.node.configuration old.hub.node.store), says_nothing)
  handled_in old new (d ∷ deeds) earlier (between, does, rest) held honest =
      act_handled old between new deeds d.act d.words earlier does rest held honest (λ pieces known. handled_in between new deeds pieces rest known honest)

  all_handled : (hub : HubState S) (deeds : List Deed) (new : Desk S) (runs : Runs g (record { hub = hub; standings = empty }) deeds new) → g.is_honest new.hub.node.store
      → Handled hub.node [] (fed_in g (record { hub = hub; standings = empty }) deeds new runs) (said_in deeds) new.hub.node.store
  all_handled hub deeds new runs honest =
      handled_in (record { hub = hub; standings = empty }) new deeds [] runs
      (record {
        known = λ c s rest at on. let e = sym at ∙ get-empty nat_cmp c in absurd cc;
        fresh = λ c lt. refl;
        given = λ c s at. let e = sym at ∙ get-empty nat_cmp c in absurd cc;
      }) honest

  pub handles_all : HandlesInOrder g
  handles_all hub deeds new runs honest =
      let h = all_handled hub deeds new runs honest in record { arrivals = h.0; replies = h.1; arrives = h.2; handled = h.3 }

  pub says_all : SaysInOrder g
  says_all hub deeds new runs honest =
      let h = all_handled hub deeds new runs honest in (record { arrivals = h.0; replies = h.1; arrives = h.2; handled = h.3 }, h.4)
