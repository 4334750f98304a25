-- The service of a connection, a read after another.
use Rattle.std.proofs.Common.{◌≡◌, ◌≢◌, ◌⊎◌, inl, inr, ◌∙◌, ℕ, ◌+◌, ◌≤◌, Bool, true, false, cond, List, [], ◌∷◌, ◌++◌, length, Option, None, Some, is_some, if◌then◌else◌, refl, sym, ap, ap₂, subst, append_assoc, append-nil, true≢false, arith, nat_le, take, ◌&&◌}
use Rattle.std.proofs.KnownBytes.{Appends-nil, Appends-trans, Consumes-kept, Consumes-nil, Consumes-trans}
use Rattle.std.proofs.lemmas.Grind.{flat_map-append}
use Rattle.std.proofs.lemmas.Bool.Decides.{nat_tests}
use Rattle.std.proofs.lemmas.List.{length-append}
use Rattle.std.specs.Cmp.{eq_by_cmp_equiv, nat_cmp_total}
use Rattle.std.specs.FinMap.{get, get-insert, get-remove, insert, remove}
use Rattle.std.specs.Io.KnownBytes.{Appends, Consumes, IsAtEnd, Keeps}
use Rattle.std.specs.List.{AllByRecursion, flat_map}
use Rattle.std.specs.Ordering.{eq_by_cmp, nat_cmp}
use Rattle.couch_http.specs.Reply.{Reply}
use Rattle.couch_http.specs.Stream.{StreamEnd, unfinished, ended, faulty}
use Rattle.store.specs.declared.store.Store.{Ghosts}
use Rattle.hub.specs.Connections.{ConnectionTable, is_open, next_connection, rest_on, was_opened, with_connection, with_rest, without}
use Rattle.hub.specs.Endings.{is_last, rest_of}
use Rattle.hub.specs.Feeding.{HubState, IsFed}
use Rattle.couch_http.specs.Writing.{Takes}
use Rattle.hub.specs.Service.{AreFed, IsServed, Link, Serves, bytes_of, end_after_farewell, end_after_replies, farewell, greatest_piece}
use Rattle.hub.specs.declared.service_end.ServiceEnd.{ServiceEnd}
use Rattle.hub.specs.declared.service_end.ServiceEnd.TheVariants.{LastReply, EndOfInput, WriteFailed, Memory}

-- ---- open and ended connections

same_number : (k : ℕ) → eq_by_cmp nat_cmp k k ≡ true
same_number k = (eq_by_cmp_equiv nat_cmp_total).refl k

kept_here : (t : ConnectionTable) (conn : ℕ) (rest : List ℕ) → was_opened t conn ≡ true → is_open (with_rest t conn (Some rest)) conn ≡ true
kept_here t conn rest was =
    ap (λ (b : Bool). is_some (if b then get (insert t.rests conn rest) conn else None)) was
    ∙ ap (λ (o : Option (List ℕ)). is_some o) (get-insert nat_cmp_total t.rests conn rest conn ∙ ap (λ (b : Bool). cond b (Some rest) (get t.rests conn)) (same_number conn))

none_here : (t : ConnectionTable) (conn : ℕ) → is_open (with_rest t conn None) conn ≡ false
none_here t conn = by (was_opened t conn)
  where
    gone : get (remove t.rests conn) conn ≡ None
    gone = get-remove nat_cmp_total t.rests conn conn ∙ ap (λ (b : Bool). cond b None (get t.rests conn)) (same_number conn)

    by : (b : Bool) → is_some (if b then get (remove t.rests conn) conn else None) ≡ false
    by true = ap (λ (o : Option (List ℕ)). is_some o) gone
    by false = refl

pub ended_here : (t : ConnectionTable) (conn : ℕ) → is_open (without t conn) conn ≡ false
ended_here t conn = by (was_opened t conn) refl
  where
    by : (b : Bool) → was_opened t conn ≡ b → is_open (if b then with_rest t conn None else t) conn ≡ false
    by true is = none_here t conn
    by false is = ap (λ (b : Bool). is_some (if b then get t.rests conn else None)) is

-- an open connection has a rest, and was opened
opened_of : (t : ConnectionTable) (conn : ℕ) → is_open t conn ≡ true → was_opened t conn ≡ true
opened_of t conn h = by (was_opened t conn) refl
  where
    by : (b : Bool) → was_opened t conn ≡ b → was_opened t conn ≡ true
    by true is = is
    by false is = absurd (true≢false (sym h ∙ ap (λ (b : Bool). is_some (if b then get t.rests conn else None)) is))

pub was_open : (t : ConnectionTable) (conn : ℕ) → is_open t conn ≡ true → (was_opened t conn ≢ false) × (rest_on t conn ≢ None)
was_open t conn h =
    (λ no. true≢false (sym (opened_of t conn h) ∙ no), λ none. true≢false (sym h ∙ ap (λ (o : Option (List ℕ)). is_some o) none))

-- a new connection is open, and the next one is not yet
pub new_is_open : (t : ConnectionTable) → is_open (with_connection t) (next_connection t) ≡ true
new_is_open t =
    let n = t.opened + 1 in
    let low : nat_le 1 n ≡ true = grind (arith, nat_tests) in
    let same : nat_le n n ≡ true = grind (arith, nat_tests) in
    ap (λ (b : Bool). is_some (if b then get (insert t.rests n []) n else None)) (ap₂ (λ (x y : Bool). x && y) low same)
    ∙ ap (λ (o : Option (List ℕ)). is_some o) (get-insert nat_cmp_total t.rests n [] n ∙ ap (λ (b : Bool). cond b (Some []) (get t.rests n)) (same_number n))

-- the piece that doesn't end a connection leaves it open
pub open_after : {S : Type 0} (g : Ghosts S) (old new : HubState S) (conn : ℕ) (piece : List ℕ) (list : List Reply) (last : Bool) → is_open old.connections conn ≡ true
    → IsFed g old conn piece list last new → (last ≡ false → is_open new.connections conn ≡ true) × (last ≡ true → is_open new.connections conn ≡ false)
open_after {S} g old new conn piece list last was f = by f.end refl
  where
    by : (end : StreamEnd) → f.end ≡ end → (last ≡ false → is_open new.connections conn ≡ true) × (last ≡ true → is_open new.connections conn ≡ false)
    by (unfinished rest) is = (
      λ _. ap (λ (t : ConnectionTable). is_open t conn) (f.left ∙ ap (λ (e : StreamEnd). with_rest old.connections conn (rest_of e)) is) ∙ kept_here old.connections conn rest (opened_of old.connections conn was),
      λ yes. absurd (true≢false (sym yes ∙ f.ends ∙ ap is_last is)),
    )
    by ended is = (
      λ no. absurd (true≢false (sym (f.ends ∙ ap is_last is) ∙ no)),
      λ _. ap (λ (t : ConnectionTable). is_open t conn) (f.left ∙ ap (λ (e : StreamEnd). with_rest old.connections conn (rest_of e)) is) ∙ none_here old.connections conn,
    )
    by (faulty fault) is = (
      λ no. absurd (true≢false (sym (f.ends ∙ ap is_last is) ∙ no)),
      λ _. ap (λ (t : ConnectionTable). is_open t conn) (f.left ∙ ap (λ (e : StreamEnd). with_rest old.connections conn (rest_of e)) is) ∙ none_here old.connections conn,
    )

-- ---- pieces

fed_more : {S : Type 0} (g : Ghosts S) (old mid new : HubState S) (conn : ℕ) (ps qs : List (List ℕ)) (rs ss : List Reply)
    → AreFed g old conn ps rs mid → AreFed g mid conn qs ss new → AreFed g old conn (ps ++ qs) (rs ++ ss) new
fed_more {S} g old mid new conn [] qs rs ss first more = rw first.0 (subst (λ (s : HubState S). AreFed g s conn qs ss new) first.1 more)
fed_more {S} g old mid new conn (p ∷ ps) qs rs ss (list, others, last, between, fed, rest, is) more = (
  list,
  others ++ ss,
  last,
  between,
  fed,
  fed_more g between mid new conn ps qs others ss rest more,
  ap (λ (l : List Reply). l ++ ss) is ∙ append_assoc list others ss,
)

all_more : {X : Type 0} (P : X → Type 0) (xs ys : List X) → AllByRecursion P xs → AllByRecursion P ys → AllByRecursion P (xs ++ ys)
all_more P [] ys h k = k
all_more P (x ∷ xs) ys h k = (h.0, all_more P xs ys h.1 k)

-- ---- what was served so far, and more

module _ {S : Type 0} (g : Ghosts S) (old mid new : HubState S) (conn : ℕ) where
  pub served_more : (end : Option ServiceEnd) (n m : ℕ) (read more written also : List ℕ)
      → IsServed g old conn None n read written mid → IsServed g mid conn end m more also new → IsServed g old conn end (n + m) (read ++ more) (written ++ also) new
  served_more end n m read more written also a b =
      let none : (a.unfed ≡ []) × (a.words ≡ []) = quiet a.refused in
      let said : written ≡ bytes_of a.replies = a.whole (λ e. absurd (let x = e in cc)) ∙ ap (λ (l : List ℕ). bytes_of a.replies ++ l) none.1 ∙ append-nil (bytes_of a.replies) in
      let all : bytes_of (a.replies ++ b.replies) ++ b.words ≡ written ++ (bytes_of b.replies ++ b.words) =
      ap (λ (l : List ℕ). l ++ b.words) (flat_map-append (λ (r : Reply). r.bytes) a.replies b.replies) ∙ append_assoc (bytes_of a.replies) (bytes_of b.replies) b.words
      ∙ ap (λ (l : List ℕ). l ++ (bytes_of b.replies ++ b.words)) (sym said) in
      let first : flat_map (λ p. p) a.pieces ≡ read = sym (append-nil (flat_map (λ p. p) a.pieces)) ∙ ap (λ (l : List ℕ). flat_map (λ p. p) a.pieces ++ l) (sym none.0) ∙ a.all_read in
      record {
        pieces = a.pieces ++ b.pieces;
        counted = length-append a.pieces b.pieces ∙ ap (λ (k : ℕ). k + length b.pieces) a.counted ∙ ap (λ (k : ℕ). n + k) b.counted;
        sized = all_more _ a.pieces b.pieces a.sized b.sized;
        replies = a.replies ++ b.replies;
        fed = fed_more g old mid new conn a.pieces b.pieces a.replies b.replies a.fed b.fed;
        unfed = b.unfed;
        words = b.words;
        refused = b.refused;
        all_read = ap (λ (l : List ℕ). l ++ b.unfed) (flat_map-append (λ p. p) a.pieces b.pieces) ∙ append_assoc (flat_map (λ p. p) a.pieces) (flat_map (λ p. p) b.pieces) b.unfed
            ∙ ap (λ (l : List ℕ). l ++ (flat_map (λ p. p) b.pieces ++ b.unfed)) first ∙ ap (λ (l : List ℕ). read ++ l) b.all_read;
        wrote = (b.wrote.0, append_assoc written also b.wrote.0 ∙ ap (λ (l : List ℕ). written ++ l) b.wrote.1 ∙ sym all);
        whole = λ unfailed. ap (λ (l : List ℕ). written ++ l) (b.whole unfailed) ∙ sym all;
        memory = b.memory;
        goes_on = b.goes_on;
        last = b.last;
      }
    where
      quiet : {unfed words : List ℕ} → ((unfed ≡ []) × (words ≡ [])) ⊎ ((words ≡ farewell) × ((None ≡ Some Memory) ⊎ (None ≡ Some WriteFailed))) → (unfed ≡ []) × (words ≡ [])
      quiet (inl h) = h
      quiet (inr (h, inl e)) = absurd (cc)
      quiet (inr (h, inr e)) = absurd (cc)

pub serves_more : {S : Type 0} (g : Ghosts S) (conn : ℕ) (end : Option ServiceEnd) (n m : ℕ) {old mid new : Link S} → Serves g conn None n old mid → Serves g conn end m mid new
    → Serves g conn end (n + m) old new
serves_more g conn end n m {old} {mid} {new} a b = record {
  read = a.read ++ b.read;
  written = a.written ++ b.written;
  consumes = Consumes-trans old.input mid.input new.input a.read b.read a.consumes b.consumes;
  appends = Appends-trans old.output mid.output new.output a.written b.written a.appends b.appends;
  at_end = b.at_end;
  served = served_more g old.hub mid.hub new.hub conn end n m a.read b.read a.written b.written a.served b.served;
}

-- nothing was read or written yet, or any more
pub served_none : {S : Type 0} (g : Ghosts S) (old : HubState S) (conn : ℕ) (end : Option ServiceEnd) → end ≢ Some Memory → end ≢ Some LastReply
    → is_open old.connections conn ≡ true → IsServed g old conn end 0 [] [] old
served_none g old conn end no_memory no_last was = record {
  pieces = [];
  counted = refl;
  sized = tt;
  replies = [];
  fed = (refl, refl);
  unfed = [];
  words = [];
  refused = inl (refl, refl);
  all_read = refl;
  wrote = ([], refl);
  whole = λ _. refl;
  memory = λ e. absurd (no_memory e);
  goes_on = λ _. was;
  last = λ e. absurd (no_last e);
}

pub serves_none : {S : Type 0} (g : Ghosts S) (old : HubState S) (conn : ℕ) (end : Option ServiceEnd) (input rest output : Option (List ℕ)) → end ≢ Some Memory → end ≢ Some LastReply
    → Consumes input rest [] → (end ≡ Some EndOfInput → IsAtEnd rest) → is_open old.connections conn ≡ true
    → Serves g conn end 0 (record { hub = old; input = input; output = output }) (record { hub = old; input = rest; output = output })
serves_none g old conn end input rest output no_memory no_last unread at was = record {
  read = [];
  written = [];
  consumes = unread;
  appends = Appends-nil output;
  at_end = at;
  served = served_none g old conn end no_memory no_last was;
}

pub unread : (a b : Option (List ℕ)) → Keeps a b → Consumes a b []
unread a b kept = Consumes-kept a a b [] (Consumes-nil a) kept

pub nothing_read : (a b : Option (List ℕ)) (n : ℕ) (xs : List ℕ) → n ≡ 0 → Consumes a b (take n xs) → Consumes a b []
nothing_read a b n xs none h = subst (λ (k : ℕ). Consumes a b (take k xs)) none h

-- what goes on may end for another reason than a reply
pub served_up : {S : Type 0} (g : Ghosts S) (old new : HubState S) (conn n : ℕ) (read written : List ℕ) (end : Option ServiceEnd) → end ≢ Some Memory → end ≢ Some LastReply
    → IsServed g old conn None n read written new → IsServed g old conn end n read written new
served_up g old new conn n read written end no_memory no_last h = record {
  pieces = h.pieces;
  counted = h.counted;
  sized = h.sized;
  replies = h.replies;
  fed = h.fed;
  unfed = h.unfed;
  words = h.words;
  refused = quiet h.refused;
  all_read = h.all_read;
  wrote = h.wrote;
  whole = λ _. h.whole (λ e. absurd (let x = e in cc));
  memory = λ e. absurd (no_memory e);
  goes_on = λ _. h.goes_on refl;
  last = λ e. absurd (no_last e);
}
  where
    quiet : {unfed words : List ℕ} → ((unfed ≡ []) × (words ≡ [])) ⊎ ((words ≡ farewell) × ((None ≡ Some Memory) ⊎ (None ≡ Some WriteFailed)))
        → ((unfed ≡ []) × (words ≡ [])) ⊎ ((words ≡ farewell) × ((end ≡ Some Memory) ⊎ (end ≡ Some WriteFailed)))
    quiet (inl h) = inl h
    quiet (inr (h, inl e)) = absurd (cc)
    quiet (inr (h, inr e)) = absurd (cc)

pub serves_up : {S : Type 0} (g : Ghosts S) (old new : Link S) (conn n : ℕ) (end : Option ServiceEnd) → end ≢ Some Memory → end ≢ Some LastReply → end ≢ Some EndOfInput
    → Serves g conn None n old new → Serves g conn end n old new
serves_up g old new conn n end no_memory no_last no_end h = record {
  read = h.read;
  written = h.written;
  consumes = h.consumes;
  appends = h.appends;
  at_end = λ e. absurd (no_end e);
  served = served_up g old.hub new.hub conn n h.read h.written end no_memory no_last h.served;
}

-- ---- one piece

-- its replies were written, or a first part of them
pub piece_served : {S : Type 0} (g : Ghosts S) (old new : HubState S) (conn : ℕ) (piece : List ℕ) (list : List Reply) (last whole : Bool) (output after : Option (List ℕ))
    → is_open old.connections conn ≡ true → length piece ≤ greatest_piece → IsFed g old conn piece list last new → Takes output after (bytes_of list) whole
    → (written : List ℕ) × Appends output after written × IsServed g old conn (end_after_replies whole last) 1 piece written new
piece_served {S} g old new conn piece list last whole output after was small f t = (t.0, t.1, by whole last refl refl)
  where
    open_now : (last ≡ false → is_open new.connections conn ≡ true) × (last ≡ true → is_open new.connections conn ≡ false)
    open_now = open_after g old new conn piece list last was f

    wrote_of : (r : List ℕ) → t.0 ++ r ≡ bytes_of list → t.0 ++ r ≡ bytes_of list ++ []
    wrote_of r e = e ∙ sym (append-nil (bytes_of list))

    made : (end : Option ServiceEnd) → (end ≢ Some WriteFailed → whole ≡ true) → (end ≡ Some Memory → ⊥) → (end ≡ None → last ≡ false) → (end ≡ Some LastReply → last ≡ true)
        → IsServed g old conn end 1 piece t.0 new
    made end all no_memory on off = record {
      pieces = piece ∷ [];
      counted = refl;
      sized = (small, tt);
      replies = list;
      fed = (list, [], last, new, f, (refl, refl), sym (append-nil list));
      unfed = [];
      words = [];
      refused = inl (refl, refl);
      all_read = append-nil (piece ++ []) ∙ append-nil piece;
      wrote = (t.2.0, wrote_of t.2.0 t.2.1);
      whole = λ unfailed. t.3 (all unfailed) ∙ sym (append-nil (bytes_of list));
      memory = λ e. absurd (no_memory e);
      goes_on = λ e. open_now.0 (on e);
      last = λ e. open_now.1 (off e);
    }

    by : (w l : Bool) → whole ≡ w → last ≡ l → IsServed g old conn (end_after_replies w l) 1 piece t.0 new
    by true true is at = made (Some LastReply) (λ _. is) (λ e. absurd (cc)) (λ e. absurd (cc)) (λ _. at)
    by true false is at = made None (λ _. is) (λ e. absurd (cc)) (λ _. at) (λ e. absurd (cc))
    by false l is at = made (Some WriteFailed) (λ no. absurd (no refl)) (λ e. absurd (cc)) (λ e. absurd (cc)) (λ e. absurd (cc))

-- memory ran out, and the farewell was written, or a first part of it
pub piece_refused : {S : Type 0} (g : Ghosts S) (old : HubState S) (conn : ℕ) (piece : List ℕ) (whole : Bool) (output after : Option (List ℕ)) → Takes output after farewell whole
    → (written : List ℕ) × Appends output after written × IsServed g old conn (Some (end_after_farewell whole)) 0 piece written old
piece_refused {S} g old conn piece whole output after t = (t.0, t.1, by whole refl)
  where
    made : (end : ServiceEnd) → (end ≡ Memory) ⊎ (end ≡ WriteFailed) → (Some end ≢ Some WriteFailed → whole ≡ true) → (Some end ≡ Some LastReply → ⊥) → IsServed g old conn (Some end) 0 piece t.0 old
    made end is all no_last = record {
      pieces = [];
      counted = refl;
      sized = tt;
      replies = [];
      fed = (refl, refl);
      unfed = piece;
      words = farewell;
      refused = inr (refl, either is);
      all_read = refl;
      wrote = t.2;
      whole = λ unfailed. t.3 (all unfailed);
      memory = λ _. refl;
      goes_on = λ e. absurd (cc);
      last = λ e. absurd (no_last e);
    }
      where
        either : (end ≡ Memory) ⊎ (end ≡ WriteFailed) → (Some end ≡ Some Memory) ⊎ (Some end ≡ Some WriteFailed)
        either (inl e) = inl (ap Some e)
        either (inr e) = inr (ap Some e)

    by : (w : Bool) → whole ≡ w → IsServed g old conn (Some (end_after_farewell w)) 0 piece t.0 old
    by true is = made Memory (inl refl) (λ _. is) (λ e. absurd (cc))
    by false is = made WriteFailed (inr refl) (λ no. absurd (no refl)) (λ e. absurd (cc))
