-- A piece that is fed in parts: what its parts bring is what the piece brings.
use Rattle.std.proofs.Common.{◌≡◌, ◌≢◌, ◌∙◌, ◌⊎◌, inl, inr, ℕ, ◌≤◌, ◌<◌, Bool, true, false, cond, List, [], ◌∷◌, ◌++◌, length, Option, None, Some, refl, sym, ap, ap₂, subst, append_assoc, append-nil, true≢false, arith}
use Rattle.std.proofs.KnownBytes.{Appends-nil, Appends-trans}
use Rattle.std.proofs.lemmas.Grind.{flat_map-append}
use Rattle.std.proofs.lemmas.List.{length-append}
use Rattle.std.specs.Cmp.{nat_cmp_total}
use Rattle.std.specs.FinMap.{FinMap, get, get-insert, get-remove, insert, nat_cmp-IsAntisymmetric, remove, same_map}
use Rattle.std.specs.Io.KnownBytes.{Appends}
use Rattle.std.specs.Ordering.{eq_by_cmp, nat_cmp}
use Rattle.auth.specs.Callers.{Configuration}
use Rattle.couch_http.proofs.CutLemmas.{Cuts-append}
use Rattle.couch_http.specs.Reply.{Reply}
use Rattle.couch_http.specs.Stream.{Cuts, StreamEnd, unfinished, ended, faulty}
use Rattle.store.specs.Calls.{GoesOn}
use Rattle.store.specs.declared.store.Store.{Ghosts}
use Rattle.couch_http.specs.Writing.{Takes}
use Rattle.hub.proofs.Arrivals.{ended_next, rest_same}
use Rattle.hub.proofs.Failures.{failures_append, tells_then}
use Rattle.hub.proofs.ServiceLemmas.{open_after, piece_served}
use Rattle.hub.proofs.Serving.{serves_then}
use Rattle.hub.specs.Answering.{RepliesInOrder}
use Rattle.hub.specs.Connections.{ConnectionTable, is_open, rest_on, with_rest}
use Rattle.hub.specs.Endings.{is_last, last_replies, rest_of}
use Rattle.hub.specs.Failing.{FailedRequest, Tells, failures_in}
use Rattle.hub.specs.Feeding.{HubState, IsFed}
use Rattle.hub.specs.Parts.{ServesPart}
use Rattle.hub.specs.Service.{IsServed, bytes_of, end_after_farewell, end_after_replies, farewell, greatest_piece}
use Rattle.hub.specs.declared.service_end.ServiceEnd.{ServiceEnd}
use Rattle.hub.specs.declared.service_end.ServiceEnd.TheVariants.{LastReply, Memory, WriteFailed}

-- ---- rests

over : {A : Type 0} (b : Bool) (x y z : A) → cond b x (cond b y z) ≡ cond b x z
over true x y z = refl
over false x y z = refl

insert_over : (m : FinMap nat_cmp (List ℕ)) (k : ℕ) (v w : List ℕ) → insert (insert m k v) k w ≡ insert m k w
insert_over m k v w = same_map nat_cmp_total nat_cmp-IsAntisymmetric _ _ (λ q.
    get-insert nat_cmp_total (insert m k v) k w q ∙ ap (cond (eq_by_cmp nat_cmp q k) (Some w)) (get-insert nat_cmp_total m k v q)
    ∙ over (eq_by_cmp nat_cmp q k) (Some w) (Some v) (get m q) ∙ sym (get-insert nat_cmp_total m k w q))

remove_over : (m : FinMap nat_cmp (List ℕ)) (k : ℕ) (v : List ℕ) → remove (insert m k v) k ≡ remove m k
remove_over m k v = same_map nat_cmp_total nat_cmp-IsAntisymmetric _ _ (λ q.
    get-remove nat_cmp_total (insert m k v) k q ∙ ap (cond (eq_by_cmp nat_cmp q k) None) (get-insert nat_cmp_total m k v q)
    ∙ over (eq_by_cmp nat_cmp q k) None (Some v) (get m q) ∙ sym (get-remove nat_cmp_total m k q))

rest_over : (t : ConnectionTable) (conn : ℕ) (rest : List ℕ) (left : Option (List ℕ)) → with_rest (with_rest t conn (Some rest)) conn left ≡ with_rest t conn left
rest_over t conn rest (Some x) = ap (λ (m : FinMap nat_cmp (List ℕ)). record { rests = m; opened = t.opened }) (insert_over t.rests conn rest x)
rest_over t conn rest None = ap (λ (m : FinMap nat_cmp (List ℕ)). record { rests = m; opened = t.opened }) (remove_over t.rests conn rest)

same_some : (x y : List ℕ) → Some x ≡ Some y → x ≡ y
same_some x y e = cc

-- ---- a part, and more

module _ {S : Type 0} (g : Ghosts S) (old mid new : HubState S) (conn : ℕ) where
  -- two parts of a piece
  pub fed_then : (p q : List ℕ) (l m : List Reply) (last : Bool) → IsFed g old conn p l false mid → IsFed g mid conn q m last new → GoesOn g mid.node.store new.node.store
      → mid.node.configuration ≡ old.node.configuration → IsFed g old conn (p ++ q) (l ++ m) last new
  fed_then p q l m last a b on same = by a.end refl
    where
      by : (end : StreamEnd) → a.end ≡ end → IsFed g old conn (p ++ q) (l ++ m) last new
      by (unfinished r) is =
          let kept : mid.connections ≡ with_rest old.connections conn (Some r) = a.left ∙ ap (λ (e : StreamEnd). with_rest old.connections conn (rest_of e)) is in
          let goes : b.rest ≡ r = same_some b.rest r (sym b.was ∙ ap (λ (t : ConnectionTable). rest_on t conn) kept ∙ rest_same old.connections conn a.rest (Some r) a.was) in
          let answered : l ≡ a.answers = a.replies ∙ ap (λ (e : StreamEnd). a.answers ++ last_replies e) is ∙ append-nil a.answers in
          record {
            rest = a.rest;
            was = a.was;
            messages = a.messages ++ b.messages;
            end = b.end;
            cuts = subst (λ (bytes : List ℕ). Cuts bytes (a.messages ++ b.messages) b.end) (append_assoc a.rest p q)
                (Cuts-append (a.rest ++ p) q a.messages b.messages r b.end (subst (λ (e : StreamEnd). Cuts (a.rest ++ p) a.messages e) is a.cuts)
                (subst (λ (bytes : List ℕ). Cuts (bytes ++ q) b.messages b.end) goes b.cuts));
            answers = a.answers ++ b.answers;
            replies = ap₂ (λ (xs ys : List Reply). xs ++ ys) answered b.replies ∙ sym (append_assoc a.answers b.answers (last_replies b.end));
            serves = λ h. serves_then g old.node.configuration old.node.store mid.node.store new.node.store a.messages b.messages a.answers b.answers (a.serves (on.honest h))
                (subst (λ (c : Configuration). RepliesInOrder g c mid.node.store b.messages b.answers new.node.store) same (b.serves h));
            left = b.left ∙ ap (λ (t : ConnectionTable). with_rest t conn (rest_of b.end)) kept ∙ rest_over old.connections conn r (rest_of b.end);
            ends = b.ends;
            each = omega (arith, a.each, b.each, length-append a.answers b.answers, length-append a.messages b.messages);
            tells = subst (λ (fs : List FailedRequest). Tells old.failures new.failures fs) (sym (failures_append a.messages b.messages a.answers b.answers a.each))
                (tells_then old.failures mid.failures new.failures (failures_in a.messages a.answers) (failures_in b.messages b.answers) a.tells b.tells);
          }
      by ended is = absurd (true≢false (sym (a.ends ∙ ap is_last is)))
      by (faulty f) is = absurd (true≢false (sym (a.ends ∙ ap is_last is)))

-- what comes behind the last request of a stream, or behind its fault, changes nothing
pub fed_over : {S : Type 0} (g : Ghosts S) (old new : HubState S) (conn : ℕ) (p more : List ℕ) (list : List Reply) → IsFed g old conn p list true new → IsFed g old conn (p ++ more) list true new
fed_over g old new conn p more list f = record {
  rest = f.rest;
  was = f.was;
  messages = f.messages;
  end = f.end;
  cuts = subst (λ (bytes : List ℕ). Cuts bytes f.messages f.end) (append_assoc f.rest p more) (ended_next (f.rest ++ p) more f.messages f.end f.cuts (sym f.ends));
  answers = f.answers;
  replies = f.replies;
  serves = f.serves;
  left = f.left;
  ends = f.ends;
  each = f.each;
  tells = f.tells;
}

takes_then : (a b c : Option (List ℕ)) (xs ys : List ℕ) (whole : Bool) → Takes a b xs true → Takes b c ys whole → Takes a c (xs ++ ys) whole
takes_then a b c xs ys whole t u = (
  t.0 ++ u.0,
  Appends-trans a b c t.0 u.0 t.1 u.1,
  (u.2.0, append_assoc t.0 u.0 u.2.0 ∙ ap₂ (λ (x y : List ℕ). x ++ y) (t.3 refl) u.2.1),
  λ e. ap₂ (λ (x y : List ℕ). x ++ y) (t.3 refl) (u.3 e),
)

takes_less : (a b : Option (List ℕ)) (xs ys : List ℕ) → Takes a b xs false → Takes a b (xs ++ ys) false
takes_less a b xs ys t = (t.0, t.1, (t.2.0 ++ ys, sym (append_assoc t.0 t.2.0 ys) ∙ ap (λ (x : List ℕ). x ++ ys) t.2.1), λ e. absurd (true≢false (sym e)))

bytes_then : (rs ss : List Reply) → bytes_of (rs ++ ss) ≡ bytes_of rs ++ bytes_of ss
bytes_then rs ss = flat_map-append (λ (r : Reply). r.bytes) rs ss

-- ---- the parts of a piece so far

-- none was fed yet, or these bytes, after which the connection goes on
abbrev FedSoFar : {S : Type 0} → Ghosts S → HubState S → ℕ → List ℕ → List Reply → HubState S → Type 0
FedSoFar g old conn fed list new = ((fed ≡ []) × (list ≡ []) × (new ≡ old)) ⊎ IsFed g old conn fed list false new

-- the rest of the piece is still to be fed, and the replies to what was fed are written
pub record ServedSoFar {S : Type 0} (g : Ghosts S) (old : HubState S) (conn : ℕ) (piece rest : List ℕ) (output after : Option (List ℕ)) (new : HubState S) : Type 0 where
  pub fed : List ℕ
  pub list : List Reply
  pub so_far : FedSoFar g old conn fed list new
  pub parts : fed ++ rest ≡ piece
  pub taken : Takes output after (bytes_of list) true

pub so_far_none : {S : Type 0} (g : Ghosts S) (old : HubState S) (conn : ℕ) (piece : List ℕ) (output : Option (List ℕ)) → ServedSoFar g old conn piece piece output output old
so_far_none g old conn piece output = record {
  fed = [];
  list = [];
  so_far = inl (refl, refl, refl);
  parts = refl;
  taken = ([], Appends-nil output, ([], refl), λ _. refl);
}

-- what the end of a part says
goes_on : (whole last : Bool) → None ≡ end_after_replies whole last → (whole ≡ true) × (last ≡ false)
goes_on true true e = absurd cc
goes_on true false e = (refl, refl)
goes_on false last e = absurd cc

pub part_open : {S : Type 0} (g : Ghosts S) (old new : HubState S) (conn : ℕ) (part : List ℕ) (list : List Reply) (last whole : Bool) → is_open old.connections conn ≡ true
    → IsFed g old conn part list last new → end_after_replies whole last ≡ None → is_open new.connections conn ≡ true
part_open g old new conn part list last whole was f none = (open_after g old new conn part list last was f).0 (goes_on whole last (sym none)).1

module _ {S : Type 0} (g : Ghosts S) (old mid new : HubState S) (conn : ℕ) where
  so_far_then : (fed part : List ℕ) (list more : List Reply) (last : Bool) → FedSoFar g old conn fed list mid → IsFed g mid conn part more last new → GoesOn g mid.node.store new.node.store
      → mid.node.configuration ≡ old.node.configuration → IsFed g old conn (fed ++ part) (list ++ more) last new
  so_far_then fed part list more last (inl (none, quiet, same)) f on kept =
      rw (none, quiet) (subst (λ (s : HubState S). IsFed g s conn part more last new) same f)
  so_far_then fed part list more last (inr first) f on kept = fed_then g old mid new conn fed part list more last first f on kept

  -- one more part was fed, and the connection goes on
  pub so_far_more : (piece rest part others : List ℕ) (output between after : Option (List ℕ)) → ServedSoFar g old conn piece rest output between mid → part ++ others ≡ rest
      → ServesPart g mid conn part None between after new → GoesOn g mid.node.store new.node.store → mid.node.configuration ≡ old.node.configuration
      → ServedSoFar g old conn piece others output after new
  so_far_more piece rest part others output between after s split (inl (list, last, whole, fed, is, takes)) on kept =
      let both : (whole ≡ true) × (last ≡ false) = goes_on whole last is in
      record {
        fed = s.fed ++ part;
        list = s.list ++ list;
        so_far = inr (so_far_then s.fed part s.list list false s.so_far (subst (λ (b : Bool). IsFed g mid conn part list b new) both.1 fed) on kept);
        parts = append_assoc s.fed part others ∙ ap (λ (l : List ℕ). s.fed ++ l) split ∙ s.parts;
        taken = subst (λ (bytes : List ℕ). Takes output after bytes true) (sym (bytes_then s.list list))
            (takes_then output between after (bytes_of s.list) (bytes_of list) true s.taken (subst (λ (b : Bool). Takes between after (bytes_of list) b) both.0 takes));
      }
  so_far_more piece rest part others output between after s split (inr (whole, same, is, takes)) on kept = absurd cc

-- ---- the end of a piece

-- What a piece does that ends a service, or doesn't.
abbrev Ends : {S : Type 0} → Ghosts S → HubState S → ℕ → Option ServiceEnd → List ℕ → Option (List ℕ) → Option (List ℕ) → HubState S → Type 0
Ends g old conn end piece output after new =
    (count : ℕ) × (end ≡ None → count ≡ 1) × (written : List ℕ) × Appends output after written × IsServed g old conn end count piece written new

-- all of it was fed
pub piece_done : {S : Type 0} (g : Ghosts S) (old new : HubState S) (conn : ℕ) (piece : List ℕ) (output after : Option (List ℕ)) → is_open old.connections conn ≡ true
    → length piece ≤ greatest_piece → 0 < length piece → ServedSoFar g old conn piece [] output after new → Ends g old conn None piece output after new
piece_done {S} g old new conn piece output after was small some s = by s.so_far
  where
    all : s.fed ≡ piece
    all = sym (append-nil s.fed) ∙ s.parts

    by : FedSoFar g old conn s.fed s.list new → Ends g old conn None piece output after new
    by (inl (none, quiet, same)) = absurd (let e = ap length (sym none ∙ all) in omega (arith, e, some))
    by (inr f) =
        let t = piece_served g old new conn piece s.list false true output after was small (subst (λ (bytes : List ℕ). IsFed g old conn bytes s.list false new) all f) s.taken in
        (1, λ _. refl, t.0, t.1, t.2)

module _ {S : Type 0} (g : Ghosts S) (old new : HubState S) (conn : ℕ) (piece : List ℕ) (output after : Option (List ℕ)) where
  -- What was fed of it has its replies, and the rest was not fed: memory ran out, or a write failed.
  piece_broken : (end : ServiceEnd) (fed unfed : List ℕ) (list : List Reply) (whole : Bool) → (end ≡ Memory) ⊎ (end ≡ WriteFailed) → (end ≢ WriteFailed → whole ≡ true) → length piece ≤ greatest_piece
      → fed ++ unfed ≡ piece → FedSoFar g old conn fed list new → Takes output after (bytes_of list ++ farewell) whole → Ends g old conn (Some end) piece output after new
  piece_broken end fed unfed list whole is all small parts so_far t = by so_far
    where
      either : (Some end ≡ Some Memory) ⊎ (Some end ≡ Some WriteFailed)
      either = sides is
        where
          sides : (end ≡ Memory) ⊎ (end ≡ WriteFailed) → (Some end ≡ Some Memory) ⊎ (Some end ≡ Some WriteFailed)
          sides (inl e) = inl (ap Some e)
          sides (inr e) = inr (ap Some e)

      not_last : Some end ≢ Some LastReply
      not_last = sides is
        where
          sides : (end ≡ Memory) ⊎ (end ≡ WriteFailed) → Some end ≢ Some LastReply
          sides (inl e) = λ last. absurd cc
          sides (inr e) = λ last. absurd cc

      by : FedSoFar g old conn fed list new → Ends g old conn (Some end) piece output after new
      by (inl (none, quiet, same)) = (
        0,
        λ e. absurd cc,
        t.0,
        t.1,
        record {
          pieces = [];
          counted = refl;
          sized = tt;
          replies = [];
          fed = (refl, same);
          unfed = piece;
          words = farewell;
          refused = inr (refl, either);
          all_read = refl;
          wrote = (t.2.0, t.2.1 ∙ ap (λ (l : List Reply). bytes_of l ++ farewell) quiet);
          whole = λ unfailed. t.3 (all (λ e. unfailed (ap Some e))) ∙ ap (λ (l : List Reply). bytes_of l ++ farewell) quiet;
          memory = λ _. refl;
          goes_on = λ e. absurd cc;
          last = λ e. absurd (not_last e);
        },
      )
      by (inr f) = (
        1,
        λ e. absurd cc,
        t.0,
        t.1,
        record {
          pieces = fed ∷ [];
          counted = refl;
          sized = (shorter, tt);
          replies = list;
          fed = (list, [], false, new, f, (refl, refl), sym (append-nil list));
          unfed = unfed;
          words = farewell;
          refused = inr (refl, either);
          all_read = ap (λ (l : List ℕ). l ++ unfed) (append-nil fed) ∙ parts;
          wrote = t.2;
          whole = λ unfailed. t.3 (all (λ e. unfailed (ap Some e)));
          memory = λ _. refl;
          goes_on = λ e. absurd cc;
          last = λ e. absurd (not_last e);
        },
      )
        where
          shorter : length fed ≤ greatest_piece
          shorter = let e = sym (length-append fed unfed) ∙ ap length parts in omega (arith, e, small)

ends_broken : (end : ServiceEnd) (whole : Bool) → Some end ≡ Some (end_after_farewell whole) → ((end ≡ Memory) ⊎ (end ≡ WriteFailed)) × (end ≢ WriteFailed → whole ≡ true)
ends_broken end true is = let e : end ≡ Memory = cc in (inl e, λ _. refl)
ends_broken end false is = let e : end ≡ WriteFailed = cc in (inr e, λ no. absurd (no e))

-- a part ended the service
pub part_ends : {S : Type 0} (g : Ghosts S) (old mid new : HubState S) (conn : ℕ) (piece rest part others : List ℕ) (end : ServiceEnd) (output between after : Option (List ℕ))
    → is_open old.connections conn ≡ true → length piece ≤ greatest_piece → ServedSoFar g old conn piece rest output between mid → part ++ others ≡ rest
    → ServesPart g mid conn part (Some end) between after new → GoesOn g mid.node.store new.node.store → mid.node.configuration ≡ old.node.configuration
    → Ends g old conn (Some end) piece output after new
part_ends {S} g old mid new conn piece rest part others end output between after was small s split (inl (list, last, whole, fed, is, takes)) on kept = by whole last refl refl
  where
    all : IsFed g old conn (s.fed ++ part) (s.list ++ list) last new
    all = so_far_then g old mid new conn s.fed part s.list list last s.so_far fed on kept

    parts : (s.fed ++ part) ++ others ≡ piece
    parts = append_assoc s.fed part others ∙ ap (λ (l : List ℕ). s.fed ++ l) split ∙ s.parts

    taken : Takes output after (bytes_of (s.list ++ list)) whole
    taken = subst (λ (bytes : List ℕ). Takes output after bytes whole) (sym (bytes_then s.list list)) (takes_then output between after (bytes_of s.list) (bytes_of list) whole s.taken takes)

    by : (w l : Bool) → whole ≡ w → last ≡ l → Ends g old conn (Some end) piece output after new
    by w true at ends =
        let f : IsFed g old conn piece (s.list ++ list) true new = subst (λ (bytes : List ℕ). IsFed g old conn bytes (s.list ++ list) true new) parts
        (fed_over g old new conn (s.fed ++ part) others (s.list ++ list) (subst (λ (b : Bool). IsFed g old conn (s.fed ++ part) (s.list ++ list) b new) ends all)) in
        let t = piece_served g old new conn piece (s.list ++ list) true whole output after was small f taken in (
          1,
          λ e. absurd cc,
          t.0,
          t.1,
          subst (λ (e : Option ServiceEnd). IsServed g old conn e 1 piece t.0 new) (sym (is ∙ ap (λ (b : Bool). end_after_replies whole b) ends)) t.2,
        )
    by false false at ends =
        let e : end ≡ WriteFailed = failed (is ∙ ap₂ (λ (a b : Bool). end_after_replies a b) at ends) in
        piece_broken g old new conn piece output after end (s.fed ++ part) others (s.list ++ list) false (inr e) (λ no. absurd (no e)) small parts
        (inr (subst (λ (b : Bool). IsFed g old conn (s.fed ++ part) (s.list ++ list) b new) ends all))
        (takes_less output after (bytes_of (s.list ++ list)) farewell (subst (λ (b : Bool). Takes output after (bytes_of (s.list ++ list)) b) at taken))
      where
        failed : Some end ≡ Some WriteFailed → end ≡ WriteFailed
        failed e = cc
    by true false at ends = absurd (let e = is ∙ ap₂ (λ (a b : Bool). end_after_replies a b) at ends in cc)
part_ends {S} g old mid new conn piece rest part others end output between after was small s split (inr (whole, same, is, takes)) on kept =
    let broken = ends_broken end whole is in
    piece_broken g old new conn piece output after end s.fed rest s.list whole broken.0 broken.1 small s.parts
    (subst (λ (x : HubState S). FedSoFar g old conn s.fed s.list x) (sym same) s.so_far)
    (takes_then output between after (bytes_of s.list) farewell whole s.taken takes)
