-- What a connection took, act by act.
use Rattle.std.proofs.Common.{◌≡◌, ◌≢◌, ◌∙◌, ◌⊎◌, inl, inr, ℕ, ◌+◌, ◌≤◌, ◌<◌, ◌==◌, Bool, true, false, cond, List, [], ◌∷◌, ◌++◌, Option, Some, None, refl, sym, ap, subst, append_assoc, append-nil, arith, nat_le}
use Rattle.std.specs.Prelude.{⊤}
use Rattle.std.specs.FinMap.{empty, get, get-empty, insert, remove}
use Rattle.std.specs.Ordering.{nat_cmp}
use Rattle.std.proofs.lemmas.Bool.{cases_eq}
use Rattle.std.proofs.lemmas.Bool.Decides.{nat_tests}
use Rattle.store.specs.declared.store.Store.{Ghosts}
use Rattle.couch_http.specs.Writing.{IsPrefix}
use Rattle.hub.specs.Arrival.{Piece, stream_of}
use Rattle.hub.specs.Connections.{ConnectionTable, was_opened, with_rest, without}
use Rattle.hub.specs.Endings.{rest_of}
use Rattle.hub.specs.Feeding.{HubState}
use Rattle.engine.specs.Acts.{Act, accepted, opened, brought, took, closed, conn_of}
use Rattle.engine.specs.Desks.{Deed, Desk, Does, Runs, acts_in, said_in}
use Rattle.engine.specs.Standing.{Owes, Seat, Standing, TakesPiece, ending, given_up, owed_by, serving, with_owed}
use Rattle.engine.specs.Taking.{TakesInOrder, taken_of}
use Rattle.engine.proofs.Standings.{insert_here, insert_other, remove_here, remove_other}

-- ---- bytes of one connection

pub own : (c conn : ℕ) (bytes : List ℕ) → c ≡ conn → cond (c == conn) bytes [] ≡ bytes
own c conn bytes same = grind (arith, nat_tests)

pub other : (c conn : ℕ) (bytes : List ℕ) → conn ≢ c → cond (c == conn) bytes [] ≡ []
other c conn bytes apart = grind (arith, nat_tests)

pub nothing : (b : Bool) (bytes : List ℕ) → bytes ≡ [] → cond b bytes [] ≡ []
nothing true bytes none = none
nothing false bytes none = refl

-- what an act takes for a connection
took_by : Act → ℕ → List ℕ
took_by (took c bytes) conn = cond (c == conn) bytes []
took_by accepted conn = []
took_by (opened c) conn = []
took_by (brought c bytes) conn = []
took_by (closed c) conn = []

took_first : (a : Act) (acts : List Act) (conn : ℕ) → stream_of (taken_of (a ∷ acts)) conn ≡ took_by a conn ++ stream_of (taken_of acts) conn
unfolding took_by
took_first (took c bytes) acts conn = refl
took_first accepted acts conn = refl
took_first (opened c) acts conn = refl
took_first (brought c bytes) acts conn = refl
took_first (closed c) acts conn = refl

-- ---- standings

-- nothing more is taken
abbrev Silent : Option Standing → Type 0
Silent None = ⊤
Silent (Some given_up) = ⊤
Silent (Some (serving bytes)) = ⊥
Silent (Some (ending bytes)) = ⊥

abbrev owed_of : Option Standing → List ℕ
owed_of None = []
owed_of (Some s) = owed_by s

no_more : (xs ys : List ℕ) → [] ≡ xs ++ ys → xs ≡ []
no_more [] ys e = refl
no_more (x ∷ xs) ys e = absurd cc

pub left_owed : (s : Standing) (bytes left : List ℕ) → owed_by s ≡ bytes ++ left → owed_by (with_owed s left) ≡ left
left_owed (serving owed) bytes left e = refl
left_owed (ending owed) bytes left e = refl
left_owed given_up [] left e = e
left_owed given_up (b ∷ bs) left e = absurd cc

-- ---- how many were opened

pub without_opened : (t : ConnectionTable) (c : ℕ) → (without t c).opened ≡ t.opened
without_opened t c = by (was_opened t c)
  where
    by : (b : Bool) → (cond b (with_rest t c None) t).opened ≡ t.opened
    by true = refl
    by false = refl

pub rest_opened : (t : ConnectionTable) (c : ℕ) (r : Option (List ℕ)) → (with_rest t c r).opened ≡ t.opened
rest_opened t c (Some rest) = refl
rest_opened t c None = refl

module _ {S : Type 0} (g : Ghosts S) where
  pub piece_opened : (old new : Seat S) (p : Piece) (words : List ℕ) → TakesPiece g old p words new → new.hub.connections.opened ≡ old.hub.connections.opened
  piece_opened old new p words (inl feeds) = ap (λ (t : ConnectionTable). t.opened) feeds.fed.left ∙ rest_opened old.hub.connections p.conn (rest_of feeds.fed.end)
  piece_opened old new p words (inr (inl refuses)) = ap (λ (h : HubState S). h.connections.opened) refuses.ended ∙ without_opened old.hub.connections p.conn
  piece_opened old new p words (inr (inr (stood, said, is))) = ap (λ (s : Seat S). s.hub.connections.opened) is

  -- no piece comes on a silent connection, and what is owed after one is what was said
  piece_loud : (old new : Seat S) (p : Piece) (words : List ℕ) → TakesPiece g old p words new → Silent (Some old.standing) → ⊥
  piece_loud old new p words (inl feeds) s = subst (λ (x : Standing). Silent (Some x)) feeds.free s
  piece_loud old new p words (inr (inl refuses)) s = subst (λ (x : Standing). Silent (Some x)) refuses.free s
  piece_loud old new p words (inr (inr (stood, said, is))) s = subst (λ (x : Standing). Silent (Some x)) stood s

  owes_loud : (now : Standing) (last : Bool) (words : List ℕ) → Owes now last words → (words ≡ owed_by now) ⊎ Silent (Some now)
  owes_loud (serving owed) last words (is, said, bound) = inl (sym said)
  owes_loud (ending owed) last words (is, said, bound) = inl (sym said)
  owes_loud given_up last words o = inr tt

  -- where nothing was owed
  free_owed : (was now : Standing) (words : List ℕ) → was ≡ serving [] → (words ≡ owed_by now) ⊎ Silent (Some now) → (owed_by was ++ words ≡ owed_by now) ⊎ Silent (Some now)
  free_owed was now words free (inl e) = inl (ap (λ (s : Standing). owed_by s ++ words) free ∙ e)
  free_owed was now words free (inr quiet) = inr quiet

  piece_owed : (old new : Seat S) (p : Piece) (words : List ℕ) → TakesPiece g old p words new → (owed_by old.standing ++ words ≡ owed_by new.standing) ⊎ Silent (Some new.standing)
  piece_owed old new p words (inl feeds) = free_owed old.standing new.standing words feeds.free (owes_loud new.standing feeds.last words feeds.owes)
  piece_owed old new p words (inr (inl refuses)) = free_owed old.standing new.standing words refuses.free (owes_loud new.standing true words refuses.owes)
  piece_owed old new p words (inr (inr (stood, said, is))) =
      inl (ap (λ (xs : List ℕ). owed_by old.standing ++ xs) said ∙ append-nil (owed_by old.standing) ∙ ap (λ (s : Seat S). owed_by s.standing) (sym is))

  -- what an act does for a connection whose number was given: it takes of what was owed, and more is owed; or it falls silent
  record Follows (conn : ℕ) (old : Desk S) (a : Act) (words : List ℕ) (new : Desk S) : Type 0 where
    pub still : conn ≤ new.hub.connections.opened
    pub silent : Silent (get old.standings conn) → Silent (get new.standings conn) × (took_by a conn ≡ [])
    pub flows : (owed_of (get old.standings conn) ++ cond (conn_of a == conn) words [] ≡ took_by a conn ++ owed_of (get new.standings conn))
        ⊎ (Silent (get new.standings conn) × (took_by a conn ≡ []))

  -- an act that leaves the connection as it was
  apart_flows : (conn : ℕ) (old new : Desk S) (a : Act) (words : List ℕ) → conn ≤ new.hub.connections.opened → get new.standings conn ≡ get old.standings conn
      → took_by a conn ≡ [] → cond (conn_of a == conn) words [] ≡ [] → Follows conn old a words new
  apart_flows conn old new a words le same none said = record {
    still = le;
    silent = λ s. (subst (λ (o : Option Standing). Silent o) (sym same) s, none);
    flows = inl (ap (λ (xs : List ℕ). owed_of (get old.standings conn) ++ xs) said ∙ append-nil (owed_of (get old.standings conn)) ∙ ap owed_of (sym same)
        ∙ ap (λ (xs : List ℕ). xs ++ owed_of (get new.standings conn)) (sym none));
  }

  follows : (conn : ℕ) (old new : Desk S) (a : Act) (words : List ℕ) → conn ≤ old.hub.connections.opened → Does g old a words new → Follows conn old a words new
  unfolding took_by
  follows conn old new accepted words le (said, is) =
      apart_flows conn old new accepted words
      (let e = ap (λ (d : Desk S). d.hub.connections.opened) is in omega (arith, e, le)) (ap (λ (d : Desk S). get d.standings conn) is) refl (nothing (0 == conn) words said)
  follows conn old new (opened c) words le (said, next, is) =
      apart_flows conn old new (opened c) words
      (let e = ap (λ (d : Desk S). d.hub.connections.opened) is in omega (arith, e, le))
      (ap (λ (d : Desk S). get d.standings conn) is ∙ insert_other old.standings c conn (serving []) (λ e. omega (arith, e, next, le)))
      refl (nothing (c == conn) words said)
  follows conn old new (closed c) words le (said, is) = by (cases_eq conn c)
    where
      still : conn ≤ new.hub.connections.opened
      still = let e = ap (λ (d : Desk S). d.hub.connections.opened) is ∙ without_opened old.hub.connections c in omega (arith, e, le)

      by : (conn ≡ c) ⊎ (conn ≢ c) → Follows conn old (closed c) words new
      by (inl same) =
          let gone : get new.standings conn ≡ None = ap (λ (d : Desk S). get d.standings conn) is ∙ ap (λ (k : ℕ). get (remove old.standings c) k) same ∙ remove_here old.standings c in
          let quiet : Silent (get new.standings conn) = subst (λ (o : Option Standing). Silent o) (sym gone) tt in
          record { still = still; silent = λ s. (quiet, refl); flows = inr (quiet, refl) }
      by (inr apart) =
          apart_flows conn old new (closed c) words still
          (ap (λ (d : Desk S). get d.standings conn) is ∙ remove_other old.standings c conn apart) refl (nothing (c == conn) words said)
  follows conn old new (brought c bytes) words le (was, now, at, takes, is) = by (cases_eq conn c)
    where
      seat : Seat S
      seat = record { hub = old.hub; standing = was }

      piece : Piece
      piece = record { conn = c; bytes = bytes }

      still : conn ≤ new.hub.connections.opened
      still = let e = ap (λ (d : Desk S). d.hub.connections.opened) is ∙ piece_opened seat now piece words takes in omega (arith, e, le)

      by : (conn ≡ c) ⊎ (conn ≢ c) → Follows conn old (brought c bytes) words new
      by (inl same) =
          let before : get old.standings conn ≡ Some was = ap (λ (k : ℕ). get old.standings k) same ∙ at in
          let after : get new.standings conn ≡ Some now.standing = ap (λ (d : Desk S). get d.standings conn) is ∙ ap (λ (k : ℕ). get (insert old.standings c now.standing) k) same ∙ insert_here old.standings c now.standing in
          record {
            still = still;
            silent = λ s. absurd (piece_loud seat now piece words takes (subst (λ (o : Option Standing). Silent o) before s));
            flows = either before after (piece_owed seat now piece words takes);
          }
        where
          either : get old.standings conn ≡ Some was → get new.standings conn ≡ Some now.standing → (owed_by was ++ words ≡ owed_by now.standing) ⊎ Silent (Some now.standing)
              → (owed_of (get old.standings conn) ++ cond (c == conn) words [] ≡ owed_of (get new.standings conn)) ⊎ (Silent (get new.standings conn) × (took_by (brought c bytes) conn ≡ []))
          either before after (inl owed) =
              inl (ap (λ (xs : List ℕ). owed_of (get old.standings conn) ++ xs) (own c conn words (sym same)) ∙ ap (λ (o : Option Standing). owed_of o ++ words) before ∙ owed ∙ ap owed_of (sym after))
          either before after (inr quiet) = inr (subst (λ (o : Option Standing). Silent o) (sym after) quiet, refl)
      by (inr apart) =
          apart_flows conn old new (brought c bytes) words still
          (ap (λ (d : Desk S). get d.standings conn) is ∙ insert_other old.standings c conn now.standing apart) refl (other c conn words apart)
  follows conn old new (took c bytes) words le (was, left, at, owed, said, is) = by (cases_eq conn c)
    where
      still : conn ≤ new.hub.connections.opened
      still = let e = ap (λ (d : Desk S). d.hub.connections.opened) is in omega (arith, e, le)

      hushed : (s : Standing) → owed_by s ≡ bytes ++ left → Silent (Some s) → Silent (Some (with_owed s left)) × (bytes ≡ [])
      hushed (serving b) e s = absurd s
      hushed (ending b) e s = absurd s
      hushed given_up e s = (tt, no_more bytes left e)

      by : (conn ≡ c) ⊎ (conn ≢ c) → Follows conn old (took c bytes) words new
      by (inl same) =
          let before : get old.standings conn ≡ Some was = ap (λ (k : ℕ). get old.standings k) same ∙ at in
          let after : get new.standings conn ≡ Some (with_owed was left) = ap (λ (d : Desk S). get d.standings conn) is ∙ ap (λ (k : ℕ). get (insert old.standings c (with_owed was left)) k) same ∙ insert_here old.standings c (with_owed was left) in
          record {
            still = still;
            silent = λ s. let h = hushed was owed (subst (λ (o : Option Standing). Silent o) before s) in (subst (λ (o : Option Standing). Silent o) (sym after) h.0, own c conn bytes (sym same) ∙ h.1);
            flows = inl (ap (λ (xs : List ℕ). owed_of (get old.standings conn) ++ xs) (nothing (c == conn) words said) ∙ append-nil (owed_of (get old.standings conn)) ∙ ap owed_of before ∙ owed
                ∙ ap (λ (xs : List ℕ). bytes ++ xs) (sym (left_owed was bytes left owed) ∙ ap owed_of (sym after)) ∙ ap (λ (xs : List ℕ). xs ++ owed_of (get new.standings conn)) (sym (own c conn bytes (sym same))));
          }
      by (inr apart) =
          apart_flows conn old new (took c bytes) words still
          (ap (λ (d : Desk S). get d.standings conn) is ∙ insert_other old.standings c conn (with_owed was left) apart)
          (other c conn bytes apart) (nothing (c == conn) words said)

  -- ---- runs

  silent_takes : (conn : ℕ) (old new : Desk S) (deeds : List Deed) → conn ≤ old.hub.connections.opened → Silent (get old.standings conn) → Runs g old deeds new
      → stream_of (taken_of (acts_in deeds)) conn ≡ []
  silent_takes conn old new [] le s runs = refl
  silent_takes conn old new (d ∷ deeds) le s (between, does, rest) =
      let f = follows conn old between d.act d.words le does in
      took_first d.act (acts_in deeds) conn ∙ ap (λ (xs : List ℕ). xs ++ stream_of (taken_of (acts_in deeds)) conn) (f.silent s).1 ∙ silent_takes conn between new deeds f.still (f.silent s).0 rest

  known_takes : (conn : ℕ) (old new : Desk S) (deeds : List Deed) → conn ≤ old.hub.connections.opened → Runs g old deeds new
      → IsPrefix (stream_of (taken_of (acts_in deeds)) conn) (owed_of (get old.standings conn) ++ stream_of (said_in deeds) conn)
  known_takes conn old new [] le runs = (owed_of (get old.standings conn) ++ [], refl)
  known_takes conn old new (d ∷ deeds) le (between, does, rest) =
      let f = follows conn old between d.act d.words le does in
      by f.flows f.still (known_takes conn between new deeds f.still rest)
    where
      mine : List ℕ
      mine = cond (conn_of d.act == conn) d.words []

      by : (owed_of (get old.standings conn) ++ mine ≡ took_by d.act conn ++ owed_of (get between.standings conn)) ⊎ (Silent (get between.standings conn) × (took_by d.act conn ≡ []))
          → conn ≤ between.hub.connections.opened → IsPrefix (stream_of (taken_of (acts_in deeds)) conn) (owed_of (get between.standings conn) ++ stream_of (said_in deeds) conn)
          → IsPrefix (stream_of (taken_of (d.act ∷ acts_in deeds)) conn) (owed_of (get old.standings conn) ++ (mine ++ stream_of (said_in deeds) conn))
      by (inl flows) still after = (
        after.0,
        ap (λ (xs : List ℕ). xs ++ after.0) (took_first d.act (acts_in deeds) conn) ∙ append_assoc (took_by d.act conn) (stream_of (taken_of (acts_in deeds)) conn) after.0
            ∙ ap (λ (xs : List ℕ). took_by d.act conn ++ xs) after.1 ∙ sym (append_assoc (took_by d.act conn) (owed_of (get between.standings conn)) (stream_of (said_in deeds) conn))
            ∙ ap (λ (xs : List ℕ). xs ++ stream_of (said_in deeds) conn) (sym flows) ∙ append_assoc (owed_of (get old.standings conn)) mine (stream_of (said_in deeds) conn),
      )
      by (inr (quiet, none)) still after = (
        owed_of (get old.standings conn) ++ (mine ++ stream_of (said_in deeds) conn),
        ap (λ (xs : List ℕ). xs ++ (owed_of (get old.standings conn) ++ (mine ++ stream_of (said_in deeds) conn)))
            (took_first d.act (acts_in deeds) conn ∙ ap (λ (xs : List ℕ). xs ++ stream_of (taken_of (acts_in deeds)) conn) none ∙ silent_takes conn between new deeds still quiet rest),
      )

  fresh_takes : (conn : ℕ) (old new : Desk S) (deeds : List Deed) → old.hub.connections.opened < conn → get old.standings conn ≡ None → Runs g old deeds new
      → IsPrefix (stream_of (taken_of (acts_in deeds)) conn) (stream_of (said_in deeds) conn)
  fresh_takes conn old new [] lt none runs = ([], refl)
  fresh_takes conn old new (d ∷ deeds) lt none (between, does, rest) = by d.act d.words does rest (λ l n. fresh_takes conn between new deeds l n rest)
    where
      others : List ℕ
      others = stream_of (said_in deeds) conn

      taken : List ℕ
      taken = stream_of (taken_of (acts_in deeds)) conn

      -- the same, where this act leaves the connection as it was
      on : (b : Act) (words : List ℕ) → cond (conn_of b == conn) words [] ≡ [] → stream_of (taken_of (b ∷ acts_in deeds)) conn ≡ taken → IsPrefix taken others
          → IsPrefix (stream_of (taken_of (b ∷ acts_in deeds)) conn) (cond (conn_of b == conn) words [] ++ others)
      on b words quiet same (more, whole) =
          (more, ap (λ (xs : List ℕ). xs ++ more) same ∙ whole ∙ ap (λ (xs : List ℕ). xs ++ others) (sym quiet))

      by : (b : Act) (words : List ℕ) → Does g old b words between → Runs g between deeds new
          → (between.hub.connections.opened < conn → get between.standings conn ≡ None → IsPrefix taken others)
          → IsPrefix (stream_of (taken_of (b ∷ acts_in deeds)) conn) (cond (conn_of b == conn) words [] ++ others)
      by accepted words (quiet, made) more ih =
          on accepted words (nothing (0 == conn) words quiet) refl
          (ih (let count = ap (λ (d : Desk S). d.hub.connections.opened) made in omega (arith, count, lt)) (ap (λ (d : Desk S). get d.standings conn) made ∙ none))
      by (opened c) words (quiet, next, made) more ih = on (opened c) words (nothing (c == conn) words quiet) refl (here (cases_eq conn c))
        where
          count : between.hub.connections.opened ≡ old.hub.connections.opened + 1
          count = ap (λ (d : Desk S). d.hub.connections.opened) made

          here : (conn ≡ c) ⊎ (conn ≢ c) → IsPrefix taken others
          here (inl same) =
              let now : get between.standings conn ≡ Some (serving []) = ap (λ (d : Desk S). get d.standings conn) made ∙ ap (λ (k : ℕ). get (insert old.standings c (serving [])) k) same ∙ insert_here old.standings c (serving []) in
              subst (λ (o : Option Standing). IsPrefix taken (owed_of o ++ others)) now (known_takes conn between new deeds (omega (arith, count, next, same)) more)
          here (inr apart) =
              ih (omega (arith, count, next, lt, apart)) (ap (λ (d : Desk S). get d.standings conn) made ∙ insert_other old.standings c conn (serving []) apart ∙ none)
      by (closed c) words (quiet, made) more ih =
          on (closed c) words (nothing (c == conn) words quiet) refl
          (ih
          (let count = ap (λ (d : Desk S). d.hub.connections.opened) made ∙ without_opened old.hub.connections c in omega (arith, count, lt))
          (ap (λ (d : Desk S). get d.standings conn) made ∙ here (cases_eq conn c)))
        where
          here : (conn ≡ c) ⊎ (conn ≢ c) → get (remove old.standings c) conn ≡ None
          here (inl same) = ap (λ (k : ℕ). get (remove old.standings c) k) same ∙ remove_here old.standings c
          here (inr apart) = remove_other old.standings c conn apart ∙ none
      by (brought c bytes) words (was, now, at, takes, made) more ih =
          on (brought c bytes) words (other c conn words apart) refl
          (ih
          (let count = ap (λ (d : Desk S). d.hub.connections.opened) made ∙ piece_opened (record { hub = old.hub; standing = was }) now (record { conn = c; bytes = bytes }) words takes in omega (arith, count, lt))
          (ap (λ (d : Desk S). get d.standings conn) made ∙ insert_other old.standings c conn now.standing apart ∙ none))
        where
          apart : conn ≢ c
          apart same = let x = sym none ∙ ap (λ (k : ℕ). get old.standings k) same ∙ at in cc
      by (took c bytes) words (was, left, at, owed, quiet, made) more ih =
          on (took c bytes) words (nothing (c == conn) words quiet)
          (ap (λ (xs : List ℕ). xs ++ taken) (other c conn bytes apart))
          (ih (let count = ap (λ (d : Desk S). d.hub.connections.opened) made in omega (arith, count, lt))
          (ap (λ (d : Desk S). get d.standings conn) made ∙ insert_other old.standings c conn (with_owed was left) apart ∙ none))
        where
          apart : conn ≢ c
          apart same = let x = sym none ∙ ap (λ (k : ℕ). get old.standings k) same ∙ at in cc

  pub takes_all : TakesInOrder g
  takes_all hub deeds new conn runs = by (nat_le conn hub.connections.opened) refl
    where
      by : (b : Bool) → nat_le conn hub.connections.opened ≡ b → IsPrefix (stream_of (taken_of (acts_in deeds)) conn) (stream_of (said_in deeds) conn)
      by true is =
          subst (λ (o : Option Standing). IsPrefix (stream_of (taken_of (acts_in deeds)) conn) (owed_of o ++ stream_of (said_in deeds) conn)) (get-empty nat_cmp conn)
          (known_takes conn (record { hub = hub; standings = empty }) new deeds (grind (arith, nat_tests)) runs)
      by false is = fresh_takes conn (record { hub = hub; standings = empty }) new deeds (grind (arith, nat_tests)) (get-empty nat_cmp conn) runs
