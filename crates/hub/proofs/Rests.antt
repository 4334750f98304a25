-- The table of rests that cutters make, entry by entry.
use Rattle.std.proofs.Common.{◌≡◌, ◌≢◌, ◌∙◌, ◌↔◌, ℕ, Bool, true, false, cond, List, [], ◌∷◌, map, Option, Some, None, option_map, is_some, unwrap_or, Result, Ok, Err, refl, sym, ap}
use Rattle.std.specs.Prelude.{OnErr}
use Rattle.std.specs.BTreeMap.{is_at}
use Rattle.std.specs.Cmp.{eq_by_cmp_equiv, nat_cmp_total}
use Rattle.std.specs.FinMap.{find, get, get-from_entries, get-insert, get-remove, insert, nat_cmp-IsAntisymmetric, remove, same_map}
use Rattle.std.specs.Map.{remove_entry, set_value}
use Rattle.std.specs.Option.{IsSome}
use Rattle.std.specs.Ordering.{eq_by_cmp, nat_cmp}
use Rattle.std.proofs.lemmas.Map.{lookup-set_value}
use Rattle.std.proofs.lemmas.Map.Views.{All-map-remove_entry, All-values-set_value}
use Rattle.couch_http.specs.Stream.{StreamEnd, unfinished, ended, faulty}
use Rattle.couch_http.specs.declared.cut.Cut.{Cut}
use Rattle.couch_http.specs.declared.cut.Ending.{Ending}
use Rattle.couch_http.specs.declared.cut.Ending.TheVariants.{Open, Last, Fault}
use Rattle.hub.specs.Connections.{ConnectionTable, is_open, rest_on, was_opened}
use Rattle.hub.specs.Cutters.{AreOpen, Cutters, IsCutAt, IsEnding, IsTakenAt, kept_at, rests_of, with_rest_at}
use Rattle.hub.specs.Endings.{rest_of}

-- what a kept rest is; each cutter of an open connection keeps one
abbrev known : Option (List ℕ) → List ℕ
known r = unwrap_or r []

find-rests : (es : Cutters) (q : ℕ) → find nat_cmp q (map (λ e. (e.0, known e.1)) es) ≡ option_map known (kept_at q es)
find-rests [] q = refl
find-rests (e ∷ es) q = by (is_at (nat_cmp q) e.0) (find-rests es q)
  where
    by : (b : Bool) → find nat_cmp q (map (λ e. (e.0, known e.1)) es) ≡ option_map known (kept_at q es)
        → cond b (Some (known e.1)) (find nat_cmp q (map (λ e. (e.0, known e.1)) es)) ≡ option_map known (cond b (Some e.1) (kept_at q es))
    by true rest = refl
    by false rest = rest

-- what the table has on a connection
pub get-rests : (es : Cutters) (q : ℕ) → get (rests_of es) q ≡ option_map known (kept_at q es)
get-rests es q = get-from_entries nat_cmp_total (map (λ e. (e.0, known e.1)) es) q ∙ find-rests es q

pub rest_kept : (es : Cutters) (q : ℕ) (rest : List ℕ) → kept_at q es ≡ Some (Some rest) → get (rests_of es) q ≡ Some rest
rest_kept es q rest at = get-rests es q ∙ ap (option_map known) at

pub none_kept : (es : Cutters) (q : ℕ) → kept_at q es ≡ None → get (rests_of es) q ≡ None
none_kept es q at = get-rests es q ∙ ap (option_map known) at

-- the test of a key, and that of another
turned : (k q : ℕ) → is_at (nat_cmp k) q ≡ eq_by_cmp nat_cmp q k
turned k q = (eq_by_cmp_equiv nat_cmp_total).symm k q

mapped : (b : Bool) (x : Option (List ℕ)) (o : Option (Option (List ℕ))) → option_map known (cond b (Some x) o) ≡ cond b (Some (known x)) (option_map known o)
mapped true x o = refl
mapped false x o = refl

emptied : (b : Bool) (o : Option (Option (List ℕ))) → option_map known (cond b None o) ≡ cond b None (option_map known o)
emptied true o = refl
emptied false o = refl

-- cutters that differ at one connection make tables that differ there
pub rests_with : (es fs : Cutters) (k : ℕ) (x : Option (List ℕ)) → ((q : ℕ) → kept_at q fs ≡ cond (is_at (nat_cmp k) q) (Some x) (kept_at q es))
    → rests_of fs ≡ insert (rests_of es) k (known x)
rests_with es fs k x h = same_map nat_cmp_total nat_cmp-IsAntisymmetric _ _ (λ q.
    get-rests fs q ∙ ap (option_map known) (h q) ∙ mapped (is_at (nat_cmp k) q) x (kept_at q es) ∙ ap (λ (b : Bool). cond b (Some (known x)) (option_map known (kept_at q es))) (turned k q)
    ∙ sym (get-insert nat_cmp_total (rests_of es) k (known x) q ∙ ap (cond (eq_by_cmp nat_cmp q k) (Some (known x))) (get-rests es q)))

pub rests_without : (es fs : Cutters) (k : ℕ) → ((q : ℕ) → kept_at q fs ≡ cond (is_at (nat_cmp k) q) None (kept_at q es))
    → rests_of fs ≡ remove (rests_of es) k
rests_without es fs k h = same_map nat_cmp_total nat_cmp-IsAntisymmetric _ _ (λ q.
    get-rests fs q ∙ ap (option_map known) (h q) ∙ emptied (is_at (nat_cmp k) q) (kept_at q es) ∙ ap (λ (b : Bool). cond b None (option_map known (kept_at q es))) (turned k q)
    ∙ sym (get-remove nat_cmp_total (rests_of es) k q ∙ ap (cond (eq_by_cmp nat_cmp q k) None) (get-rests es q)))

-- a value set at a connection that has a cutter
kept_set : (es : Cutters) (k : ℕ) (x w : Option (List ℕ)) → kept_at k es ≡ Some x → (q : ℕ) → kept_at q (set_value (is_at (nat_cmp k)) es w) ≡ cond (is_at (nat_cmp k) q) (Some w) (kept_at q es)
kept_set es k x w at q =
    lookup-set_value (eq_by_cmp_equiv nat_cmp_total) (is_at (nat_cmp k)) (λ a b h. (eq_by_cmp_equiv nat_cmp_total).congr k a b h) q w es (ap (λ (o : Option (Option (List ℕ))). is_some o) at)

removed_set : (es : Cutters) (test : ℕ → Bool) (w : Option (List ℕ)) → remove_entry test (set_value test es w) ≡ remove_entry test es
removed_set [] test w = refl
removed_set (e ∷ es) test w = by (test e.0) refl (removed_set es test w)
  where
    by : (b : Bool) → test e.0 ≡ b → remove_entry test (set_value test es w) ≡ remove_entry test es
        → remove_entry test (cond b ((e.0, w) ∷ es) (e ∷ set_value test es w)) ≡ cond b es (e ∷ remove_entry test es)
    by true is rest = rw is refl
    by false is rest = rw is (ap (λ xs. e ∷ xs) rest)

-- what is removed after it was set is removed as well before
without_set : (es : Cutters) (k : ℕ) (x w : Option (List ℕ)) → kept_at k es ≡ Some x → remove (rests_of (set_value (is_at (nat_cmp k)) es w)) k ≡ remove (rests_of es) k
without_set es k x w at = same_map nat_cmp_total nat_cmp-IsAntisymmetric _ _ (λ q.
    get-remove nat_cmp_total (rests_of (set_value (is_at (nat_cmp k)) es w)) k q ∙ by q (eq_by_cmp nat_cmp q k) refl
    ∙ sym (get-remove nat_cmp_total (rests_of es) k q))
  where
    by : (q : ℕ) (b : Bool) → eq_by_cmp nat_cmp q k ≡ b → cond b None (get (rests_of (set_value (is_at (nat_cmp k)) es w)) q) ≡ cond b None (get (rests_of es) q)
    by q true is = refl
    by q false is =
        get-rests (set_value (is_at (nat_cmp k)) es w) q ∙ ap (option_map known) (kept_set es k x w at q ∙ ap (λ (b : Bool). cond b (Some w) (kept_at q es)) (turned k q ∙ is)) ∙ sym (get-rests es q)

-- the table after a piece was taken, and the cutter removed where its stream has ended
left_at : (old mid new : Cutters) (k : ℕ) (x : Option (List ℕ)) (ending : Ending) (end : StreamEnd) → IsEnding ending end → kept_at k old ≡ Some x
    → mid ≡ set_value (is_at (nat_cmp k)) old (rest_of end) → (ending ≡ Open → new ≡ mid) → (ending ≢ Open → rests_of new ≡ remove (rests_of mid) k)
    → rests_of new ≡ with_rest_at (rests_of old) k (rest_of end)
left_at old mid new k x Open (unfinished rest) is at set goes_on ends =
    rests_with old new k (Some rest) (λ q. ap (kept_at q) (goes_on refl ∙ set) ∙ kept_set old k x (Some rest) at q)
left_at old mid new k x Open ended is at set goes_on ends = absurd is
left_at old mid new k x Open (faulty f) is at set goes_on ends = absurd is
left_at old mid new k x Last (unfinished rest) is at set goes_on ends = absurd is
left_at old mid new k x Last ended is at set goes_on ends = ends (λ e. absurd cc) ∙ ap (λ es. remove (rests_of es) k) set ∙ without_set old k x None at
left_at old mid new k x Last (faulty f) is at set goes_on ends = absurd is
left_at old mid new k x (Fault g) (unfinished rest) is at set goes_on ends = absurd is
left_at old mid new k x (Fault g) ended is at set goes_on ends = absurd is
left_at old mid new k x (Fault g) (faulty f) is at set goes_on ends = ends (λ e. absurd cc) ∙ ap (λ es. remove (rests_of es) k) set ∙ without_set old k x None at

pub open_without : (es : Cutters) (k : ℕ) → AreOpen es → AreOpen (remove_entry (is_at (nat_cmp k)) es)
open_without es k all = All-map-remove_entry (is_at (nat_cmp k)) (λ e. e.1) IsSome es all

open_left : (old mid new : Cutters) (k : ℕ) (ending : Ending) (end : StreamEnd) → IsEnding ending end → AreOpen old → mid ≡ set_value (is_at (nat_cmp k)) old (rest_of end)
    → (ending ≡ Open → new ≡ mid) → (ending ≢ Open → new ≡ remove_entry (is_at (nat_cmp k)) mid) → AreOpen new
open_left old mid new k Open (unfinished rest) is all set goes_on ends = rw (goes_on refl ∙ set) (All-values-set_value (is_at (nat_cmp k)) IsSome old (Some rest) all refl)
open_left old mid new k Open ended is all set goes_on ends = absurd is
open_left old mid new k Open (faulty f) is all set goes_on ends = absurd is
open_left old mid new k Last (unfinished rest) is all set goes_on ends = absurd is
open_left old mid new k Last ended is all set goes_on ends =
    rw (ends (λ e. absurd cc) ∙ ap (remove_entry (is_at (nat_cmp k))) set ∙ removed_set old (is_at (nat_cmp k)) None) (open_without old k all)
open_left old mid new k Last (faulty f) is all set goes_on ends = absurd is
open_left old mid new k (Fault g) (unfinished rest) is all set goes_on ends = absurd is
open_left old mid new k (Fault g) ended is all set goes_on ends = absurd is
open_left old mid new k (Fault g) (faulty f) is all set goes_on ends =
    rw (ends (λ e. absurd cc) ∙ ap (remove_entry (is_at (nat_cmp k))) set ∙ removed_set old (is_at (nat_cmp k)) None) (open_without old k all)

pub cut_at : (old mid new : Cutters) (k : ℕ) (piece : List ℕ) (cut : Cut) → IsTakenAt old k piece cut mid → (cut.ending ≡ Open → new ≡ mid)
    → (cut.ending ≢ Open → rests_of new ≡ remove (rests_of mid) k) → IsCutAt (rests_of old) k piece cut (rests_of new)
cut_at old mid new k piece cut t goes_on ends =
    record {
      rest = t.rest;
      was = rest_kept old k t.rest t.was;
      end = t.end;
      cuts = t.cuts;
      ending = t.ending;
      left = left_at old mid new k (Some t.rest) cut.ending t.end t.ending t.was t.left goes_on ends;
    }

pub still_open : (old mid new : Cutters) (k : ℕ) (piece : List ℕ) (cut : Cut) → AreOpen old → IsTakenAt old k piece cut mid → (cut.ending ≡ Open → new ≡ mid)
    → (cut.ending ≢ Open → new ≡ remove_entry (is_at (nat_cmp k)) mid) → AreOpen new
still_open old mid new k piece cut all t goes_on ends = open_left old mid new k cut.ending t.end t.ending all t.left goes_on ends

kept_some : (o : Option (Option (List ℕ))) → is_some (option_map known o) ≡ is_some o
kept_some None = refl
kept_some (Some x) = refl

no_known : (o : Option (Option (List ℕ))) → option_map known o ≡ None → o ≡ None
no_known None e = refl
no_known (Some x) e = absurd cc

-- ---- in the words of a table

pub contains_open : (es : Cutters) (n conn : ℕ) (table : ConnectionTable) (b : Bool) → record { rests = rests_of es; opened = n } ≡ table → was_opened table conn ≡ true
    → b ≡ is_some (kept_at conn es) → b ≡ is_open table conn
contains_open es n conn table b is opened found =
    found ∙ sym (kept_some (kept_at conn es)) ∙ ap is_some (sym (get-rests es conn)) ∙ ap (λ (t : ConnectionTable). is_some (get t.rests conn)) is
    ∙ sym (ap (λ (w : Bool). is_some (cond w (get table.rests conn) None)) opened)

pub table_rest : (es : Cutters) (n conn : ℕ) (table : ConnectionTable) → record { rests = rests_of es; opened = n } ≡ table → was_opened table conn ≡ true
    → rest_on table conn ≡ option_map known (kept_at conn es)
table_rest es n conn table is opened =
    ap (λ (w : Bool). cond w (get table.rests conn) None) opened ∙ sym (ap (λ (t : ConnectionTable). get t.rests conn) is) ∙ get-rests es conn

pub table_closed : (es : Cutters) (n conn : ℕ) (table : ConnectionTable) → record { rests = rests_of es; opened = n } ≡ table → was_opened table conn ≡ true
    → (kept_at conn es ≡ None) ↔ (rest_on table conn ≡ None)
table_closed es n conn table is opened =
    (λ e. table_rest es n conn table is opened ∙ ap (option_map known) e, λ e. no_known (kept_at conn es) (sym (table_rest es n conn table is opened) ∙ e))

pub OnErr-always : {A E P : Type 0} (r : Result A E) → P → OnErr r P
OnErr-always (Ok v) p = tt
OnErr-always (Err e) p = p
