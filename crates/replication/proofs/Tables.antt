-- What connections that are opened later change of pieces that came before: nothing.
use Rattle.std.proofs.Common.{◌≡◌, ◌≢◌, ◌∙◌, ℕ, ◌+◌, leb, leb-true, leb-false, Bool, true, false, ◌&&◌, cond, List, [], ◌∷◌, ◌++◌, map, Option, Some, None, refl, sym, ap, subst, arith}
use Rattle.std.specs.Prelude.{⊤, nat_le}
use Rattle.std.specs.List.{AllByRecursion}
use Rattle.std.specs.Cmp.{nat_cmp_total}
use Rattle.std.specs.FinMap.{FinMap, get, gets, insert, remove, same_map, nat_cmp-IsAntisymmetric}
use Rattle.std.specs.Ordering.{nat_cmp}
use Rattle.std.proofs.lemmas.Bool.Decides.{nat_tests}
use Rattle.couch_http.specs.Message.{Message}
use Rattle.couch_http.specs.Stream.{StreamEnd, unfinished, ended, faulty}
use Rattle.hub.specs.Arrival.{Arrival, BringsBehind, Piece, fault_at, fault_on, request_on}
use Rattle.hub.specs.Connections.{ConnectionTable, next_connection, rest_on, was_opened, with_connection, with_rest}
use Rattle.hub.specs.Endings.{rest_of}

-- ---- tables

get_other : (m : FinMap nat_cmp (List ℕ)) (k q : ℕ) (v : List ℕ) → q ≢ k → get (insert m k v) q ≡ get m q
get_other m k q v apart = grind (gets, arith, nat_tests)

insert_insert : (m : FinMap nat_cmp (List ℕ)) (j k : ℕ) (v w : List ℕ) → j ≢ k → insert (insert m j v) k w ≡ insert (insert m k w) j v
insert_insert m j k v w apart = same_map nat_cmp_total nat_cmp-IsAntisymmetric _ _ (λ q. grind (gets, arith, nat_tests))

insert_remove : (m : FinMap nat_cmp (List ℕ)) (j k : ℕ) (w : List ℕ) → j ≢ k → insert (remove m j) k w ≡ remove (insert m k w) j
insert_remove m j k w apart = same_map nat_cmp_total nat_cmp-IsAntisymmetric _ _ (λ q. grind (gets, arith, nat_tests))

-- a number that was given is not the next one
given_before : (table : ConnectionTable) (conn : ℕ) → was_opened table conn ≡ true → conn ≢ next_connection table
given_before table conn known is = by (leb 1 conn) (leb conn table.opened) refl known
  where
    by : (a b : Bool) → leb conn table.opened ≡ b → (a && b) ≡ true → ⊥
    by true true le k = omega (arith, leb-true conn table.opened le, is)
    by true false le k = absurd cc
    by false b le k = absurd cc

still_given : (n conn : ℕ) → (nat_le 1 conn && nat_le conn n) ≡ true → (nat_le 1 conn && nat_le conn (n + 1)) ≡ true
still_given n conn known = by (leb 1 conn) (leb conn n) (leb conn (n + 1)) refl refl known
  where
    by : (a b c : Bool) → leb conn n ≡ b → leb conn (n + 1) ≡ c → (a && b) ≡ true → (a && c) ≡ true
    by true true true le le' k = refl
    by true true false le le' k = absurd (omega (arith, leb-true conn n le, leb-false conn (n + 1) le'))
    by true false c le le' k = absurd cc
    by false b c le le' k = absurd cc

rest_kept : (table : ConnectionTable) (conn : ℕ) → was_opened table conn ≡ true → rest_on (with_connection table) conn ≡ rest_on table conn
rest_kept table conn known =
    ap (λ (b : Bool). cond b (get (insert table.rests (next_connection table) []) conn) None) (still_given table.opened conn known)
    ∙ get_other table.rests (next_connection table) conn [] (given_before table conn known)
    ∙ sym (ap (λ (b : Bool). cond b (get table.rests conn) None) known)

rest_after : (table : ConnectionTable) (conn : ℕ) (left : Option (List ℕ)) → was_opened table conn ≡ true → with_connection (with_rest table conn left) ≡ with_rest (with_connection table) conn left
rest_after table conn (Some rest) known =
    λ i. record { rests = insert_insert table.rests conn (next_connection table) rest [] (given_before table conn known) i; opened = next_connection table }
rest_after table conn None known =
    λ i. record { rests = insert_remove table.rests conn (next_connection table) [] (given_before table conn known) i; opened = next_connection table }

same_many : (table : ConnectionTable) (conn : ℕ) (left : Option (List ℕ)) → (with_rest table conn left).opened ≡ table.opened
same_many table conn (Some rest) = refl
same_many table conn None = refl

-- ---- pieces

brings_after : (o : Option (List ℕ)) (old : ConnectionTable) (p : Piece) (xs : List Arrival) (new : ConnectionTable) → was_opened old p.conn ≡ true → BringsBehind o old p xs new
    → BringsBehind o (with_connection old) p xs (with_connection new)
brings_after None old p xs new known b = (b.0, ap with_connection b.1)
brings_after (Some rest) old p xs new known (ms, end, cut, is, left) = (ms, end, cut, is, ap with_connection left ∙ rest_after old p.conn (rest_of end) known)

pub brings_many : (o : Option (List ℕ)) (old : ConnectionTable) (p : Piece) (xs : List Arrival) (new : ConnectionTable) → BringsBehind o old p xs new → new.opened ≡ old.opened
brings_many None old p xs new b = ap (λ (t : ConnectionTable). t.opened) b.1
brings_many (Some rest) old p xs new (ms, end, cut, is, left) = ap (λ (t : ConnectionTable). t.opened) left ∙ same_many old p.conn (rest_of end)

pub arrives_after : (old new : ConnectionTable) (p : Piece) (xs : List Arrival) → was_opened old p.conn ≡ true → BringsBehind (rest_on old p.conn) old p xs new
    → BringsBehind (rest_on (with_connection old) p.conn) (with_connection old) p xs (with_connection new)
arrives_after old new p xs known here =
    subst (λ (o : Option (List ℕ)). BringsBehind o (with_connection old) p xs (with_connection new)) (sym (rest_kept old p.conn known))
    (brings_after (rest_on old p.conn) old p xs new known here)

-- an arrival is on this connection
abbrev pub IsOn : ℕ → Arrival → Type 0
IsOn conn (request_on c m) = c ≡ conn
IsOn conn (fault_on c f) = ⊤

all_on : (conn : ℕ) (ms : List Message) (ys : List Arrival) → AllByRecursion (IsOn conn) ys → AllByRecursion (IsOn conn) (map (request_on conn) ms ++ ys)
all_on conn [] ys h = h
all_on conn (m ∷ ms) ys h = (refl, all_on conn ms ys h)

fault_is_on : (conn : ℕ) (end : StreamEnd) → AllByRecursion (IsOn conn) (fault_at conn end)
fault_is_on conn (unfinished rest) = tt
fault_is_on conn ended = tt
fault_is_on conn (faulty f) = (tt, tt)

pub brings_on : (o : Option (List ℕ)) (old : ConnectionTable) (p : Piece) (xs : List Arrival) (new : ConnectionTable) → BringsBehind o old p xs new → AllByRecursion (IsOn p.conn) xs
brings_on None old p xs new b = subst (AllByRecursion (IsOn p.conn)) (sym b.0) tt
brings_on (Some rest) old p xs new (ms, end, cut, is, left) = subst (AllByRecursion (IsOn p.conn)) (sym is) (all_on p.conn ms (fault_at p.conn end) (fault_is_on p.conn end))
