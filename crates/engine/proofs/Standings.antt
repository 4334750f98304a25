-- How connections stand, where one is put among the others, or taken out.
use Rattle.std.proofs.Common.{◌≡◌, ◌≢◌, ◌∙◌, ℕ, ◌+◌, ◌-◌, ◌≤◌, Bool, true, false, cond, List, [], ◌∷◌, length, map, Option, Some, None, option_map, is_some, refl, sym, ap, arith}
use Rattle.std.specs.BTreeMap.{is_at}
use Rattle.std.specs.Cmp.{eq_by_cmp_equiv, nat_cmp_total}
use Rattle.std.specs.FinMap.{FinMap, empty, find, get, get-empty, get-from_entries, get-insert, get-remove, insert, len, len-empty, len-insert, len-remove, nat_cmp-IsAntisymmetric, remove, same_map}
use Rattle.std.specs.Map.{lookup, set_value}
use Rattle.std.specs.Ordering.{eq_by_cmp, nat_cmp}
use Rattle.std.proofs.lemmas.Map.{lookup-set_value}
use Rattle.std.proofs.lemmas.Map.Lookups.{exact_unsigned}
use Rattle.std.proofs.lemmas.Map.Views.{tells_apart}
use Rattle.engine.specs.Conversing.{standing_of}
use Rattle.engine.specs.Standing.{Standing}
use Rattle.engine.specs.inner.Rounds.{standings_of}
use Rattle.engine.specs.declared.conversation.Conversation.{Conversation}

-- ---- but for one

-- the one map has what the other has, but for this connection
abbrev pub IsSet : FinMap nat_cmp Standing → ℕ → Option Standing → FinMap nat_cmp Standing → Type 0
IsSet old conn standing new = (other : ℕ) → get new other ≡ cond (is_at (nat_cmp conn) other) standing (get old other)

turned : (k q : ℕ) → is_at (nat_cmp k) q ≡ eq_by_cmp nat_cmp q k
turned k q = (eq_by_cmp_equiv nat_cmp_total).symm k q

at_itself : (k : ℕ) → is_at (nat_cmp k) k ≡ true
at_itself k = turned k k ∙ (eq_by_cmp_equiv nat_cmp_total).refl k

pub at_one : (k q : ℕ) → is_at (nat_cmp k) q ≡ true → q ≡ k
at_one k q is = tells_apart exact_unsigned q k (sym (turned k q) ∙ is)

pub set_insert : (m : FinMap nat_cmp Standing) (conn : ℕ) (s : Standing) → IsSet m conn (Some s) (insert m conn s)
set_insert m conn s other =
    get-insert nat_cmp_total m conn s other ∙ ap (λ (b : Bool). cond b (Some s) (get m other)) (sym (turned conn other))

pub set_remove : (m : FinMap nat_cmp Standing) (conn : ℕ) → IsSet m conn None (remove m conn)
set_remove m conn other =
    get-remove nat_cmp_total m conn other ∙ ap (λ (b : Bool). cond b None (get m other)) (sym (turned conn other))

pub set_here : (m n : FinMap nat_cmp Standing) (conn : ℕ) (s : Option Standing) → IsSet m conn s n → get n conn ≡ s
set_here m n conn s is = is conn ∙ ap (λ (b : Bool). cond b s (get m conn)) (at_itself conn)

pub set_other : (m n : FinMap nat_cmp Standing) (c conn : ℕ) (s : Option Standing) → IsSet m c s n → conn ≢ c → get n conn ≡ get m conn
set_other m n c conn s is apart = is conn ∙ by (is_at (nat_cmp c) conn) refl
  where
    by : (b : Bool) → is_at (nat_cmp c) conn ≡ b → cond b s (get m conn) ≡ get m conn
    by true at = absurd (apart (at_one c conn at))
    by false at = refl

-- ---- put in and taken out

same_standings : (m n : FinMap nat_cmp Standing) → ((q : ℕ) → get m q ≡ get n q) → m ≡ n
same_standings m n h = same_map nat_cmp_total nat_cmp-IsAntisymmetric m n h

pub insert_here : (m : FinMap nat_cmp Standing) (conn : ℕ) (s : Standing) → get (insert m conn s) conn ≡ Some s
insert_here m conn s = set_here m (insert m conn s) conn (Some s) (set_insert m conn s)

pub insert_other : (m : FinMap nat_cmp Standing) (c conn : ℕ) (s : Standing) → conn ≢ c → get (insert m c s) conn ≡ get m conn
insert_other m c conn s apart = set_other m (insert m c s) c conn (Some s) (set_insert m c s) apart

pub remove_here : (m : FinMap nat_cmp Standing) (conn : ℕ) → get (remove m conn) conn ≡ None
remove_here m conn = set_here m (remove m conn) conn None (set_remove m conn)

pub remove_other : (m : FinMap nat_cmp Standing) (c conn : ℕ) → conn ≢ c → get (remove m c) conn ≡ get m conn
remove_other m c conn apart = set_other m (remove m c) c conn None (set_remove m c) apart

cond_twice : (b : Bool) (s t x : Option Standing) → cond b t (cond b s x) ≡ cond b t x
cond_twice true s t x = refl
cond_twice false s t x = refl

-- what was put in last, stands
pub insert_again : (m : FinMap nat_cmp Standing) (conn : ℕ) (s t : Standing) → insert (insert m conn s) conn t ≡ insert m conn t
insert_again m conn s t =
    same_standings (insert (insert m conn s) conn t) (insert m conn t)
    (λ q. set_insert (insert m conn s) conn t q ∙ ap (λ (o : Option Standing). cond (is_at (nat_cmp conn) q) (Some t) o) (set_insert m conn s q)
    ∙ cond_twice (is_at (nat_cmp conn) q) (Some s) (Some t) (get m q) ∙ sym (set_insert m conn t q))

pub remove_again : (m : FinMap nat_cmp Standing) (conn : ℕ) (s : Standing) → remove (insert m conn s) conn ≡ remove m conn
remove_again m conn s =
    same_standings (remove (insert m conn s) conn) (remove m conn)
    (λ q. set_remove (insert m conn s) conn q ∙ ap (λ (o : Option Standing). cond (is_at (nat_cmp conn) q) None o) (set_insert m conn s q)
    ∙ cond_twice (is_at (nat_cmp conn) q) (Some s) None (get m q) ∙ sym (set_remove m conn q))

-- what stands is put in
pub insert_there : (m : FinMap nat_cmp Standing) (conn : ℕ) (s : Standing) → get m conn ≡ Some s → insert m conn s ≡ m
insert_there m conn s at = same_standings (insert m conn s) m (λ q. set_insert m conn s q ∙ by q (is_at (nat_cmp conn) q) refl)
  where
    by : (q : ℕ) (b : Bool) → is_at (nat_cmp conn) q ≡ b → cond b (Some s) (get m q) ≡ get m q
    by q true is = sym (ap (λ (k : ℕ). get m k) (at_one conn q is) ∙ at)
    by q false is = refl

-- ---- how many stand

-- one is put in, whichever it is
pub len_either : (m : FinMap nat_cmp Standing) (conn : ℕ) (s t : Standing) → len (insert m conn s) ≡ len (insert m conn t)
len_either m conn s t = len-insert nat_cmp_total m conn s ∙ sym (len-insert nat_cmp_total m conn t)

pub len_more : (m : FinMap nat_cmp Standing) (conn : ℕ) (s : Standing) → len (insert m conn s) ≤ len m + 1
len_more m conn s = by (is_some (get m conn)) (len-insert nat_cmp_total m conn s)
  where
    by : (b : Bool) → len (insert m conn s) ≡ cond b (len m) (len m + 1) → len (insert m conn s) ≤ len m + 1
    by true e = omega (arith, e)
    by false e = omega (arith, e)

pub len_fewer : (m : FinMap nat_cmp Standing) (conn : ℕ) → len (remove m conn) ≤ len m
len_fewer m conn = by (is_some (get m conn)) (len-remove nat_cmp_total m conn)
  where
    by : (b : Bool) → len (remove m conn) ≡ cond b (len m - 1) (len m) → len (remove m conn) ≤ len m
    by true e = omega (arith, e)
    by false e = omega (arith, e)

-- ---- of conversations

abbrev Talks : Type 0
Talks = List (ℕ × Conversation)

find_standings : (es : Talks) (q : ℕ) → find nat_cmp q (map (λ e. (e.0, standing_of e.1)) es) ≡ option_map standing_of (lookup (is_at (nat_cmp q)) es)
find_standings [] q = refl
find_standings (e ∷ es) q = by (is_at (nat_cmp q) e.0) (find_standings es q)
  where
    by : (b : Bool) → find nat_cmp q (map (λ e. (e.0, standing_of e.1)) es) ≡ option_map standing_of (lookup (is_at (nat_cmp q)) es)
        → cond b (Some (standing_of e.1)) (find nat_cmp q (map (λ e. (e.0, standing_of e.1)) es)) ≡ option_map standing_of (cond b (Some e.1) (lookup (is_at (nat_cmp q)) es))
    by true rest = refl
    by false rest = rest

-- how a connection stands by the conversations
pub get_standings : (es : Talks) (q : ℕ) → get (standings_of es) q ≡ option_map standing_of (lookup (is_at (nat_cmp q)) es)
get_standings es q = get-from_entries nat_cmp_total (map (λ e. (e.0, standing_of e.1)) es) q ∙ find_standings es q

pub standings_none : standings_of [] ≡ empty
standings_none = same_standings (standings_of []) empty (λ q. get_standings [] q ∙ sym (get-empty nat_cmp q))

mapped : (b : Bool) (w : Conversation) (o : Option Conversation) → option_map standing_of (cond b (Some w) o) ≡ cond b (Some (standing_of w)) (option_map standing_of o)
mapped true w o = refl
mapped false w o = refl

emptied : (b : Bool) (o : Option Conversation) → option_map standing_of (cond b None o) ≡ cond b None (option_map standing_of o)
emptied true o = refl
emptied false o = refl

-- conversations that differ at one connection
pub standings_with : (es fs : Talks) (conn : ℕ) (w : Conversation) → ((q : ℕ) → lookup (is_at (nat_cmp q)) fs ≡ cond (is_at (nat_cmp conn) q) (Some w) (lookup (is_at (nat_cmp q)) es))
    → standings_of fs ≡ insert (standings_of es) conn (standing_of w)
standings_with es fs conn w h =
    same_standings (standings_of fs) (insert (standings_of es) conn (standing_of w))
    (λ q. get_standings fs q ∙ ap (option_map standing_of) (h q) ∙ mapped (is_at (nat_cmp conn) q) w (lookup (is_at (nat_cmp q)) es)
    ∙ ap (λ (o : Option Standing). cond (is_at (nat_cmp conn) q) (Some (standing_of w)) o) (sym (get_standings es q)) ∙ sym (set_insert (standings_of es) conn (standing_of w) q))

pub standings_without : (es fs : Talks) (conn : ℕ) → ((q : ℕ) → lookup (is_at (nat_cmp q)) fs ≡ cond (is_at (nat_cmp conn) q) None (lookup (is_at (nat_cmp q)) es))
    → standings_of fs ≡ remove (standings_of es) conn
standings_without es fs conn h =
    same_standings (standings_of fs) (remove (standings_of es) conn)
    (λ q. get_standings fs q ∙ ap (option_map standing_of) (h q) ∙ emptied (is_at (nat_cmp conn) q) (lookup (is_at (nat_cmp q)) es)
    ∙ ap (λ (o : Option Standing). cond (is_at (nat_cmp conn) q) None o) (sym (get_standings es q)) ∙ sym (set_remove (standings_of es) conn q))

-- a conversation that was changed
pub standings_set : (es fs : Talks) (conn : ℕ) (x w : Conversation) → lookup (is_at (nat_cmp conn)) es ≡ Some x → fs ≡ set_value (is_at (nat_cmp conn)) es w
    → standings_of fs ≡ insert (standings_of es) conn (standing_of w)
standings_set es fs conn x w at is = standings_with es fs conn w (λ q. ap (λ (hs : Talks). lookup (is_at (nat_cmp q)) hs) is ∙ by q)
  where
    by : (q : ℕ) → lookup (is_at (nat_cmp q)) (set_value (is_at (nat_cmp conn)) es w) ≡ cond (is_at (nat_cmp conn) q) (Some w) (lookup (is_at (nat_cmp q)) es)
    by q =
        lookup-set_value (eq_by_cmp_equiv nat_cmp_total) (is_at (nat_cmp conn)) (λ a b h. (eq_by_cmp_equiv nat_cmp_total).congr conn a b h) q w es
        (ap (λ (o : Option Conversation). is_some o) at)

pub standings_there : (es : Talks) (conn : ℕ) (x : Conversation) → lookup (is_at (nat_cmp conn)) es ≡ Some x → insert (standings_of es) conn (standing_of x) ≡ standings_of es
standings_there es conn x at = insert_there (standings_of es) conn (standing_of x) (get_standings es conn ∙ ap (option_map standing_of) at)

-- and stands as it did
pub standings_alike : (es fs : Talks) (conn : ℕ) (x w : Conversation) → lookup (is_at (nat_cmp conn)) es ≡ Some x → fs ≡ set_value (is_at (nat_cmp conn)) es w → standing_of w ≡ standing_of x
    → standings_of fs ≡ standings_of es
standings_alike es fs conn x w at is alike =
    standings_set es fs conn x w at is ∙ ap (λ (s : Standing). insert (standings_of es) conn s) alike ∙ standings_there es conn x at

standings_more : (e : ℕ × Conversation) (es : Talks) → standings_of (e ∷ es) ≡ insert (standings_of es) e.0 (standing_of e.1)
standings_more e es =
    same_standings (standings_of (e ∷ es)) (insert (standings_of es) e.0 (standing_of e.1))
    (λ q. get-from_entries nat_cmp_total (map (λ e. (e.0, standing_of e.1)) (e ∷ es)) q
    ∙ sym (get-insert nat_cmp_total (standings_of es) e.0 (standing_of e.1) q
    ∙ ap (λ (o : Option Standing). cond (eq_by_cmp nat_cmp q e.0) (Some (standing_of e.1)) o) (get-from_entries nat_cmp_total (map (λ e. (e.0, standing_of e.1)) es) q)))

-- no more connections stand than there are conversations
pub len_standings : (es : Talks) → len (standings_of es) ≤ length es
len_standings [] = let none = ap len standings_none ∙ len-empty nat_cmp Standing in omega (arith, none)
len_standings (e ∷ es) =
    let more = ap len (standings_more e es) in
    let bound = len_more (standings_of es) e.0 (standing_of e.1) in
    let fewer = len_standings es in
    omega (arith, more, bound, fewer)
