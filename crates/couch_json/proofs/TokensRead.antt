-- Values, elements and members that are read one after another.
use Rattle.std.proofs.Common.{◌≡◌, ◌≤◌, ◌<◌, ◌-◌, ℕ, ℤ, Bool, List, [], ◌∷◌, ◌++◌, String, Global, Option, Some, None, option_map, option_and_then, Ordering, Less, Equal, Greater, string_bytes, string_cmp, nat_cmp, IsUtf8, length, refl, sym, ap, ap₂, ◌∙◌, subst, arith}
use Rattle.std.specs.Prelude.{⊤}
use Rattle.std.specs.Cmp.Lexicographic.{slice_cmp}
use Rattle.std.specs.Ordering.{match_ordering}
use Rattle.std.specs.BTreeMap.{insert_entry}
use Rattle.json.specs.Token.{Token}
use Rattle.json.specs.Lex.{tokens}
use Rattle.json.specs.Json as json
use Rattle.json.specs.Json.{parse_map, after_end_array, read_key}
use Rattle.json.proofs.Grammar.{read_key-shorter, value_is, value-begin_array, value-begin_object}
use Rattle.serde_json.specs.Data as serde
use Rattle.serde_json.specs.Find.{as_integer}
use Rattle.serde_json.specs.Read.{number_of, of_json, of_items, of_members, converted, max_depth}
use Rattle.couch_json.proofs.Turns.{converted-array, converted-object, item_read, item_refused, items_over, member_read, member_refused, key_refused, members_over, whole_read}
use Rattle.couch_json.proofs.Readings.{data_read-IsUtf8}
use Rattle.couch_json.specs.inner.Parsing.{IsRead, AreItemsRead, AreMembersRead, item_behind, with_item, put_whole}
use Rattle.couch_json.specs.Reading.{data_read, value_of, items_of_data, members_of_data}
use Rattle.couch_json.specs.Value.{Value, null, truth, whole, text, array, object, Items, no_items, item, Members, no_members, put}
use Rattle.couch_json.specs.View.{view, items_view}
use Rattle.couch_json.specs.declared.value.Json.{Json}

-- ---- elements

-- the second behind the first
abbrev pub items_joined : serde.Items → serde.Items → serde.Items
items_joined serde.no_items rest = rest
items_joined (serde.item d ds) rest = serde.item d (items_joined ds rest)

items_joined-no_items : (ds : serde.Items) → items_joined ds serde.no_items ≡ ds
items_joined-no_items serde.no_items = refl
items_joined-no_items (serde.item d ds) = ap (serde.item d) (items_joined-no_items ds)

items_joined-item : (ds : serde.Items) (d : serde.Data) (rest : serde.Items) → items_joined ds (serde.item d rest) ≡ items_joined (items_joined ds (serde.item d serde.no_items)) rest
items_joined-item serde.no_items d rest = refl
items_joined-item (serde.item e ds) d rest = ap (serde.item e) (items_joined-item ds d rest)

one_more : (ds : serde.Items) (d : serde.Data) (r : Option (serde.Items × List Token))
    → parse_map (items_joined ds) (parse_map (serde.item d) r) ≡ parse_map (items_joined (items_joined ds (serde.item d serde.no_items))) r
one_more ds d None = refl
one_more ds d (Some p) = ap (λ rest. Some (rest, p.1)) (items_joined-item ds d p.0)

none_before : (r : Option (serde.Items × List Token)) → r ≡ parse_map (items_joined serde.no_items) r
none_before None = refl
none_before (Some p) = refl

alone : (o : Option Value) → option_and_then (λ v. option_map (item v) (Some no_items)) o ≡ with_item (Some no_items) o
alone None = refl
alone (Some v) = refl

behind : (first : Option Value) (others : Option Items) (last : Option Value)
    → option_and_then (λ v. option_map (item v) (with_item others last)) first ≡ with_item (option_and_then (λ v. option_map (item v) others) first) last
behind None others last = refl
behind (Some v) None last = refl
behind (Some v) (Some vs) None = refl
behind (Some v) (Some vs) (Some w) = refl

items_of_data-joined : (ds : serde.Items) (d : serde.Data) → items_of_data (items_joined ds (serde.item d serde.no_items)) ≡ with_item (items_of_data ds) (value_of d)
items_of_data-joined serde.no_items d = alone (value_of d)
items_of_data-joined (serde.item e ds) d =
    ap (λ o. option_and_then (λ v. option_map (item v) o) (value_of e)) (items_of_data-joined ds d) ∙ behind (value_of e) (items_of_data ds) (value_of d)

pub items_view-push : (vs : List Json) (v : Json) → items_view (vs ++ v ∷ []) ≡ item_behind (items_view vs) (view v)
items_view-push [] v = refl
items_view-push (w ∷ vs) v = ap (item (view w)) (items_view-push vs v)

-- elements with these values, or with none, were read, and what is left is read from here
pub record AreItemsReadTo (depth : ℕ) (first : List Token) (found : Option Items) (left : List Token) : Type 0 where
  pub turns : ℕ
  pub enough : length left ≤ turns
  pub before : serde.Items
  pub same : converted of_items (json.items (json.value depth) (length first) first) ≡ parse_map (items_joined before) (converted of_items (json.items (json.value depth) turns left))
  pub valued : items_of_data before ≡ found
  pub shorter : length left ≤ length first

pub items_begun : (depth : ℕ) (first : List Token) (found : Option Items) → found ≡ Some no_items → AreItemsReadTo depth first found first
items_begun depth first found none = record {
  turns = length first;
  enough = omega arith;
  before = serde.no_items;
  same = none_before (converted of_items (json.items (json.value depth) (length first) first));
  valued = sym none;
  shorter = omega arith;
}

pub next_item : (depth : ℕ) (first left rest : List Token) (old new : Option Items) (found : Option Json) → AreItemsReadTo depth first old left → after_end_array left ≡ None
    → IsRead depth left found rest → length rest < length left → new ≡ with_item old (option_map view found) → AreItemsReadTo depth first new rest
next_item depth first left rest old new found h going is less pushed =
    let n = h.turns in
    record {
      turns = n - 1;
      enough = omega (arith, h.enough);
      before = items_joined h.before (serde.item is.given serde.no_items);
      same = h.same ∙ ap (parse_map (items_joined h.before)) (item_read (json.value depth) n left rest is.given (omega (arith, h.enough)) going is.read)
          ∙ one_more h.before is.given (converted of_items (json.items (json.value depth) (n - 1) rest));
      valued = items_of_data-joined h.before is.given ∙ ap₂ with_item h.valued is.valued ∙ sym pushed;
      shorter = omega (arith, h.shorter);
    }

pub all_items : (depth : ℕ) (first left rest : List Token) (found : Option Items) → AreItemsReadTo depth first found left → after_end_array left ≡ Some rest → AreItemsRead depth first found rest
all_items depth first left rest found h ends = record {
  given = h.before;
  read = h.same ∙ ap (parse_map (items_joined h.before)) (items_over (json.value depth) h.turns left rest h.enough ends) ∙ ap (λ ds. Some (ds, rest)) (items_joined-no_items h.before);
  valued = h.valued;
}

pub no_item : (depth : ℕ) (first left : List Token) (found : Option Items) → AreItemsReadTo depth first found left → after_end_array left ≡ None → converted of_json (json.value depth left) ≡ None
    → converted of_items (json.items (json.value depth) (length first) first) ≡ None
no_item depth first left found h going none = h.same ∙ ap (parse_map (items_joined h.before)) (item_refused (json.value depth) h.turns left going none)

-- ---- members

abbrev pub FoundEntry : Type 0
FoundEntry = String Global × Option Json

-- the entries have the names of the members, and the values of their data
abbrev pub AreHeld : serde.Members → List FoundEntry → Type 0
AreHeld serde.no_members [] = ⊤
AreHeld serde.no_members (e ∷ es) = ⊥
AreHeld (serde.member name d ds) [] = ⊥
AreHeld (serde.member name d ds) (e ∷ es) = (name ≡ string_bytes e.0) × (value_of d ≡ option_map view e.1) × AreHeld ds es

held_in_order : (o : Ordering) (a b c : serde.Members) (x y z : List FoundEntry) → AreHeld a x → AreHeld b y → AreHeld c z → AreHeld (match_ordering o a b c) (match_ordering o x y z)
held_in_order Less a b c x y z h g f = h
held_in_order Equal a b c x y z h g f = g
held_in_order Greater a b c x y z h g f = f

held_in_orders : (o p : Ordering) (a b c : serde.Members) (x y z : List FoundEntry) → o ≡ p → AreHeld a x → AreHeld b y → AreHeld c z → AreHeld (match_ordering o a b c) (match_ordering p x y z)
held_in_orders o p a b c x y z same h g f = subst (λ q. AreHeld (match_ordering o a b c) (match_ordering q x y z)) same (held_in_order o a b c x y z h g f)

-- an insert into the map puts the data at the name
held_put : (ds : serde.Members) (es : List FoundEntry) (k : List ℕ) (d : serde.Data) (name : String Global) (found : Option Json) → k ≡ string_bytes name → value_of d ≡ option_map view found → AreHeld ds es
    → AreHeld (serde.put k d ds) (insert_entry string_cmp es name found)
held_put serde.no_members [] k d name found named valued h = (named, valued, tt)
held_put serde.no_members (e ∷ es) k d name found named valued h = absurd h
held_put (serde.member l c ds) [] k d name found named valued h = absurd h
held_put (serde.member l c ds) (e ∷ es) k d name found named valued h =
    held_in_orders (slice_cmp nat_cmp k l) (string_cmp name e.0) _ _ _ _ _ _ (ap₂ (slice_cmp nat_cmp) named h.0) (named, valued, h) (h.0, valued, h.2)
    (h.0, h.1, held_put ds es k d name found named valued h.2)

-- the entries have the value of the members
held_valued : (ds : serde.Members) (es : List FoundEntry) (found : Members) → AreHeld ds es → members_of_data ds found ≡ put_whole es found
held_valued serde.no_members [] found h = refl
held_valued serde.no_members (e ∷ es) found h = absurd h
held_valued (serde.member l c ds) [] found h = absurd h
held_valued (serde.member l c ds) ((name, None) ∷ es) found h = rw h.1
held_valued (serde.member l c ds) ((name, Some v) ∷ es) found h = rw (h.1, h.0) (held_valued ds es (put (string_bytes name) (view v) found) h.2)

-- members that these entries hold were read, and what is left is read from here
pub record AreMembersReadTo (depth : ℕ) (first : List Token) (held : List FoundEntry) (left : List Token) : Type 0 where
  pub turns : ℕ
  pub enough : length left ≤ turns
  pub before : serde.Members
  pub same : converted (λ ms. of_members ms serde.no_members) (json.members (json.value depth) (length first) first) ≡ converted (λ ms. of_members ms before) (json.members (json.value depth) turns left)
  pub are : AreHeld before held
  pub shorter : length left ≤ length first

pub members_begun : (depth : ℕ) (first : List Token) (held : List FoundEntry) → held ≡ [] → AreMembersReadTo depth first held first
members_begun depth first held none = record {
  turns = length first;
  enough = omega arith;
  before = serde.no_members;
  same = refl;
  are = subst (AreHeld serde.no_members) (sym none) tt;
  shorter = omega arith;
}

pub next_member : (depth : ℕ) (first left behind rest : List Token) (old new : List FoundEntry) (k : List ℕ) (name : String Global) (found : Option Json) → AreMembersReadTo depth first old left
    → read_key left ≡ Some (Some k, behind) → k ≡ string_bytes name → IsRead depth behind found rest → length rest < length behind → new ≡ insert_entry string_cmp old name found
    → AreMembersReadTo depth first new rest
next_member depth first left behind rest old new k name found h key named is less inserted =
    let n = h.turns in
    let fewer = read_key-shorter left (Some k) behind key in
    record {
      turns = n - 1;
      enough = omega (arith, h.enough);
      before = serde.put k is.given h.before;
      same = h.same ∙ member_read (json.value depth) h.before n k left behind rest is.given (omega (arith, h.enough)) key is.read;
      are = subst (AreHeld (serde.put k is.given h.before)) (sym inserted) (held_put h.before old k is.given name found named is.valued h.are);
      shorter = omega (arith, h.shorter);
    }

pub all_members : (depth : ℕ) (first left rest : List Token) (held : List FoundEntry) (found : Option Members) → AreMembersReadTo depth first held left → read_key left ≡ Some (None, rest)
    → found ≡ put_whole held no_members → AreMembersRead depth first found rest
all_members depth first left rest held found h ends kept = record {
  given = h.before;
  read = h.same ∙ members_over (json.value depth) h.before h.turns left rest h.enough ends;
  valued = held_valued h.before held no_members h.are ∙ sym kept;
}

pub no_key : (depth : ℕ) (first left : List Token) (held : List FoundEntry) → AreMembersReadTo depth first held left → read_key left ≡ None
    → converted (λ ms. of_members ms serde.no_members) (json.members (json.value depth) (length first) first) ≡ None
no_key depth first left held h none = h.same ∙ key_refused (json.value depth) h.before h.turns left none

pub no_member : (depth : ℕ) (first left behind : List Token) (held : List FoundEntry) (k : List ℕ) → AreMembersReadTo depth first held left → read_key left ≡ Some (Some k, behind)
    → converted of_json (json.value depth behind) ≡ None → converted (λ ms. of_members ms serde.no_members) (json.members (json.value depth) (length first) first) ≡ None
no_member depth first left behind held k h key none = h.same ∙ member_refused (json.value depth) h.before h.turns k left behind key none

-- ---- a value

pub no_token : (depth : ℕ) (first : List Token) → first ≡ [] → converted of_json (json.value depth first) ≡ None
no_token depth first none = ap (converted of_json) (ap (json.value depth) none ∙ value_is depth [])

pub null_read : (depth : ℕ) (first left : List Token) (v : Json) → first ≡ Token.null ∷ left → view v ≡ null → IsRead depth first (Some v) left
null_read depth first left v is seen = record {
  given = serde.null;
  read = ap (converted of_json) (ap (json.value depth) is ∙ value_is depth _);
  valued = ap Some (sym seen);
}

pub truth_read : (depth : ℕ) (first left : List Token) (b : Bool) (v : Json) → first ≡ Token.boolean b ∷ left → view v ≡ truth b → IsRead depth first (Some v) left
truth_read depth first left b v is seen = record {
  given = serde.boolean b;
  read = ap (converted of_json) (ap (json.value depth) is ∙ value_is depth _);
  valued = ap Some (sym seen);
}

pub text_read : (depth : ℕ) (first left : List Token) (s : List ℕ) (v : Json) → first ≡ Token.string s ∷ left → view v ≡ text s → IsRead depth first (Some v) left
text_read depth first left s v is seen = record {
  given = serde.string s;
  read = ap (converted of_json) (ap (json.value depth) is ∙ value_is depth _);
  valued = ap Some (sym seen);
}

abbrev from_some : {A : Type 0} → A → Option A → A
from_some a None = a
from_some a (Some b) = b

some_number : (o : Option serde.Num) (n : Option ℤ) → option_map as_integer o ≡ Some n → (m : serde.Num) × (o ≡ Some m) × (as_integer m ≡ n)
some_number None n h = absurd (cc)
some_number (Some m) n h = (m, refl, ap (from_some n) h)

pub number_read : (depth : ℕ) (first left : List Token) (s : List ℕ) (n : Option ℤ) (found : Option Json) → first ≡ Token.number s ∷ left → option_map as_integer (number_of s) ≡ Some n
    → option_map view found ≡ option_map whole n → IsRead depth first found left
number_read depth first left s n found is read seen =
    let m = some_number (number_of s) n read in
    record {
      given = serde.number m.0;
      read = ap (converted of_json) (ap (json.value depth) is ∙ value_is depth _) ∙ ap (λ o. option_map (λ d. (d, left)) (option_map (λ x. serde.number x) o)) m.1;
      valued = ap (option_map whole) m.2 ∙ sym seen;
    }

pub number_refused : (depth : ℕ) (first left : List Token) (s : List ℕ) → first ≡ Token.number s ∷ left → number_of s ≡ None → converted of_json (json.value depth first) ≡ None
number_refused depth first left s is none = ap (converted of_json) (ap (json.value depth) is ∙ value_is depth _) ∙ rw none

array_begun : (depth : ℕ) (first left : List Token) → first ≡ Token.begin_array ∷ left → 0 < depth
    → converted of_json (json.value depth first) ≡ parse_map serde.array (converted of_items (json.items (json.value (depth - 1)) (length left) left))
array_begun depth first left is some =
    ap (converted of_json) (ap (json.value depth) is ∙ value-begin_array depth left some) ∙ converted-array (json.items (json.value (depth - 1)) (length left) left)

pub array_read : (depth : ℕ) (first left rest : List Token) (vs : Option Items) (found : Option Json) → first ≡ Token.begin_array ∷ left → 0 < depth → AreItemsRead (depth - 1) left vs rest
    → option_map view found ≡ option_map array vs → IsRead depth first found rest
array_read depth first left rest vs found is some h seen = record {
  given = serde.array h.given;
  read = array_begun depth first left is some ∙ ap (parse_map serde.array) h.read;
  valued = ap (option_map array) h.valued ∙ sym seen;
}

pub array_refused : (depth : ℕ) (first left : List Token) → first ≡ Token.begin_array ∷ left → 0 < depth → converted of_items (json.items (json.value (depth - 1)) (length left) left) ≡ None
    → converted of_json (json.value depth first) ≡ None
array_refused depth first left is some none = array_begun depth first left is some ∙ ap (parse_map serde.array) none

pub array_too_deep : (depth : ℕ) (first left : List Token) → first ≡ Token.begin_array ∷ left → depth ≡ 0 → converted of_json (json.value depth first) ≡ None
unfolding json.value
array_too_deep depth first left is none = ap (converted of_json) (ap₂ json.value none is)

object_begun : (depth : ℕ) (first left : List Token) → first ≡ Token.begin_object ∷ left → 0 < depth
    → converted of_json (json.value depth first) ≡ parse_map serde.object (converted (λ ms. of_members ms serde.no_members) (json.members (json.value (depth - 1)) (length left) left))
object_begun depth first left is some =
    ap (converted of_json) (ap (json.value depth) is ∙ value-begin_object depth left some) ∙ converted-object (json.members (json.value (depth - 1)) (length left) left)

pub object_read : (depth : ℕ) (first left rest : List Token) (ms : Option Members) (found : Option Json) → first ≡ Token.begin_object ∷ left → 0 < depth → AreMembersRead (depth - 1) left ms rest
    → option_map view found ≡ option_map object ms → IsRead depth first found rest
object_read depth first left rest ms found is some h seen = record {
  given = serde.object h.given;
  read = object_begun depth first left is some ∙ ap (parse_map serde.object) h.read;
  valued = ap (option_map object) h.valued ∙ sym seen;
}

pub object_refused : (depth : ℕ) (first left : List Token) → first ≡ Token.begin_object ∷ left → 0 < depth
    → converted (λ ms. of_members ms serde.no_members) (json.members (json.value (depth - 1)) (length left) left) ≡ None → converted of_json (json.value depth first) ≡ None
object_refused depth first left is some none = object_begun depth first left is some ∙ ap (parse_map serde.object) none

pub object_too_deep : (depth : ℕ) (first left : List Token) → first ≡ Token.begin_object ∷ left → depth ≡ 0 → converted of_json (json.value depth first) ≡ None
unfolding json.value
object_too_deep depth first left is none = ap (converted of_json) (ap₂ json.value none is)

-- ---- the whole text

pub text_read_whole : (bytes : List ℕ) (left : List Token) (found : Option Json) → IsUtf8 bytes → left ≡ [] → IsRead max_depth (tokens bytes) found left
    → option_map value_of (data_read bytes) ≡ Some (option_map view found)
text_read_whole bytes left found utf8 none h =
    let o = json.value max_depth (tokens bytes) in
    ap (option_map value_of) (data_read-IsUtf8 bytes utf8 ∙ whole_read o h.given (h.read ∙ ap (λ ts. Some (h.given, ts)) none)) ∙ ap Some h.valued
