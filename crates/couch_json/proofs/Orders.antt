-- The order of values is total, and ties are equal values.
use Rattle.std.proofs.Common.{◌≡◌, ◌≤◌, ◌<◌, ℕ, ℤ, List, [], ◌∷◌, Bool, true, false, Ordering, Less, Equal, Greater, nat_cmp, refl, sym, ap, ◌∙◌, arith, rules}
use Rattle.std.proofs.lemmas.Cmp.{nat_list_cmp_total, int_cmp_total, ranked, int_ranked}
use Rattle.std.specs.Cmp.{IsTotalOrder}
use Rattle.std.specs.Cmp.Lexicographic.{slice_cmp}
use Rattle.std.specs.Ordering.{int_cmp, bool_cmp, ordering_then, ordering_reverse, ordering_index}
use Rattle.couch_json.specs.Collation.{collation, kind_rank, items_collation, members_collation}
use Rattle.couch_json.specs.Value.{Value, null, truth, whole, text, array, object, Items, no_items, item, Members, no_members, member}

-- ---- one order and then another

reverse_then : (a b : Ordering) → ordering_reverse (ordering_then a b) ≡ ordering_then (ordering_reverse a) (ordering_reverse b)
reverse_then Less b = refl
reverse_then Equal b = refl
reverse_then Greater b = refl

first_tied : (a b : Ordering) → ordering_then a b ≡ Equal → a ≡ Equal
first_tied Less b h = h
first_tied Equal b h = refl
first_tied Greater b h = h

second_tied : (a b : Ordering) → ordering_then a b ≡ Equal → b ≡ Equal
second_tied Less b h = absurd (omega (arith, ap ordering_index h))
second_tied Equal b h = h
second_tied Greater b h = absurd (omega (arith, ap ordering_index h))

-- a, b and c compare the first with the second, the second with the third, and the first with the third
then_less : (a b c d e f : Ordering) → (a ≡ Less → b ≡ Less → c ≡ Less) → (a ≡ Equal → c ≡ b) → (b ≡ Equal → c ≡ a) → (d ≡ Less → e ≡ Less → f ≡ Less)
    → ordering_then a d ≡ Less → ordering_then b e ≡ Less → ordering_then c f ≡ Less
then_less Less Less c d e f both left right rest h k = ap (λ o. ordering_then o f) (both refl refl)
then_less Less Equal c d e f both left right rest h k = ap (λ o. ordering_then o f) (right refl)
then_less Less Greater c d e f both left right rest h k = absurd (omega (arith, ap ordering_index k))
then_less Equal Less c d e f both left right rest h k = ap (λ o. ordering_then o f) (left refl)
then_less Equal Equal c d e f both left right rest h k = ap (λ o. ordering_then o f) (left refl) ∙ rest h k
then_less Equal Greater c d e f both left right rest h k = absurd (omega (arith, ap ordering_index k))
then_less Greater b c d e f both left right rest h k = absurd (omega (arith, ap ordering_index h))

-- ---- ties

nat_tied : (m n : ℕ) → nat_cmp m n ≡ Equal → m ≡ n
nat_tied m n h = ranked m n Equal (sym h)

int_tied : (m n : ℤ) → int_cmp m n ≡ Equal → m ≡ n
int_tied m n h = int_ranked m n Equal (sym h)

bool_tied : (a b : Bool) → bool_cmp a b ≡ Equal → a ≡ b
bool_tied true true h = refl
bool_tied true false h = absurd (omega (arith, ap ordering_index h))
bool_tied false true h = absurd (omega (arith, ap ordering_index h))
bool_tied false false h = refl

text_tied : (s t : List ℕ) → slice_cmp nat_cmp s t ≡ Equal → s ≡ t
text_tied [] [] h = refl
text_tied [] (y ∷ t) h = absurd (omega (arith, ap ordering_index h))
text_tied (x ∷ s) [] h = absurd (omega (arith, ap ordering_index h))
text_tied (x ∷ s) (y ∷ t) h =
    λ i. nat_tied x y (first_tied (nat_cmp x y) (slice_cmp nat_cmp s t) h) i ∷ text_tied s t (second_tied (nat_cmp x y) (slice_cmp nat_cmp s t) h) i

mutual
  pub collation_tied : (v w : Value) → collation v w ≡ Equal → v ≡ w
  collation_tied null null h = refl
  collation_tied (truth a) (truth b) h = ap truth (bool_tied a b h)
  collation_tied (whole m) (whole n) h = ap whole (int_tied m n h)
  collation_tied (text s) (text t) h = ap text (text_tied s t h)
  collation_tied (array vs) (array ws) h = ap array (items_tied vs ws h)
  collation_tied (object ms) (object ns) h = ap object (members_tied ms ns h)
  collation_tied v w h = absurd (omega (arith, ap ordering_index h))

  items_tied : (vs ws : Items) → items_collation vs ws ≡ Equal → vs ≡ ws
  items_tied no_items no_items h = refl
  items_tied (item v vs) (item w ws) h =
      λ i. item (collation_tied v w (first_tied (collation v w) (items_collation vs ws) h) i) (items_tied vs ws (second_tied (collation v w) (items_collation vs ws) h) i)
  items_tied vs ws h = absurd (omega (arith, ap ordering_index h))

  members_tied : (ms ns : Members) → members_collation ms ns ≡ Equal → ms ≡ ns
  members_tied no_members no_members h = refl
  members_tied (member k v ms) (member l w ns) h =
      let rest = second_tied (slice_cmp nat_cmp k l) (ordering_then (collation v w) (members_collation ms ns)) h in
      λ i. member (text_tied k l (first_tied (slice_cmp nat_cmp k l) (ordering_then (collation v w) (members_collation ms ns)) h) i)
      (collation_tied v w (first_tied (collation v w) (members_collation ms ns) rest) i)
      (members_tied ms ns (second_tied (collation v w) (members_collation ms ns) rest) i)
  members_tied ms ns h = absurd (omega (arith, ap ordering_index h))

-- ---- the other way round

bool_reversed : (a b : Bool) → bool_cmp a b ≡ ordering_reverse (bool_cmp b a)
bool_reversed true true = refl
bool_reversed true false = refl
bool_reversed false true = refl
bool_reversed false false = refl

null_reversed : (w : Value) → collation null w ≡ ordering_reverse (collation w null)
null_reversed null = refl
null_reversed (truth b) = refl
null_reversed (whole n) = refl
null_reversed (text s) = refl
null_reversed (array vs) = refl
null_reversed (object ms) = refl

mutual
  collation_reversed : (v w : Value) → collation v w ≡ ordering_reverse (collation w v)
  collation_reversed null w = null_reversed w
  collation_reversed (truth a) (truth b) = bool_reversed a b
  collation_reversed (whole m) (whole n) = int_cmp_total.antisymm m n
  collation_reversed (text s) (text t) = nat_list_cmp_total.antisymm s t
  collation_reversed (array vs) (array ws) = items_reversed vs ws
  collation_reversed (object ms) (object ns) = members_reversed ms ns
  collation_reversed v w = refl

  items_reversed : (vs ws : Items) → items_collation vs ws ≡ ordering_reverse (items_collation ws vs)
  items_reversed (item v vs) (item w ws) =
      (λ i. ordering_then (collation_reversed v w i) (items_reversed vs ws i)) ∙ sym (reverse_then (collation w v) (items_collation ws vs))
  items_reversed no_items no_items = refl
  items_reversed no_items (item w ws) = refl
  items_reversed (item v vs) no_items = refl

  members_reversed : (ms ns : Members) → members_collation ms ns ≡ ordering_reverse (members_collation ns ms)
  members_reversed (member k v ms) (member l w ns) =
      (λ i. ordering_then (nat_list_cmp_total.antisymm k l i) (ordering_then (collation_reversed v w i) (members_reversed ms ns i)))
      ∙ ap (ordering_then (ordering_reverse (slice_cmp nat_cmp l k))) (sym (reverse_then (collation w v) (members_collation ns ms)))
      ∙ sym (reverse_then (slice_cmp nat_cmp l k) (ordering_then (collation w v) (members_collation ns ms)))
  members_reversed no_members no_members = refl
  members_reversed no_members (member l w ns) = refl
  members_reversed (member k v ms) no_members = refl

-- ---- three in a row

bool_less : (a b c : Bool) → bool_cmp a b ≡ Less → bool_cmp b c ≡ Less → bool_cmp a c ≡ Less
bool_less true true c h k = absurd (omega (arith, ap ordering_index h))
bool_less true false c h k = absurd (omega (arith, ap ordering_index h))
bool_less false true true h k = refl
bool_less false true false h k = absurd (omega (arith, ap ordering_index k))
bool_less false false c h k = absurd (omega (arith, ap ordering_index h))

nat_less : (m n : ℕ) → nat_cmp m n ≡ Less → m < n
nat_less m n h = ranked m n Less (sym h)

nat_cmp_less : (m n : ℕ) → m < n → nat_cmp m n ≡ Less
nat_cmp_less m n h = search (arith, rules)

-- what is less has no later kind
kind_no_later : (v w : Value) → collation v w ≡ Less → kind_rank v ≤ kind_rank w
kind_no_later (truth a) (truth b) h = omega arith
kind_no_later (whole m) (whole n) h = omega arith
kind_no_later (text s) (text t) h = omega arith
kind_no_later (array vs) (array ws) h = omega arith
kind_no_later (object ms) (object ns) h = omega arith
kind_no_later v w h = omega (arith, nat_less (kind_rank v) (kind_rank w) h)

kind_earlier : (v w : Value) → kind_rank v < kind_rank w → collation v w ≡ Less
kind_earlier (truth a) (truth b) h = absurd (omega (arith, h))
kind_earlier (whole m) (whole n) h = absurd (omega (arith, h))
kind_earlier (text s) (text t) h = absurd (omega (arith, h))
kind_earlier (array vs) (array ws) h = absurd (omega (arith, h))
kind_earlier (object ms) (object ns) h = absurd (omega (arith, h))
kind_earlier v w h = nat_cmp_less (kind_rank v) (kind_rank w) h

mutual
  collation_less : (u v w : Value) → collation u v ≡ Less → collation v w ≡ Less → collation u w ≡ Less
  collation_less null null null h k = h
  collation_less (truth a) (truth b) (truth c) h k = bool_less a b c h k
  collation_less (whole l) (whole m) (whole n) h k = int_cmp_total.trans l m n h k
  collation_less (text r) (text s) (text t) h k = nat_list_cmp_total.trans r s t h k
  collation_less (array us) (array vs) (array ws) h k = items_less us vs ws h k
  collation_less (object ls) (object ms) (object ns) h k = members_less ls ms ns h k
  collation_less u v w h k = kind_earlier u w (omega (arith, kind_no_later u v h, kind_no_later v w k))

  items_less : (us vs ws : Items) → items_collation us vs ≡ Less → items_collation vs ws ≡ Less → items_collation us ws ≡ Less
  items_less no_items vs (item w ws) h k = refl
  items_less no_items no_items no_items h k = h
  items_less no_items (item v vs) no_items h k = absurd (omega (arith, ap ordering_index k))
  items_less (item u us) (item v vs) (item w ws) h k =
      then_less (collation u v) (collation v w) (collation u w) (items_collation us vs) (items_collation vs ws) (items_collation us ws)
      (collation_less u v w) (λ e. ap (λ t. collation t w) (collation_tied u v e)) (λ e. sym (ap (collation u) (collation_tied v w e)))
      (items_less us vs ws) h k
  items_less (item u us) no_items ws h k = absurd (omega (arith, ap ordering_index h))
  items_less (item u us) (item v vs) no_items h k = k

  members_less : (ls ms ns : Members) → members_collation ls ms ≡ Less → members_collation ms ns ≡ Less → members_collation ls ns ≡ Less
  members_less no_members ms (member n w ns) h k = refl
  members_less no_members no_members no_members h k = h
  members_less no_members (member m v ms) no_members h k = absurd (omega (arith, ap ordering_index k))
  members_less (member l u ls) no_members ns h k = absurd (omega (arith, ap ordering_index h))
  members_less (member l u ls) (member m v ms) no_members h k = k
  members_less (member l u ls) (member m v ms) (member n w ns) h k =
      then_less (slice_cmp nat_cmp l m) (slice_cmp nat_cmp m n) (slice_cmp nat_cmp l n)
      (ordering_then (collation u v) (members_collation ls ms)) (ordering_then (collation v w) (members_collation ms ns)) (ordering_then (collation u w) (members_collation ls ns))
      (nat_list_cmp_total.trans l m n) (λ e. ap (λ t. slice_cmp nat_cmp t n) (text_tied l m e)) (λ e. sym (ap (slice_cmp nat_cmp l) (text_tied m n e)))
      (then_less (collation u v) (collation v w) (collation u w) (members_collation ls ms) (members_collation ms ns) (members_collation ls ns)
      (collation_less u v w) (λ e. ap (λ t. collation t w) (collation_tied u v e)) (λ e. sym (ap (collation u) (collation_tied v w e)))
      (members_less ls ms ns))
      h k

pub collation_total : IsTotalOrder collation
collation_total = record { antisymm = collation_reversed; trans = collation_less; congr = λ v w u h. ap (λ t. collation t u) (collation_tied v w h) }
