-- The keys are in the order of the values, whatever follows them.
use Rattle.std.proofs.Common.{◌≡◌, ℕ, zero, suc, ◌+◌, ◌*◌, ◌%◌, ◌^◌, ◌<◌, ◌≤◌, ◌==◌, ◌<ℤ◌, lit<, ℤ, pos, negsuc, List, [], ◌∷◌, ◌++◌, true, false, cond, refl, sym, ap, ap₂, ◌∙◌, subst, arith, append_assoc, append-nil}
use Rattle.std.specs.declared.cmp.Ordering.{Ordering}
use Rattle.std.specs.declared.cmp.Ordering.TheVariants.{Less, Equal, Greater}
use Rattle.std.specs.Ordering.{ordering_then, nat_cmp, int_cmp, MatchOrdering}
use Rattle.std.specs.Cmp.{nat_cmp_is, int_cmp_is}
use Rattle.std.specs.Cmp.Lexicographic.{slice_cmp}
use Rattle.std.specs.Int.{bytes_high_first, byte_at}
use Rattle.std.proofs.lemmas.Cmp.{ranked, tied_itself, nat_list_cmp_total}
use Rattle.couch_json.proofs.Orders.{collation_tied}
use Rattle.std.proofs.lemmas.Bool.Decides.{nat_tests}
use Rattle.std.proofs.Math.Arith.{mod-mul}
use Rattle.std.proofs.Math.Nat.{mul-le-mul_right, pow-succ'}
use Rattle.std.proofs.lemmas.Int.{ints}
use Rattle.couch_json.specs.Range.{IsInRange}
use Rattle.couch_json.specs.Lawful.{IsLawful, AreLawfulItems, AreLawfulMembers}
use Rattle.couch_json.specs.Value.{Value, null, truth, whole, text, array, object, Items, no_items, item, Members, no_members, member}
use Rattle.couch_json.specs.Collation.{collation, items_collation, members_collation}
use Rattle.couch_json.specs.Key.{text_key, height, key, items_key, members_key}

then_assoc : (a b c : Ordering) → ordering_then (ordering_then a b) c ≡ ordering_then a (ordering_then b c)
then_assoc Less b c = refl
then_assoc Equal b c = refl
then_assoc Greater b c = refl

less : (m n : ℕ) → m < n → nat_cmp m n ≡ Less
less m n h = sym (nat_cmp_is m n Less h)

greater : (m n : ℕ) → n < m → nat_cmp m n ≡ Greater
greater m n h = sym (nat_cmp_is m n Greater h)

-- ---- numbers

digits_below : (a b c d base : ℕ) → c < base → a < b → a * base + c < b * base + d
digits_below a b c d base p h = omega (arith, mul-le-mul_right base (suc_le a b h))
  where
    suc_le : (a b : ℕ) → a < b → a + 1 ≤ b
    suc_le a b h = omega arith

same_shift : (m c d : ℕ) (o : Ordering) → o ≡ nat_cmp c d → MatchOrdering o (c < d) (c ≡ d) (d < c) → nat_cmp (m + c) (m + d) ≡ o
same_shift m c d Less e h = less (m + c) (m + d) (omega arith)
same_shift m c d Equal e h = sym (nat_cmp_is (m + c) (m + d) Equal (omega arith))
same_shift m c d Greater e h = greater (m + c) (m + d) (omega arith)

digits_apart : (a b c d base : ℕ) → c < base → d < base → (o : Ordering) → o ≡ nat_cmp a b → MatchOrdering o (a < b) (a ≡ b) (b < a)
    → nat_cmp (a * base + c) (b * base + d) ≡ ordering_then o (nat_cmp c d)
digits_apart a b c d base p q Less e h = less (a * base + c) (b * base + d) (digits_below a b c d base p h)
digits_apart a b c d base p q Equal e h =
    ap (λ x. nat_cmp (a * base + c) (x * base + d)) (sym h) ∙ same_shift (a * base) c d (nat_cmp c d) refl (ranked c d (nat_cmp c d) refl)
digits_apart a b c d base p q Greater e h = greater (a * base + c) (b * base + d) (digits_below b a d c base q h)

power_positive : (k : ℕ) → 0 < 256 ^ k
power_positive zero = lit< tt
power_positive (suc k) = subst (λ x. 0 < x) (sym (pow-succ' 256 k)) (omega (arith, power_positive k))

pub byte_is : (k n : ℕ) → n % 256 ^ suc k ≡ byte_at k n * 256 ^ k + n % 256 ^ k
byte_is zero n = omega arith
byte_is (suc k) n = ap (λ x. n % x) (pow-succ' 256 (suc k)) ∙ mod-mul n {m = 256} {c = 256 ^ suc k} (lit< tt) (power_positive (suc k))

mod_below : (n k : ℕ) → n % 256 ^ k < 256 ^ k
mod_below n k = omega (arith, power_positive k)

bytes_order : (k m n : ℕ) (r s : List ℕ)
    → slice_cmp nat_cmp (bytes_high_first k m ++ r) (bytes_high_first k n ++ s) ≡ ordering_then (nat_cmp (m % 256 ^ k) (n % 256 ^ k)) (slice_cmp nat_cmp r s)
bytes_order zero m n r s =
    let a : m % 1 ≡ 0 = omega arith in
    let b : n % 1 ≡ 0 = omega arith in
    ap₂ (λ x y. ordering_then (nat_cmp x y) (slice_cmp nat_cmp r s)) (sym a) (sym b)
bytes_order (suc k) m n r s =
    let top = nat_cmp (byte_at k m) (byte_at k n) in
    let low = nat_cmp (m % 256 ^ k) (n % 256 ^ k) in
    let whole : nat_cmp (m % 256 ^ suc k) (n % 256 ^ suc k) ≡ ordering_then top low =
    ap₂ nat_cmp (byte_is k m) (byte_is k n) ∙ digits_apart (byte_at k m) (byte_at k n) (m % 256 ^ k) (n % 256 ^ k) (256 ^ k) (mod_below m k) (mod_below n k) top refl (ranked (byte_at k m) (byte_at k n) top refl) in
    ap (ordering_then top) (bytes_order k m n r s) ∙ sym (then_assoc top low (slice_cmp nat_cmp r s)) ∙ ap (λ o. ordering_then o (slice_cmp nat_cmp r s)) (sym whole)

pub height_below : (z : ℤ) → IsInRange z → height z < 256 ^ 9
height_below (pos n) p = omega (arith, ints)
height_below (negsuc n) p = omega (arith, ints)

pub height_order : (y z : ℤ) → IsInRange y → IsInRange z → (o : Ordering) → MatchOrdering o (height y < height z) (height y ≡ height z) (height z < height y)
    → MatchOrdering o (y <ℤ z) (y ≡ z) (z <ℤ y)
height_order (pos a) (pos b) p q Less h = omega (arith, ints)
height_order (pos a) (pos b) p q Equal h = let e : a ≡ b = omega (arith, ints) in ap pos e
height_order (pos a) (pos b) p q Greater h = omega (arith, ints)
height_order (pos a) (negsuc b) p q Less h = absurd (omega (arith, ints))
height_order (pos a) (negsuc b) p q Equal h = absurd (omega (arith, ints))
height_order (pos a) (negsuc b) p q Greater h = omega (arith, ints)
height_order (negsuc a) (pos b) p q Less h = omega (arith, ints)
height_order (negsuc a) (pos b) p q Equal h = absurd (omega (arith, ints))
height_order (negsuc a) (pos b) p q Greater h = absurd (omega (arith, ints))
height_order (negsuc a) (negsuc b) p q Less h = omega (arith, ints)
height_order (negsuc a) (negsuc b) p q Equal h = let e : a ≡ b = omega (arith, ints) in ap negsuc e
height_order (negsuc a) (negsuc b) p q Greater h = omega (arith, ints)

wholes_order : (y z : ℤ) → IsInRange y → IsInRange z → nat_cmp (height y) (height z) ≡ int_cmp y z
wholes_order y z p q = int_cmp_is y z (nat_cmp (height y) (height z)) (height_order y z p q (nat_cmp (height y) (height z)) (ranked (height y) (height z) (nat_cmp (height y) (height z)) refl))

-- ---- texts

not_zero : (b : ℕ) → 0 < b → (b == 0) ≡ false
not_zero b h = grind (arith, nat_tests)

pub text_cons : (b : ℕ) (bs : List ℕ) → 0 < b → text_key (b ∷ bs) ≡ b ∷ text_key bs
text_cons b bs h = ap (λ t. cond t (0 ∷ 255 ∷ text_key bs) (b ∷ text_key bs)) (not_zero b h)

texts_order : (s t r u : List ℕ) → slice_cmp nat_cmp (text_key s ++ r) (text_key t ++ u) ≡ ordering_then (slice_cmp nat_cmp s t) (slice_cmp nat_cmp r u)
texts_order [] [] r u = refl
texts_order [] (zero ∷ t) r u = refl
texts_order [] (suc y ∷ t) r u =
    let h : 0 < suc y = omega arith in
    ap (λ l. slice_cmp nat_cmp (0 ∷ 0 ∷ r) (l ++ u)) (text_cons (suc y) t h) ∙ ap (λ o. ordering_then o (slice_cmp nat_cmp (0 ∷ r) (text_key t ++ u))) (less 0 (suc y) h)
texts_order (zero ∷ s) [] r u = refl
texts_order (suc x ∷ s) [] r u =
    let h : 0 < suc x = omega arith in
    ap (λ l. slice_cmp nat_cmp (l ++ r) (0 ∷ 0 ∷ u)) (text_cons (suc x) s h) ∙ ap (λ o. ordering_then o (slice_cmp nat_cmp (text_key s ++ r) (0 ∷ u))) (greater (suc x) 0 h)
texts_order (zero ∷ s) (zero ∷ t) r u = texts_order s t r u
texts_order (zero ∷ s) (suc y ∷ t) r u =
    let h : 0 < suc y = omega arith in
    let e = less 0 (suc y) h in
    ap (λ l. slice_cmp nat_cmp (0 ∷ 255 ∷ (text_key s ++ r)) (l ++ u)) (text_cons (suc y) t h)
    ∙ ap (λ o. ordering_then o (slice_cmp nat_cmp (255 ∷ (text_key s ++ r)) (text_key t ++ u))) e ∙ sym (ap (λ o. ordering_then (ordering_then o (slice_cmp nat_cmp s t)) (slice_cmp nat_cmp r u)) e)
texts_order (suc x ∷ s) (zero ∷ t) r u =
    let h : 0 < suc x = omega arith in
    let e = greater (suc x) 0 h in
    ap (λ l. slice_cmp nat_cmp (l ++ r) (0 ∷ 255 ∷ (text_key t ++ u))) (text_cons (suc x) s h)
    ∙ ap (λ o. ordering_then o (slice_cmp nat_cmp (text_key s ++ r) (255 ∷ (text_key t ++ u)))) e ∙ sym (ap (λ o. ordering_then (ordering_then o (slice_cmp nat_cmp s t)) (slice_cmp nat_cmp r u)) e)
texts_order (suc x ∷ s) (suc y ∷ t) r u =
    ap₂ (λ l m. slice_cmp nat_cmp (l ++ r) (m ++ u)) (text_cons (suc x) s (omega arith)) (text_cons (suc y) t (omega arith))
    ∙ ap (ordering_then (nat_cmp (suc x) (suc y))) (texts_order s t r u) ∙ sym (then_assoc (nat_cmp (suc x) (suc y)) (slice_cmp nat_cmp s t) (slice_cmp nat_cmp r u))

-- ---- values

pub ends_first : (w : Value) (r s : List ℕ) → slice_cmp nat_cmp (0 ∷ r) (key w ++ s) ≡ Less
ends_first null r s = refl
ends_first (truth false) r s = refl
ends_first (truth true) r s = refl
ends_first (whole z) r s = refl
ends_first (text t) r s = refl
ends_first (array vs) r s = refl
ends_first (object ms) r s = refl

ends_second : (w : Value) (r s : List ℕ) → slice_cmp nat_cmp (key w ++ s) (0 ∷ r) ≡ Greater
ends_second null r s = refl
ends_second (truth false) r s = refl
ends_second (truth true) r s = refl
ends_second (whole z) r s = refl
ends_second (text t) r s = refl
ends_second (array vs) r s = refl
ends_second (object ms) r s = refl

mutual
  pub key_order : (v w : Value) (r s : List ℕ) → IsLawful v → IsLawful w
      → slice_cmp nat_cmp (key v ++ r) (key w ++ s) ≡ ordering_then (collation v w) (slice_cmp nat_cmp r s)
  key_order null (truth false) r s p q = refl
  key_order null (truth true) r s p q = refl
  key_order (truth false) null r s p q = refl
  key_order (truth true) null r s p q = refl
  key_order (truth false) (truth false) r s p q = refl
  key_order (truth false) (truth true) r s p q = refl
  key_order (truth true) (truth false) r s p q = refl
  key_order (truth true) (truth true) r s p q = refl
  key_order (whole y) (truth false) r s p q = refl
  key_order (whole y) (truth true) r s p q = refl
  key_order (whole y) (whole z) r s p q =
      let a : height y % 256 ^ 9 ≡ height y = omega (arith, height_below y p) in
      let b : height z % 256 ^ 9 ≡ height z = omega (arith, height_below z q) in
      bytes_order 9 (height y) (height z) r s ∙ ap₂ (λ m n. ordering_then (nat_cmp m n) (slice_cmp nat_cmp r s)) a b ∙ ap (λ o. ordering_then o (slice_cmp nat_cmp r s)) (wholes_order y z p q)
  key_order (text t) (truth false) r s p q = refl
  key_order (text t) (truth true) r s p q = refl
  key_order (text t) (text u) r s p q = texts_order t u r s
  key_order (array vs) (truth false) r s p q = refl
  key_order (array vs) (truth true) r s p q = refl
  key_order (array vs) (array ws) r s p q = items_key_order vs ws r s p q
  key_order (object ms) (truth false) r s p q = refl
  key_order (object ms) (truth true) r s p q = refl
  key_order (object ms) (object ns) r s p q = members_key_order ms ns r s p.1 q.1
  key_order v w r s p q = refl

  items_key_order : (vs ws : Items) (r s : List ℕ) → AreLawfulItems vs → AreLawfulItems ws
      → slice_cmp nat_cmp (items_key vs ++ r) (items_key ws ++ s) ≡ ordering_then (items_collation vs ws) (slice_cmp nat_cmp r s)
  items_key_order no_items no_items r s p q = refl
  items_key_order no_items (item w ws) r s p q = ap (slice_cmp nat_cmp (0 ∷ r)) (append_assoc (key w) (items_key ws) s) ∙ ends_first w r (items_key ws ++ s)
  items_key_order (item v vs) no_items r s p q = ap (λ l. slice_cmp nat_cmp l (0 ∷ s)) (append_assoc (key v) (items_key vs) r) ∙ ends_second v s (items_key vs ++ r)
  items_key_order (item v vs) (item w ws) r s p q =
      ap₂ (slice_cmp nat_cmp) (append_assoc (key v) (items_key vs) r) (append_assoc (key w) (items_key ws) s)
      ∙ key_order v w (items_key vs ++ r) (items_key ws ++ s) p.0 q.0
      ∙ ap (ordering_then (collation v w)) (items_key_order vs ws r s p.1 q.1) ∙ sym (then_assoc (collation v w) (items_collation vs ws) (slice_cmp nat_cmp r s))

  members_key_order : (ms ns : Members) (r s : List ℕ) → AreLawfulMembers ms → AreLawfulMembers ns
      → slice_cmp nat_cmp (members_key ms ++ r) (members_key ns ++ s) ≡ ordering_then (members_collation ms ns) (slice_cmp nat_cmp r s)
  members_key_order no_members no_members r s p q = refl
  members_key_order no_members (member l w ns) r s p q = refl
  members_key_order (member k v ms) no_members r s p q = refl
  members_key_order (member k v ms) (member l w ns) r s p q =
      let names = slice_cmp nat_cmp k l in
      ap₂ (slice_cmp nat_cmp) (append_assoc (text_key k) (key v ++ members_key ms) r ∙ ap (λ t. text_key k ++ t) (append_assoc (key v) (members_key ms) r))
      (append_assoc (text_key l) (key w ++ members_key ns) s ∙ ap (λ t. text_key l ++ t) (append_assoc (key w) (members_key ns) s))
      ∙ texts_order k l (key v ++ (members_key ms ++ r)) (key w ++ (members_key ns ++ s))
      ∙ ap (ordering_then names) (key_order v w (members_key ms ++ r) (members_key ns ++ s) p.1 q.1 ∙ ap (ordering_then (collation v w)) (members_key_order ms ns r s p.2 q.2))
      ∙ ap (ordering_then names) (sym (then_assoc (collation v w) (members_collation ms ns) (slice_cmp nat_cmp r s)))
      ∙ sym (then_assoc names (ordering_then (collation v w) (members_collation ms ns)) (slice_cmp nat_cmp r s))

then_Equal : (a : Ordering) → ordering_then a Equal ≡ a
then_Equal Less = refl
then_Equal Equal = refl
then_Equal Greater = refl

then_first : (a b : Ordering) → ordering_then a b ≡ Equal → a ≡ Equal
then_first Less b h = h
then_first Equal b h = refl
then_first Greater b h = h

pub keys_in_order : (v w : Value) → IsLawful v → IsLawful w → slice_cmp nat_cmp (key v) (key w) ≡ collation v w
keys_in_order v w p q = sym (ap₂ (slice_cmp nat_cmp) (append-nil (key v)) (append-nil (key w))) ∙ key_order v w [] [] p q ∙ then_Equal (collation v w)

-- no key is the front of another value's key
pub keys_prefix_free : (v w : Value) (rest : List ℕ) → IsLawful v → IsLawful w → key v ++ rest ≡ key w → v ≡ w
keys_prefix_free v w rest p q e =
    let level : slice_cmp nat_cmp (key v ++ rest) (key w ++ []) ≡ Equal = ap₂ (slice_cmp nat_cmp) e (append-nil (key w)) ∙ tied_itself nat_list_cmp_total (key w) in
    collation_tied v w (then_first (collation v w) (slice_cmp nat_cmp rest []) (sym (key_order v w rest [] p q) ∙ level))

pub key-injective : (v w : Value) → IsLawful v → IsLawful w → key v ≡ key w → v ≡ w
key-injective v w p q e = keys_prefix_free v w [] p q (append-nil (key v) ∙ e)
