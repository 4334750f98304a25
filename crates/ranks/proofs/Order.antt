-- Keys in byte order, and how many are below one.
use Rattle.std.proofs.Common.{◌≡◌, ℕ, ◌+◌, ◌≤◌, List, [], ◌∷◌, Bool, true, false, cond, length, Ordering, Less, Equal, Greater, nat_cmp, refl, ap, ◌∙◌, arith}
use Rattle.std.specs.Cmp.Lexicographic.{slice_cmp}
use Rattle.std.specs.Ordering.{is_lt, ordering_reverse}
use Rattle.std.proofs.lemmas.Cmp.{nat_list_cmp_total, tied_itself}
use Rattle.ranks.specs.Counts.{below, between, is_below}

less_than : (o : Ordering) → is_lt o ≡ true → o ≡ Less
less_than Less h = refl
less_than Equal h = cc
less_than Greater h = cc

turned : (k l : List ℕ) (r : Ordering) → slice_cmp nat_cmp k l ≡ r → slice_cmp nat_cmp l k ≡ ordering_reverse r
turned k l r h = nat_list_cmp_total.antisymm l k ∙ ap ordering_reverse h

pub below_trans : (a b c : List ℕ) → is_below a b ≡ true → is_below b c ≡ true → is_below a c ≡ true
below_trans a b c h k = ap is_lt (nat_list_cmp_total.trans a b c (less_than _ h) (less_than _ k))

reach_by : (k f key : List ℕ) (r : Ordering) → slice_cmp nat_cmp key f ≡ r → is_lt r ≡ false → slice_cmp nat_cmp k f ≡ Less → slice_cmp nat_cmp k key ≡ Less
reach_by k f key Less e h l = cc
reach_by k f key Equal e h l = turned key k Greater (nat_list_cmp_total.congr key f k e ∙ turned k f Less l)
reach_by k f key Greater e h l = nat_list_cmp_total.trans k f key l (turned key f Greater e)

-- k below f, f at or below key
pub below_reach : (k f key : List ℕ) → is_below k f ≡ true → is_below key f ≡ false → is_below k key ≡ true
below_reach k f key h g = ap is_lt (reach_by k f key (slice_cmp nat_cmp key f) refl g (less_than _ h))

pub none_below : (k : List ℕ) → is_below k [] ≡ false
none_below [] = refl
none_below (x ∷ xs) = refl

-- ---- how many

part : (f key k : List ℕ) → is_below key f ≡ false → (b : Bool) → is_below k f ≡ b → cond (is_below k key) 1 0 ≡ cond (is_below k f) 1 0 + cond (is_below k f) 0 (cond (is_below k key) 1 0)
part f key k h true e = rw (e, below_reach k f key e h) refl
part f key k h false e = rw e (omega arith)

pub rank : (f key : List ℕ) (ks : List (List ℕ)) → is_below key f ≡ false → below key ks ≡ below f ks + between f key ks
rank f key [] h = refl
rank f key (k ∷ ks) h = let rest = rank f key ks h in let step = part f key k h (is_below k f) refl in omega (arith, rest, step)

pub below_empty : (ks : List (List ℕ)) → below [] ks ≡ 0
below_empty [] = refl
below_empty (k ∷ ks) = rw (none_below k) (omega (arith, below_empty ks))

one : (b : Bool) → cond b 1 0 ≤ 1
one true = omega arith
one false = omega arith

pub below_length : (f : List ℕ) (ks : List (List ℕ)) → below f ks ≤ length ks
below_length f [] = omega arith
below_length f (k ∷ ks) = omega (arith, below_length f ks, one (is_below k f))

step_by : (f key g k : List ℕ) → is_below key f ≡ false → is_below key g ≡ true → (b : Bool) → is_below k f ≡ b → cond (is_below k f) 1 0 ≤ cond (is_below k g) 1 0
step_by f key g k h l true e = rw (e, below_trans k key g (below_reach k f key e h) l) (omega arith)
step_by f key g k h l false e = rw e (omega arith)

pub below_rises : (f key g : List ℕ) (ks : List (List ℕ)) → is_below key f ≡ false → is_below key g ≡ true → below f ks ≤ below g ks
below_rises f key g [] h l = omega arith
below_rises f key g (k ∷ ks) h l = omega (arith, below_rises f key g ks h l, step_by f key g k h l (is_below k f) refl)

pub below_less : (f key : List ℕ) (ks : List (List ℕ)) → is_below key f ≡ true → below f (key ∷ ks) ≡ below f ks + 1
below_less f key ks h = rw h (omega arith)

pub below_other : (f key : List ℕ) (ks : List (List ℕ)) → is_below key f ≡ false → below f (key ∷ ks) ≡ below f ks
below_other f key ks h = rw h (omega arith)

pub not_below : (key f g : List ℕ) (b : Bool) → is_below key f ≡ b → is_below f g ≡ true → is_below key g ≡ false → is_below key f ≡ false
not_below key f g false e h n = e
not_below key f g true e h n = let yes = below_trans key f g e h in cc

pub not_under : (k : List ℕ) → is_below k k ≡ false
not_under k = ap is_lt (tied_itself nat_list_cmp_total k)
