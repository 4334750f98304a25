-- The parts of a lawful value are lawful, and an object with a lawful member more is.
use Rattle.std.proofs.Common.{◌≡◌, ◌⊎◌, inl, inr, ⊎_elim, ℕ, List, Option, Some, refl, ap, ◌∙◌, subst}
use Rattle.std.specs.Prelude.{IsUtf8}
use Rattle.std.specs.declared.cmp.Ordering.{Ordering}
use Rattle.std.specs.declared.cmp.Ordering.TheVariants.{Less, Equal, Greater}
use Rattle.std.specs.Ordering.{nat_cmp, match_ordering, ordering_reverse}
use Rattle.std.specs.Cmp.Lexicographic.{slice_cmp}
use Rattle.std.proofs.lemmas.Cmp.{nat_list_cmp_total}
use Rattle.couch_json.specs.Lawful.{AreLawfulMembers, HasAscendingNames, IsBefore, IsLawful}
use Rattle.couch_json.specs.Value.{Members, Value, array, member, member_at, member_of, no_members, null, object, put, text, truth, whole}

-- what was found on either side of a name
pub one_of : (o : Ordering) (found here : Option Value) (v : Value) → match_ordering o found here found ≡ Some v → (found ≡ Some v) ⊎ (here ≡ Some v)
one_of Less found here v e = inl e
one_of Equal found here v e = inr e
one_of Greater found here v e = inl e

member_lawful : (name : List ℕ) (ms : Members) (v : Value) → AreLawfulMembers ms → member_at name ms ≡ Some v → IsLawful v
member_lawful name no_members v h e = absurd cc
member_lawful name (member other w ms) v h e =
    ⊎_elim (λ k. member_lawful name ms v h.2 k) (λ k. let same : w ≡ v = cc in subst IsLawful same h.1)
    (one_of (slice_cmp nat_cmp name other) (member_at name ms) (Some w) v e)

-- a member of a lawful value is lawful
pub member_part : (v w : Value) (name : List ℕ) → IsLawful v → member_of v name ≡ Some w → IsLawful w
member_part null w name h e = absurd cc
member_part (truth b) w name h e = absurd cc
member_part (whole n) w name h e = absurd cc
member_part (text t) w name h e = absurd cc
member_part (array vs) w name h e = absurd cc
member_part (object ms) w name h e = member_lawful name ms w h.1 e

-- ---- members that are put

before_put : (a name : List ℕ) (v : Value) (ms : Members) → slice_cmp nat_cmp a name ≡ Less → IsBefore a ms → IsBefore a (put name v ms)
before_put a name v no_members lt h = (lt, tt)
before_put a name v (member other w ms) lt h = by (slice_cmp nat_cmp name other) (before_put a name v ms lt h.1)
  where
    by : (o : Ordering) → IsBefore a (put name v ms) → IsBefore a (match_ordering o (member name v (member other w ms)) (member other v ms) (member other w (put name v ms)))
    by Less rest = (lt, h)
    by Equal rest = h
    by Greater rest = (h.0, rest)

before_all : (a b : List ℕ) (ms : Members) → slice_cmp nat_cmp a b ≡ Less → IsBefore b ms → IsBefore a ms
before_all a b no_members lt h = tt
before_all a b (member other w ms) lt h = (nat_list_cmp_total.trans a b other lt h.0, before_all a b ms lt h.1)

put_ascends : (name : List ℕ) (v : Value) (ms : Members) → HasAscendingNames ms → HasAscendingNames (put name v ms)
put_ascends name v no_members h = (tt, tt)
put_ascends name v (member other w ms) h = by (slice_cmp nat_cmp name other) refl (put_ascends name v ms h.1)
  where
    by : (o : Ordering) → slice_cmp nat_cmp name other ≡ o → HasAscendingNames (put name v ms) → HasAscendingNames (match_ordering o (member name v (member other w ms)) (member other v ms) (member other w (put name v ms)))
    by Less is rest = ((is, before_all name other ms is h.0), h)
    by Equal is rest = h
    by Greater is rest = (before_put other name v ms (nat_list_cmp_total.antisymm other name ∙ ap ordering_reverse is) h.0, rest)

put_each : (name : List ℕ) (v : Value) (ms : Members) → IsUtf8 name → IsLawful v → AreLawfulMembers ms → AreLawfulMembers (put name v ms)
put_each name v no_members u k h = (u, k, tt)
put_each name v (member other w ms) u k h = by (slice_cmp nat_cmp name other) (put_each name v ms u k h.2)
  where
    by : (o : Ordering) → AreLawfulMembers (put name v ms) → AreLawfulMembers (match_ordering o (member name v (member other w ms)) (member other v ms) (member other w (put name v ms)))
    by Less rest = (u, k, h)
    by Equal rest = (h.0, k, h.2)
    by Greater rest = (h.0, h.1, rest)

-- a lawful object with a lawful member more is lawful
pub put_lawful : (name : List ℕ) (v : Value) (ms : Members) → IsUtf8 name → IsLawful v → IsLawful (object ms) → IsLawful (object (put name v ms))
put_lawful name v ms u k h = (put_ascends name v ms h.0, put_each name v ms u k h.1)
