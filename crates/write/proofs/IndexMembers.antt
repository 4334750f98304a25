-- The members of a design document with one more index.
use Rattle.std.proofs.Common.{◌≡◌, ℕ, List, Option, Some, None, Ordering, Less, Equal, Greater, nat_cmp, codes, arith, refl, ap, rules}
use Rattle.std.proofs.lemmas.Cmp.{nat_list_cmp_total}
use Rattle.std.specs.Cmp.Lexicographic.{slice_cmp}
use Rattle.std.specs.Ordering.{ordering_reverse}
use Rattle.std.specs.Prelude.{option_and_then}
use Rattle.couch_json.specs.Value.{Value, null, truth, whole, text, array, object, Members, no_members, member, member_at, member_of, put}
use Rattle.couch_json.specs.View.{view}
use Rattle.couch_json.specs.declared.value.Json.{Null, the_lemmas}
use Rattle.write.specs.IndexWrites.{members_if, with_index}

abbrev rank : Ordering → ℕ
rank Less = 0
rank Equal = 1
rank Greater = 2

own_reverse : (o : Ordering) → o ≡ ordering_reverse o → o ≡ Equal
own_reverse Less is = let apart : 0 ≡ 2 = ap rank is in absurd (omega (arith, apart))
own_reverse Equal is = refl
own_reverse Greater is = let apart : 2 ≡ 0 = ap rank is in absurd (omega (arith, apart))

same : (name : List ℕ) → slice_cmp nat_cmp name name ≡ Equal
same name = own_reverse (slice_cmp nat_cmp name name) (nat_list_cmp_total.antisymm name name)

put_again_at : (o : Ordering) (name other : List ℕ) (v w u : Value) (ms : Members) → slice_cmp nat_cmp name other ≡ o
    → put name v (put name w ms) ≡ put name v ms → put name v (put name w (member other u ms)) ≡ put name v (member other u ms)
put_again_at Less name other v w u ms is again = rw (is, same name) refl
put_again_at Equal name other v w u ms is again = rw (is, is) refl
put_again_at Greater name other v w u ms is again = rw (is, is) (ap (member other u) again)

-- a value that is put at a name in the place of another
pub put_again : (name : List ℕ) (v w : Value) (ms : Members) → put name v (put name w ms) ≡ put name v ms
put_again name v w no_members = rw (same name) refl
put_again name v w (member other u ms) = put_again_at (slice_cmp nat_cmp name other) name other v w u ms refl (put_again name v w ms)

-- a member of what may be an object
pub member_if : (name : List ℕ) (body : Option Value) → member_at name (members_if body) ≡ option_and_then (λ b. member_of b name) body
member_if name None = refl
member_if name (Some null) = refl
member_if name (Some (truth b)) = refl
member_if name (Some (whole n)) = refl
member_if name (Some (text s)) = refl
member_if name (Some (array vs)) = refl
member_if name (Some (object ms)) = refl

-- one more index is put where null stood in the place of the others
pub with_one_more : (name : List ℕ) (index : Value) (body : Option Value) (first taken left after last : Members) → first ≡ members_if body → taken ≡ members_if (member_at (codes "indexes") first)
    → left ≡ put (codes "indexes") null first → after ≡ put name index taken → last ≡ put (codes "indexes") (object after) left → object last ≡ with_index name index body
with_one_more name index body first taken left after last f t l a z =
    rw (z, a, t, l, f, member_if (codes "indexes") body, put_again (codes "indexes") (object (put name index (members_if (option_and_then (λ b. member_of b (codes "indexes")) body)))) null (members_if body)) refl

pub view-Null : view Null ≡ null
view-Null = search (rules, the_lemmas)
