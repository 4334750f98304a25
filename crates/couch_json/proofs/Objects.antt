-- The members of an object, beside the entries of the map that holds them.
use Rattle.std.proofs.Common.{◌≡◌, ℕ, List, [], ◌∷◌, String, Global, Option, Some, None, option_map, is_eq, cond, Bor, Ordering, Less, Equal, Greater, string_bytes, string_cmp, nat_cmp, refl, sym, ap, ◌∙◌, rules}
use Rattle.std.proofs.lemmas.Cmp.{nat_list_cmp_total}
use Rattle.std.specs.Cmp.Lexicographic.{slice_cmp}
use Rattle.std.specs.List.{AllByRecursion}
use Rattle.std.specs.List.Sorted.{IsStrictlySortedBy}
use Rattle.std.specs.Map.{keys_of, lookup}
use Rattle.std.specs.Ordering.{match_ordering, ordering_reverse}
use Rattle.std.specs.BTreeMap.{insert_entry, is_at}
use Rattle.name_map.specs.Seen.{NameMap}
use Rattle.couch_json.specs.Value.{Value, Members, no_members, member, put, put_all, member_at, object}
use Rattle.couch_json.specs.Lawful.{IsBefore, HasAscendingNames}
use Rattle.couch_json.specs.View.{view, members_view}
use Rattle.couch_json.specs.declared.value.Json.{Json, Object, the_lemmas}

abbrev pub Entry : Type 0
Entry = String Global × Json

members_view-match_ordering : (o : Ordering) (a b c : List Entry) → members_view (match_ordering o a b c) ≡ match_ordering o (members_view a) (members_view b) (members_view c)
members_view-match_ordering Less a b c = refl
members_view-match_ordering Equal a b c = refl
members_view-match_ordering Greater a b c = refl

-- an insert into the map puts the value at the name
pub members_view-insert_entry : (es : List Entry) (name : String Global) (v : Json)
    → members_view (insert_entry string_cmp es name v) ≡ put (string_bytes name) (view v) (members_view es)
members_view-insert_entry [] name v = refl
members_view-insert_entry (e ∷ es) name v = members_view-match_ordering (string_cmp name e.0) _ _ _ ∙ rw (members_view-insert_entry es name v)

is_before : (name : String Global) (es : List Entry) → AllByRecursion (λ other. string_cmp name other ≡ Less) (keys_of es) → IsBefore (string_bytes name) (members_view es)
is_before name [] h = tt
is_before name (e ∷ es) h = (h.0, is_before name es h.1)

-- a map's entries ascend
pub ascending : (es : List Entry) → IsStrictlySortedBy string_cmp (keys_of es) → HasAscendingNames (members_view es)
unfolding IsStrictlySortedBy
ascending [] h = tt
ascending (e ∷ es) h = (is_before e.0 es h.0, ascending es h.1)

-- ---- members put one after another

-- the second after the first
abbrev pub joined : Members → Members → Members
joined no_members rest = rest
joined (member name v ms) rest = member name v (joined ms rest)

pub joined_assoc : (a b c : Members) → joined (joined a b) c ≡ joined a (joined b c)
joined_assoc no_members b c = refl
joined_assoc (member name v ms) b c = ap (member name v) (joined_assoc ms b c)

pub joined-no_members : (a : Members) → joined a no_members ≡ a
joined-no_members no_members = refl
joined-no_members (member name v ms) = ap (member name v) (joined-no_members ms)

above : (k l : List ℕ) → slice_cmp nat_cmp k l ≡ Less → slice_cmp nat_cmp l k ≡ Greater
above k l h = nat_list_cmp_total.antisymm l k ∙ ap ordering_reverse h

first_before : (k : List ℕ) (ms : Members) (name : List ℕ) (v : Value) (rest : Members) → IsBefore k (joined ms (member name v rest)) → slice_cmp nat_cmp k name ≡ Less
first_before k no_members name v rest h = h.0
first_before k (member l w ms) name v rest h = first_before k ms name v rest h.1

-- a name above all others goes last
pub put_last : (done : Members) (name : List ℕ) (v : Value) (rest : Members) → HasAscendingNames (joined done (member name v rest)) → put name v done ≡ joined done (member name v no_members)
put_last no_members name v rest h = refl
put_last (member l w ms) name v rest h = rw (above l name (first_before l ms name v rest h.0)) (ap (member l w) (put_last ms name v rest h.1))

put_all_onto : (ms done : Members) → HasAscendingNames (joined done ms) → put_all ms done ≡ joined done ms
put_all_onto no_members done h = sym (joined-no_members done)
put_all_onto (member name v ms) done h =
    let regrouped = joined_assoc done (member name v no_members) ms in
    rw (put_last done name v ms h) (put_all_onto ms (joined done (member name v no_members)) (rw regrouped h) ∙ regrouped)

-- ascending members, put one after another, are those members
pub put_all-no_members : (ms : Members) → HasAscendingNames ms → put_all ms no_members ≡ ms
put_all-no_members ms h = put_all_onto ms no_members h

-- ---- a member by its name

found_or : (o : Ordering) (v : Json) (rest : Option Json) (others : Option Value) → option_map view rest ≡ others
    → option_map view (cond (is_eq o) (Some v) rest) ≡ match_ordering o others (Some (view v)) others
found_or Less v rest others same = same
found_or Equal v rest others same = refl
found_or Greater v rest others same = same

-- what a look-up in the map finds is the member of that name
pub view-lookup : (name : List ℕ) (es : List Entry) → option_map view (lookup (is_at (λ k. slice_cmp nat_cmp name (string_bytes k))) es) ≡ member_at name (members_view es)
view-lookup name [] = refl
view-lookup name (e ∷ es) = found_or (slice_cmp nat_cmp name (string_bytes e.0)) e.1 _ _ (view-lookup name es)

pub view_of_reference : (found : Option (Bor Json)) → option_map (λ v. view v.now) found ≡ option_map view (option_map (λ v. v.now) found)
view_of_reference None = refl
view_of_reference (Some v) = refl

pub view-Object : (m : NameMap Json) → view (Object m) ≡ object (members_view m.entries)
view-Object m = search (rules, the_lemmas)
