-- The parts of a lawful value are lawful, and what is shown of a lawful body.
use Rattle.std.proofs.Common.{◌≡◌, ◌≤◌, ◌<◌, ◌^◌, ◌⊎◌, ⊎_elim, ℕ, ◌+◌, Bool, true, false, ltb-true, nat_lt, List, [], ◌∷◌, ◌++◌, Option, Some, None, max, refl, ap, ◌∙◌, subst, arith}
use Rattle.std.specs.Prelude.{IsUtf8, codes, option_and_then}
use Rattle.std.specs.declared.cmp.Ordering.{Ordering}
use Rattle.std.specs.declared.cmp.Ordering.TheVariants.{Less, Equal, Greater}
use Rattle.std.specs.Ordering.{nat_cmp, match_ordering}
use Rattle.std.specs.Cmp.Lexicographic.{slice_cmp}
use Rattle.std.specs.Fmt.{decimal}
use Rattle.std.proofs.lemmas.Fmt.{IsAscii-decimal}
use Rattle.std.proofs.lemmas.List.Elements.{All-weaker}
use Rattle.std.proofs.lemmas.List.Sums.{AllPass-from_list_all}
use Rattle.std.proofs.lemmas.Str.{IsUtf8-append, IsUtf8-from_ascii}
use Rattle.std.proofs.lemmas.Str.Ascii.{IsAscii-from_all}
use Rattle.std.specs.List.{list_all}
use Rattle.std.proofs.lemmas.Bool.Decides.{nat_tests}
use Rattle.std.specs.Cmp.{first_so, second_so}
use Rattle.std.specs.Prelude.{nat_le}
use Rattle.couch_json.proofs.LawfulParts.{member_part, one_of, put_lawful}
use Rattle.couch_json.specs.FieldPath.{names_in, value_along, value_at}
use Rattle.couch_json.specs.Lawful.{AreLawfulItems, IsLawful}
use Rattle.couch_json.specs.Value.{Items, Members, Value, array, depth, item, items_depth, member, member_at, member_of, members_depth, no_items, no_members, null, object, put, text, truth, whole}
use Rattle.store.specs.Indexes.{field_values, values_with}
use Rattle.tree.proofs.RevisionText.{IsUtf8-revision}
use Rattle.tree.specs.Revision.{Revision, greatest_number, is_revision, text_of}
use Rattle.tree.specs.ShownDocument.{body_members, document_at_revision, with_mark}
use Rattle.tree.specs.declared.entry.Held.{Held}

-- ---- how deep the parts nest

member_shallow : (name : List ℕ) (ms : Members) (v : Value) → member_at name ms ≡ Some v → depth v ≤ members_depth ms
member_shallow name no_members v e = absurd cc
member_shallow name (member other w ms) v e =
    ⊎_elim (λ k. omega (arith, member_shallow name ms v k, max_right (depth w) (members_depth ms))) (λ k. let same : w ≡ v = cc in omega (arith, ap depth same, max_left (depth w) (members_depth ms)))
    (one_of (slice_cmp nat_cmp name other) (member_at name ms) (Some w) v e)
  where
    max_left : (a b : ℕ) → a ≤ max a b
    max_left a b = omega arith

    max_right : (a b : ℕ) → b ≤ max a b
    max_right a b = omega arith

part_shallow : (v w : Value) (name : List ℕ) → member_of v name ≡ Some w → depth w ≤ depth v
part_shallow null w name e = absurd cc
part_shallow (truth b) w name e = absurd cc
part_shallow (whole n) w name e = absurd cc
part_shallow (text t) w name e = absurd cc
part_shallow (array vs) w name e = absurd cc
part_shallow (object ms) w name e = omega (arith, member_shallow name ms w e)

put_shallow : (name : List ℕ) (v : Value) (ms : Members) (n : ℕ) → depth v ≤ n → members_depth ms ≤ n → members_depth (put name v ms) ≤ n
put_shallow name v no_members n p q = omega (arith, p)
put_shallow name v (member other w ms) n p q = by (slice_cmp nat_cmp name other) (put_shallow name v ms n p (omega (arith, q)))
  where
    by : (o : Ordering) → members_depth (put name v ms) ≤ n → members_depth (match_ordering o (member name v (member other w ms)) (member other v ms) (member other w (put name v ms))) ≤ n
    by Less rest = omega (arith, p, q)
    by Equal rest = omega (arith, p, q)
    by Greater rest = omega (arith, q, rest)

-- ---- what is found along a path

-- a lawful value that nests at most so deep
pub record IsSound (n : ℕ) (v : Value) : Type 0 where
  pub lawful : IsLawful v
  pub shallow : depth v ≤ n

along : (n : ℕ) (names : List (List ℕ)) (v w : Value) → IsSound n v → value_along names v ≡ Some w → IsSound n w
along n [] v w h e = let same : v ≡ w = cc in subst (IsSound n) same h
along n (name ∷ names) v w h e = by (member_of v name) refl (λ u. along n names u w) e
  where
    by : (o : Option Value) → member_of v name ≡ o → ((u : Value) → IsSound n u → value_along names u ≡ Some w → IsSound n w) → option_and_then (value_along names) o ≡ Some w → IsSound n w
    by None is rest k = absurd cc
    by (Some u) is rest k = rest u (record { lawful = member_part v u name h.lawful is; shallow = omega (arith, part_shallow v u name is, h.shallow) }) k

-- the values at fields are lawful, and nest no deeper
pub values_sound : (n : ℕ) (fields : List (List ℕ)) (v : Value) (vs : Items) → IsSound n v → field_values fields v ≡ Some vs → AreLawfulItems vs × (items_depth vs ≤ n)
values_sound n [] v vs h e = let same : no_items ≡ vs = cc in (subst AreLawfulItems same tt, subst (λ us. items_depth us ≤ n) same (omega arith))
values_sound n (path ∷ fields) v vs h e = by (value_at path v) (field_values fields v) refl (λ ws. values_sound n fields v ws h) e
  where
    by : (o : Option Value) (rest : Option Items) → value_at path v ≡ o → ((ws : Items) → rest ≡ Some ws → AreLawfulItems ws × (items_depth ws ≤ n)) → values_with o rest ≡ Some vs → AreLawfulItems vs × (items_depth vs ≤ n)
    by None rest is later k = absurd cc
    by (Some w) None is later k = absurd cc
    by (Some w) (Some ws) is later k =
        let one = along n (names_in path) v w h is in
        let more = later ws refl in
        let same : item w ws ≡ vs = cc in
        (subst AreLawfulItems same (one.lawful, more.0), subst (λ us. items_depth us ≤ n) same (omega (arith, one.shallow, more.1)))

-- ---- what is shown of a lawful body

ascii_text : (bs : List ℕ) → list_all (λ b. nat_lt b 128) bs ≡ true → IsUtf8 bs
ascii_text bs e =
    IsUtf8-from_ascii bs (IsAscii-from_all bs (All-weaker (λ b. nat_lt b 128 ≡ true) (λ b. b < 128) (λ b h. ltb-true b 128 h) bs (AllPass-from_list_all (λ b. nat_lt b 128) bs e)))

small : (n : ℕ) → nat_le n greatest_number ≡ true → n < 2 ^ 64
small n h = grind (arith, nat_tests, h)

three_texts : (a b d : List ℕ) → IsUtf8 a → IsUtf8 b → IsUtf8 d → IsUtf8 (a ++ b ++ d)
three_texts a b d p q r = IsUtf8-append (a ++ b) d (IsUtf8-append a b p q) r

revision_text : (r : Revision) → is_revision r ≡ true → IsUtf8 (text_of r)
revision_text r h =
    let bounded : nat_le r.number greatest_number ≡ true = second_so _ _ (first_so _ _ h) in
    three_texts (decimal r.number) (codes "-") r.hash (IsUtf8-from_ascii (decimal r.number) (IsAscii-decimal r.number (small r.number bounded))) (ascii_text (codes "-") refl) (IsUtf8-revision r h)

members_sound : (body : Value) (n : ℕ) → IsLawful body → depth body ≤ n → IsLawful (object (body_members body)) × (members_depth (body_members body) ≤ n)
members_sound null n h d = ((tt, tt), omega arith)
members_sound (truth b) n h d = ((tt, tt), omega arith)
members_sound (whole m) n h d = ((tt, tt), omega arith)
members_sound (text s) n h d = ((tt, tt), omega arith)
members_sound (array vs) n h d = ((tt, tt), omega arith)
members_sound (object ms) n h d = (h, omega (arith, d))

mark_sound : (b : Bool) (ms : Members) (n : ℕ) → IsLawful (object ms) → members_depth ms ≤ n → IsLawful (object (with_mark b ms)) × (members_depth (with_mark b ms) ≤ n)
mark_sound true ms n h d = (put_lawful (codes "_deleted") (truth true) ms (ascii_text (codes "_deleted") refl) tt h, put_shallow (codes "_deleted") (truth true) ms n (omega arith) d)
mark_sound false ms n h d = (h, d)

pub shown_sound : (id : List ℕ) (r : Revision) (held : Held) (n : ℕ) → IsUtf8 id → is_revision r ≡ true → IsLawful held.body → depth held.body ≤ n → IsSound (n + 1) (document_at_revision id r held)
shown_sound id r held n text_ok known lawful shallow =
    let body = members_sound held.body n lawful shallow in
    let named = put_lawful (codes "_id") (text id) (body_members held.body) (ascii_text (codes "_id") refl) text_ok body.0 in
    let revised = put_lawful (codes "_rev") (text (text_of r)) (put (codes "_id") (text id) (body_members held.body)) (ascii_text (codes "_rev") refl) (revision_text r known) named in
    let low = put_shallow (codes "_rev") (text (text_of r)) (put (codes "_id") (text id) (body_members held.body)) n (omega arith) (put_shallow (codes "_id") (text id) (body_members held.body) n (omega arith) body.1) in
    let marked = mark_sound held.deleted (put (codes "_rev") (text (text_of r)) (put (codes "_id") (text id) (body_members held.body))) n revised low in
    record { lawful = marked.0; shallow = omega (arith, marked.1) }
