-- Members without special ones, and special ones put among them.
use Rattle.std.proofs.Common.{◌≡◌, ℕ, Bool, true, false, not, cond, List, Some, None, Ordering, Less, Equal, Greater, nat_cmp, is_eq, refl, sym, ap, ◌∙◌}
use Rattle.std.specs.Cmp.Lexicographic.{slice_cmp}
use Rattle.std.specs.Ordering.{match_ordering}
use Rattle.std.proofs.lemmas.Bool.{false≢true}
use Rattle.std.proofs.lemmas.Map.Text.{is_eq-slice_cmp}
use Rattle.std.proofs.lemmas.Slice.Eq.{bytes_eq-Decides}
use Rattle.couch_json.specs.Value.{Value, Members, no_members, member, member_at, put}
use Rattle.tree.proofs.RevisionText.{parts}
use Rattle.store.specs.SpecialMembers.{are_plain, is_special}
use Rattle.write.specs.Document.{without_special}

not_true : (b : Bool) → not b ≡ true → b ≡ false
not_true true e = sym e
not_true false e = refl

named_alike : (a b : List ℕ) → slice_cmp nat_cmp a b ≡ Equal → a ≡ b
named_alike a b e = (bytes_eq-Decides a b).0 (sym (is_eq-slice_cmp a b) ∙ ap is_eq e)

-- plain members have no special one to be left out
pub plain_whole : (ms : Members) → are_plain ms ≡ true → without_special ms ≡ ms
plain_whole no_members plain = refl
plain_whole (member name v ms) plain =
    let p = parts (not (is_special name)) (are_plain ms) plain in
    ap (λ (b : Bool). cond b (without_special ms) (member name v (without_special ms))) (not_true (is_special name) p.0)
    ∙ ap (member name v) (plain_whole ms p.1)

-- among plain members no special name stands
pub plain_lacks : (name : List ℕ) (ms : Members) → is_special name ≡ true → are_plain ms ≡ true → member_at name ms ≡ None
plain_lacks name no_members special plain = refl
plain_lacks name (member other v ms) special plain = by (slice_cmp nat_cmp name other) refl (plain_lacks name ms special (parts (not (is_special other)) (are_plain ms) plain).1)
  where
    by : (o : Ordering) → slice_cmp nat_cmp name other ≡ o → member_at name ms ≡ None → match_ordering o (member_at name ms) (Some v) (member_at name ms) ≡ None
    by Less e rest = rest
    by Equal e rest =
        absurd (false≢true (sym (not_true (is_special other) (parts (not (is_special other)) (are_plain ms) plain).0) ∙ ap is_special (sym (named_alike name other e)) ∙ special))
    by Greater e rest = rest

-- a special member that is put among others is left out again
pub put_special : (name : List ℕ) (v : Value) (ms : Members) → is_special name ≡ true → without_special (put name v ms) ≡ without_special ms
put_special name v no_members special = ap (λ (b : Bool). cond b no_members (member name v no_members)) special
put_special name v (member other w ms) special = by (slice_cmp nat_cmp name other) refl (put_special name v ms special)
  where
    by : (o : Ordering) → slice_cmp nat_cmp name other ≡ o → without_special (put name v ms) ≡ without_special ms
        → without_special (match_ordering o (member name v (member other w ms)) (member other v ms) (member other w (put name v ms))) ≡ without_special (member other w ms)
    by Less e rest = ap (λ (b : Bool). cond b (without_special (member other w ms)) (member name v (without_special (member other w ms)))) special
    by Equal e rest =
        let also : is_special other ≡ true = ap is_special (sym (named_alike name other e)) ∙ special in
        ap (λ (b : Bool). cond b (without_special ms) (member other v (without_special ms))) also
        ∙ sym (ap (λ (b : Bool). cond b (without_special ms) (member other w (without_special ms))) also)
    by Greater e rest = ap (λ (x : Members). cond (is_special other) x (member other w x)) rest
