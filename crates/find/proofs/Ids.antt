-- The member `_id` of a shown document is its id.
use Rattle.std.proofs.Common.{◌≡◌, ℕ, List, Bool, true, false, cond, Option, Some, None, Ordering, Less, Equal, Greater, nat_cmp, is_eq, bytes_eq, codes, option_map, refl, sym, ap, ◌∙◌}
use Rattle.std.proofs.lemmas.Map.Text.{is_eq-slice_cmp}
use Rattle.std.proofs.lemmas.Slice.Eq.{bytes_eq-Decides}
use Rattle.std.specs.Cmp.Lexicographic.{slice_cmp}
use Rattle.std.specs.Ordering.{match_ordering}
use Rattle.std.specs.Prelude.{option_and_then}
use Rattle.couch_json.specs.Parts.{text_in}
use Rattle.couch_json.specs.Value.{Value, text, truth, Members, no_members, member, member_at, put}
use Rattle.tree.specs.DocumentId.{is_design_id}
use Rattle.tree.specs.History.{HistoryContent, held_of}
use Rattle.tree.specs.Revision.{Revision, text_of}
use Rattle.tree.specs.ShownDocument.{body_members, document_at_revision, with_mark}
use Rattle.tree.specs.declared.entry.Held.{Held}
use Rattle.store.specs.Indexes.{queried_document, shown_by}
use Rattle.store.specs.Pages.{live_rev}
use Rattle.find.specs.Found.{id_of}

-- ---- members that are put

tied : (o : Ordering) → is_eq o ≡ true → o ≡ Equal
tied Less e = absurd cc
tied Equal e = refl
tied Greater e = absurd cc

own_name : (name : List ℕ) → slice_cmp nat_cmp name name ≡ Equal
own_name name = tied (slice_cmp nat_cmp name name) (is_eq-slice_cmp name name ∙ (bytes_eq-Decides name name).1 refl)

one_name : (a b : List ℕ) → slice_cmp nat_cmp a b ≡ Equal → a ≡ b
one_name a b e = (bytes_eq-Decides a b).0 (sym (is_eq-slice_cmp a b) ∙ ap is_eq e)

-- what is put at a name is there
member_at-put_same : (name : List ℕ) (v : Value) (ms : Members) → member_at name (put name v ms) ≡ Some v
member_at-put_same name v no_members = ap (λ (o : Ordering). match_ordering o None (Some v) None) (own_name name)
member_at-put_same name v (member other w ms) = by (slice_cmp nat_cmp name other) refl (member_at-put_same name v ms)
  where
    by : (o : Ordering) → slice_cmp nat_cmp name other ≡ o → member_at name (put name v ms) ≡ Some v
        → member_at name (match_ordering o (member name v (member other w ms)) (member other v ms) (member other w (put name v ms))) ≡ Some v
    by Less e rest = ap (λ (o : Ordering). match_ordering o (member_at name (member other w ms)) (Some v) (member_at name (member other w ms))) (own_name name)
    by Equal e rest = ap (λ (o : Ordering). match_ordering o (member_at name ms) (Some v) (member_at name ms)) e
    by Greater e rest = ap (λ (o : Ordering). match_ordering o (member_at name (put name v ms)) (Some w) (member_at name (put name v ms))) e ∙ rest

passed : {A : Type 0} (o : Ordering) (a b : A) → is_eq o ≡ false → match_ordering o a b a ≡ a
passed Less a b e = refl
passed Equal a b e = absurd cc
passed Greater a b e = refl

-- what stands at another name stays
member_at-put_other : (name other : List ℕ) (v : Value) (ms : Members) → bytes_eq name other ≡ false → member_at name (put other v ms) ≡ member_at name ms
member_at-put_other name other v no_members h = passed (slice_cmp nat_cmp name other) None (Some v) (is_eq-slice_cmp name other ∙ h)
member_at-put_other name other v (member third w ms) h = by (slice_cmp nat_cmp other third) refl (member_at-put_other name other v ms h)
  where
    by : (o : Ordering) → slice_cmp nat_cmp other third ≡ o → member_at name (put other v ms) ≡ member_at name ms
        → member_at name (match_ordering o (member other v (member third w ms)) (member third v ms) (member third w (put other v ms))) ≡ match_ordering (slice_cmp nat_cmp name third) (member_at name ms) (Some w) (member_at name ms)
    by Less e rest = passed (slice_cmp nat_cmp name other) _ (Some v) (is_eq-slice_cmp name other ∙ h)
    by Equal e rest =
        let apart : is_eq (slice_cmp nat_cmp name third) ≡ false = is_eq-slice_cmp name third ∙ ap (bytes_eq name) (sym (one_name other third e)) ∙ h in
        passed (slice_cmp nat_cmp name third) (member_at name ms) (Some v) apart ∙ sym (passed (slice_cmp nat_cmp name third) (member_at name ms) (Some w) apart)
    by Greater e rest = ap (λ (x : Option Value). match_ordering (slice_cmp nat_cmp name third) x (Some w) x) rest

-- ---- a shown document

id_under_mark : (deleted : Bool) (ms : Members) → member_at (codes "_id") (with_mark deleted ms) ≡ member_at (codes "_id") ms
id_under_mark true ms = member_at-put_other (codes "_id") (codes "_deleted") (truth true) ms refl
id_under_mark false ms = refl

id_of-shown_document : (id : List ℕ) (r : Revision) (held : Held) → id_of (document_at_revision id r held) ≡ Some id
id_of-shown_document id r held =
    let named = put (codes "_id") (text id) (body_members held.body) in
    ap (option_and_then text_in)
    (id_under_mark held.deleted (put (codes "_rev") (text (text_of r)) named) ∙ member_at-put_other (codes "_id") (codes "_rev") (text (text_of r)) named refl
    ∙ member_at-put_same (codes "_id") (text id) (body_members held.body))

none_shown : (id : List ℕ) (v : Value) → None ≡ Some v → id_of v ≡ Some id
none_shown id v e = absurd cc

id_of-shown_by : (id : List ℕ) (h : HistoryContent) (o : Option Revision) (v : Value) → shown_by id h o ≡ Some v → id_of v ≡ Some id
id_of-shown_by id h None v e = none_shown id v e
id_of-shown_by id h (Some r) v e = by (held_of h r) e
  where
    by : (held : Option Held) → option_map (λ x. document_at_revision id r x) held ≡ Some v → id_of v ≡ Some id
    by None none = none_shown id v none
    by (Some held) is = let same : document_at_revision id r held ≡ v = cc in ap id_of (sym same) ∙ id_of-shown_document id r held

pub id_of-queried_document : (id : List ℕ) (h : HistoryContent) (v : Value) → queried_document id h ≡ Some v → id_of v ≡ Some id
id_of-queried_document id h v e = by (is_design_id id) e
  where
    by : (b : Bool) → cond b None (shown_by id h (live_rev h)) ≡ Some v → id_of v ≡ Some id
    by true none = none_shown id v none
    by false is = id_of-shown_by id h (live_rev h) v is
