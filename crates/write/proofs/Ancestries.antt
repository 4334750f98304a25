-- A member that is taken out of a document; and what a document says without `_revisions`, which is the same.
use Rattle.std.proofs.Common.{◌≡◌, ◌&&◌, ◌||◌, not, ℕ, Bool, true, false, cond, List, [], ◌∷◌, String, Global, Option, Some, None, option_map, option_and_then, string_bytes, nat_le, refl, ap, sym, ◌∙◌}
use Rattle.std.proofs.lemmas.Map.Text.{is_eq-slice_cmp}
use Rattle.std.proofs.lemmas.Slice.Eq.{bytes_eq-Decides}
use Rattle.std.specs.Prelude.{bytes_eq, codes}
use Rattle.std.specs.BTreeMap.{is_at}
use Rattle.std.specs.Cmp.Lexicographic.{slice_cmp}
use Rattle.std.specs.Map.{remove_entry}
use Rattle.std.specs.Ordering.{match_ordering, nat_cmp}
use Rattle.couch_json.specs.Value.{Value, null, truth, whole, text, array, object, Members, no_members, member, member_at, depth}
use Rattle.couch_json.specs.View.{view, members_view}
use Rattle.couch_json.specs.declared.value.Json.{Json}
use Rattle.store.specs.Contents.{max_body_depth}
use Rattle.store.specs.SpecialMembers.{is_special}
use Rattle.write.specs.Document.{are_allowed, body_if, remaining_body, fits_id, is_body_for, is_document_member, mark_in, given_revision, sent_in, sent_with, without_member, without_name, without_special}

abbrev pub Entry : Type 0
Entry = String Global × Json

-- ---- taken out of a map

taken_or : (b : Bool) (e : Entry) (es rest : List Entry) (ms : Members) → members_view rest ≡ ms
    → members_view (cond b es (e ∷ rest)) ≡ cond b (members_view es) (member (string_bytes e.0) (view e.1) ms)
taken_or true e es rest ms same = refl
taken_or false e es rest ms same = ap (member (string_bytes e.0) (view e.1)) same

pub members_view-remove_entry : (name : List ℕ) (es : List Entry)
    → members_view (remove_entry (is_at (λ k. slice_cmp nat_cmp name (string_bytes k))) es) ≡ without_name name (members_view es)
members_view-remove_entry name [] = refl
members_view-remove_entry name (e ∷ es) =
    taken_or (is_at (λ k. slice_cmp nat_cmp name (string_bytes k)) e.0) e es _ _ (members_view-remove_entry name es)
    ∙ ap (λ b. cond b (members_view es) (member (string_bytes e.0) (view e.1) (without_name name (members_view es)))) (is_eq-slice_cmp name (string_bytes e.0))

-- ---- without `_revisions`

-- what passes over `_revisions` is the same without it
passes_over : {A : Type 0} (of : Members → A) (step : List ℕ → Value → A → A)
    → ((name : List ℕ) (v : Value) (ms : Members) → of (member name v ms) ≡ step name v (of ms))
    → ((v : Value) (a : A) → step (codes "_revisions") v a ≡ a)
    → (ms : Members) → of (without_name (codes "_revisions") ms) ≡ of ms
passes_over of step one over no_members = refl
passes_over {A} of step one over (member name v ms) =
    by (bytes_eq (codes "_revisions") name) (λ is. ap (λ n. step n v (of ms)) (sym ((bytes_eq-Decides (codes "_revisions") name).0 is)) ∙ over v (of ms))
    (passes_over of step one over ms)
  where
    by : (b : Bool) → (b ≡ true → step name v (of ms) ≡ of ms) → of (without_name (codes "_revisions") ms) ≡ of ms
        → of (cond b ms (member name v (without_name (codes "_revisions") ms))) ≡ of (member name v ms)
    by true it rest = sym (one name v ms ∙ it refl)
    by false it rest = one name v (without_name (codes "_revisions") ms) ∙ ap (step name v) rest ∙ sym (one name v ms)

same_at : (name : List ℕ) → ((v : Value) (o : Option Value) → match_ordering (slice_cmp nat_cmp name (codes "_revisions")) o (Some v) o ≡ o)
    → (ms : Members) → member_at name (without_name (codes "_revisions") ms) ≡ member_at name ms
same_at name other = passes_over (member_at name) (λ k v o. match_ordering (slice_cmp nat_cmp name k) o (Some v) o) (λ k v ms. refl) other

same_body : (ms : Members) → remaining_body is_document_member (without_name (codes "_revisions") ms) ≡ remaining_body is_document_member ms
same_body ms =
    let allowed = passes_over (are_allowed is_document_member) (λ name v b. (not (is_special name) || is_document_member name) && b) (λ name v rest. refl) (λ v b. refl) ms in
    let plain = passes_over without_special (λ name v rest. cond (is_special name) rest (member name v rest)) (λ name v rest. refl) (λ v rest. refl) ms in
    (λ i. body_if (allowed i && nat_le (depth (object (plain i))) max_body_depth) (object (plain i)))

pub same_sent : (id : List ℕ) (document : Value) → sent_in id (without_member (codes "_revisions") document) ≡ sent_in id document
same_sent id null = refl
same_sent id (truth b) = refl
same_sent id (whole n) = refl
same_sent id (text s) = refl
same_sent id (array vs) = refl
same_sent id (object ms) =
    let own = same_at (codes "_id") (λ v o. refl) ms in
    let rev = same_at (codes "_rev") (λ v o. refl) ms in
    let mark = same_at (codes "_deleted") (λ v o. refl) ms in
    let body = same_body ms in
    (λ i. option_and_then (λ words. option_map (λ b. sent_with words b) (option_and_then (λ b. body_if (is_body_for id b) b) (body i)))
    (cond (fits_id id (own i)) (option_and_then (λ r. option_map (λ deleted. (r, deleted)) (mark_in (mark i))) (given_revision (rev i))) None))
