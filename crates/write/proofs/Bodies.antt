-- What is left of an object's members without the special ones, and what a body that was accepted is.
use Rattle.std.proofs.Common.{◌≡◌, ◌≤◌, ℕ, Bool, true, false, not, cond, ◌&&◌, List, [], ◌∷◌, filter, String, Global, Option, Some, None, option_map, option_and_then, string_bytes, nat_le, refl, ◌∙◌, ap, sym, subst, arith}
use Rattle.std.proofs.lemmas.Bool.Decides.{nat_tests}
use Rattle.couch_json.specs.Parts.{is_object}
use Rattle.couch_json.specs.Value.{Value, null, truth, whole, text, array, object, Members, no_members, member, depth}
use Rattle.couch_json.specs.View.{view, members_view}
use Rattle.couch_json.specs.declared.value.Json.{Json}
use Rattle.store.specs.Contents.{max_body_depth}
use Rattle.store.specs.Lawful.{IsBody}
use Rattle.store.specs.SpecialMembers.{are_plain, is_plain as is_plain_body, is_special}
use Rattle.tree.specs.Revision.{Revision}
use Rattle.write.specs.Document.{are_allowed, body_for, body_if, body_in, is_body_for, is_document_member, sent_in, sent_with, without_special, words_in}
use Rattle.write.specs.declared.document.ParsedDocument.{ParsedDocument}

abbrev pub Entry : Type 0
Entry = String Global × Json

abbrev pub is_plain : Entry → Bool
is_plain e = not (is_special (string_bytes e.0))

member-cond : (special : Bool) (e : Entry) (kept : List Entry) (ms : Members) → members_view kept ≡ ms
    → members_view (cond (not special) (e ∷ kept) kept) ≡ cond special ms (member (string_bytes e.0) (view e.1) ms)
member-cond true e kept ms h = h
member-cond false e kept ms h = ap (member (string_bytes e.0) (view e.1)) h

pub members_view-filter : (es : List Entry) → members_view (filter is_plain es) ≡ without_special (members_view es)
members_view-filter [] = refl
members_view-filter (e ∷ es) =
    member-cond (is_special (string_bytes e.0)) e (filter is_plain es) (without_special (members_view es)) (members_view-filter es)

within : (allowed : Bool) (n : ℕ) → (allowed && nat_le n max_body_depth) ≡ true → n ≤ max_body_depth
within true n h = grind (arith, nat_tests)
within false n h = absurd cc

taken : (test : Bool) (v body : Value) → cond test (Some v) None ≡ Some body → (body ≡ v) × (test ≡ true)
taken true v body h = (cc, refl)
taken false v body h = absurd cc

-- what is left without the special members has none of them
pub without_plain : (ms : Members) → are_plain (without_special ms) ≡ true
without_plain no_members = refl
without_plain (member name v ms) = by (is_special name) refl (without_plain ms)
  where
    by : (b : Bool) → is_special name ≡ b → are_plain (without_special ms) ≡ true → are_plain (cond b (without_special ms) (member name v (without_special ms))) ≡ true
    by true is rest = rest
    by false is rest = ap (λ (b : Bool). not b && are_plain (without_special ms)) is ∙ rest

pub body_if-Some : (allowed : Bool) (v body : Value) → is_object v ≡ true → is_plain_body v ≡ true → body_if (allowed && nat_le (depth v) max_body_depth) v ≡ Some body → IsBody body
body_if-Some allowed v body is_obj plain h =
    let (same, test) = taken (allowed && nat_le (depth v) max_body_depth) v body h in
    rw same (record { object = is_obj; shallow = within allowed (depth v) test; plain = plain })

body_in-Some : (document body : Value) → body_in document ≡ Some body → IsBody body
body_in-Some (object ms) body h = body_if-Some (are_allowed is_document_member ms) (object (without_special ms)) body refl (without_plain ms) h
body_in-Some null body h = absurd cc
body_in-Some (truth b) body h = absurd cc
body_in-Some (whole n) body h = absurd cc
body_in-Some (text s) body h = absurd cc
body_in-Some (array vs) body h = absurd cc

is_same : (s t : ParsedDocument) → Some s ≡ Some t → t ≡ s
is_same s t e = cc

with_body : (words : Option Revision × Bool) (body : Option Value) (s : ParsedDocument) → ((b : Value) → body ≡ Some b → IsBody b)
    → option_map (λ b. sent_with words b) body ≡ Some s → IsBody s.body
with_body words None s are_bodies h = absurd cc
with_body words (Some b) s are_bodies h = rw (ap (λ (t : ParsedDocument). t.body) (is_same (sent_with words b) s h)) (are_bodies b refl)

with_words : (words : Option (Option Revision × Bool)) (body : Option Value) (s : ParsedDocument) → ((b : Value) → body ≡ Some b → IsBody b)
    → option_and_then (λ w. option_map (λ b. sent_with w b) body) words ≡ Some s → IsBody s.body
with_words None body s are_bodies h = absurd cc
with_words (Some w) body s are_bodies h = with_body w body s are_bodies h

suited : (id : List ℕ) (plain : Option Value) (body : Value) → ((b : Value) → plain ≡ Some b → IsBody b)
    → option_and_then (λ b. body_if (is_body_for id b) b) plain ≡ Some body → IsBody body
suited id None body are_bodies h = absurd cc
suited id (Some b) body are_bodies h = subst IsBody (sym (taken (is_body_for id b) b body h).0) (are_bodies b refl)

pub sent_in-Some : (id : List ℕ) (document : Value) (s : ParsedDocument) → sent_in id document ≡ Some s → IsBody s.body
sent_in-Some id document s h =
    with_words (words_in id document) (body_for id document) s (λ b e. suited id (body_in document) b (body_in-Some document) e) h
