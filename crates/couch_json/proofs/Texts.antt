-- The text of a value's tokens is its canonical text.
use Rattle.std.proofs.Common.{◌≡◌, ℕ, pos, negsuc, List, [], ◌∷◌, ◌++◌, true, false, refl, sym, ap, ◌∙◌, append_assoc}
use Rattle.std.specs.List.{join_with_byte}
use Rattle.json.specs.Print.{print, quoted}
use Rattle.serde_json.specs.Written.{compact_text, items_text, members_text}
use Rattle.serde_json.proofs.Texts.{print-outline}
use Rattle.couch_json.specs.Value.{Value, null, truth, whole, text, array, object, Items, no_items, item, Members, no_members, member}
use Rattle.couch_json.specs.Canonical.{canonical, items_texts, members_texts}
use Rattle.couch_json.specs.inner.Written.{data_of, items_data, members_data, value_tokens}

regrouped_member : (name v rest : List ℕ) → quoted name ++ 58 ∷ (v ++ rest) ≡ (quoted name ++ 58 ∷ v) ++ rest
regrouped_member name v rest = sym (append_assoc (quoted name) (58 ∷ v) rest)

mutual
  compact_text-data_of : (v : Value) → compact_text (data_of v) ≡ canonical v
  compact_text-data_of null = refl
  compact_text-data_of (truth true) = refl
  compact_text-data_of (truth false) = refl
  compact_text-data_of (whole (pos n)) = refl
  compact_text-data_of (whole (negsuc n)) = refl
  compact_text-data_of (text s) = refl
  compact_text-data_of (array no_items) = refl
  compact_text-data_of (array (item v vs)) = ap (λ s. 91 ∷ s) (ap (λ s. s ++ items_text true (items_data vs)) (compact_text-data_of v) ∙ items_after (canonical v) vs)
  compact_text-data_of (object no_members) = refl
  compact_text-data_of (object (member name v ms)) =
      ap (λ s. 123 ∷ s) (ap (λ s. quoted name ++ 58 ∷ (s ++ members_text true (members_data ms))) (compact_text-data_of v)
      ∙ regrouped_member name (canonical v) _ ∙ members_after (quoted name ++ 58 ∷ canonical v) ms)

  -- what stands after an element's text t
  items_after : (t : List ℕ) (vs : Items) → t ++ items_text true (items_data vs) ≡ join_with_byte 44 (t ∷ items_texts vs) ++ 93 ∷ []
  items_after t no_items = refl
  items_after t (item v vs) =
      ap (λ s. t ++ 44 ∷ s) (ap (λ s. s ++ items_text true (items_data vs)) (compact_text-data_of v) ∙ items_after (canonical v) vs)
      ∙ sym (append_assoc t (44 ∷ join_with_byte 44 (canonical v ∷ items_texts vs)) (93 ∷ []))

  -- what stands after a member's text t
  members_after : (t : List ℕ) (ms : Members) → t ++ members_text true (members_data ms) ≡ join_with_byte 44 (t ∷ members_texts ms) ++ 125 ∷ []
  members_after t no_members = refl
  members_after t (member name v ms) =
      ap (λ s. t ++ 44 ∷ s) (ap (λ s. quoted name ++ 58 ∷ (s ++ members_text true (members_data ms))) (compact_text-data_of v)
      ∙ regrouped_member name (canonical v) _ ∙ members_after (quoted name ++ 58 ∷ canonical v) ms)
      ∙ sym (append_assoc t (44 ∷ join_with_byte 44 ((quoted name ++ 58 ∷ canonical v) ∷ members_texts ms)) (125 ∷ []))

pub print-value_tokens : (v : Value) → print (value_tokens v) ≡ canonical v
print-value_tokens v = print-outline (data_of v) ∙ compact_text-data_of v
