-- The names of a body's members are in UTF-8: so a body declares no index of another name.
use Rattle.index.proofs.Common.{Bool, List, None, Ordering, Some, [], ap, bytes_eq, bytes_eq-Decides, false, if◌then◌else◌, is_eq, option_map, refl, rules, subst, sym, true, ℕ, ◌∙◌, ◌∷◌, ◌≡◌}
use Rattle.couch_json.proofs.Objects.{Entry}
use Rattle.couch_json.specs.Value.{Value, array, member_at, member_of, no_members, null, object, text, truth, whole}
use Rattle.couch_json.specs.View.{items_view, members_view, view}
use Rattle.couch_json.specs.declared.value.Json.{Json, out-Json, the_lemmas}
use Rattle.couch_json.specs.declared.value.Json.TheOpen.{Json-F}
use Rattle.policy.specs.DesignDocuments.{is_index_object}
use Rattle.std.proofs.Common.{Equal, Greater, Less, codes, string_bytes}
use Rattle.std.proofs.lemmas.Map.Text.{is_eq-slice_cmp}
use Rattle.std.proofs.lemmas.Str.{IsUtf8-string_bytes}
use Rattle.std.specs.Cmp.Lexicographic.{slice_cmp}
use Rattle.std.specs.Ordering.{match_ordering, nat_cmp}
use Rattle.std.specs.Prelude.{IsUtf8}
use Rattle.store.specs.Indexes.{declared_fields, fields_in, indexes_if}

-- what one level is
abbrev layer : Json-F Json → Value
layer Json-F.Null = null
layer (Json-F.Truth b) = truth b
layer (Json-F.Whole w) = whole w
layer (Json-F.Text s) = text (string_bytes s)
layer (Json-F.Array vs) = array (items_view vs.items)
layer (Json-F.Object m) = object (members_view m.entries)

viewed : (j : Json) (l : Json-F Json) → out-Json j ≡ l → view j ≡ layer l
viewed j Json-F.Null is = search (rules, the_lemmas)
viewed j (Json-F.Truth b) is = search (rules, the_lemmas)
viewed j (Json-F.Whole w) is = search (rules, the_lemmas)
viewed j (Json-F.Text s) is = search (rules, the_lemmas)
viewed j (Json-F.Array vs) is = search (rules, the_lemmas)
viewed j (Json-F.Object m) is = search (rules, the_lemmas)

module _ (n : List ℕ) (other : ¬ (IsUtf8 n)) where
  -- no member has such a name
  not_at : (es : List Entry) → member_at n (members_view es) ≡ None
  not_at [] = refl
  not_at (e ∷ es) = go (slice_cmp nat_cmp n (string_bytes e.0)) (is_eq-slice_cmp n (string_bytes e.0)) (not_at es)
    where
      go : (o : Ordering) → is_eq o ≡ bytes_eq n (string_bytes e.0) → member_at n (members_view es) ≡ None → match_ordering o (member_at n (members_view es)) (Some (view e.1)) (member_at n (members_view es)) ≡ None
      go Less same none = none
      go Greater same none = none
      go Equal same none = absurd (other (subst IsUtf8 (sym ((bytes_eq-Decides n (string_bytes e.0)).0 (sym same))) (IsUtf8-string_bytes e.0)))

  not_if : (b : Bool) (es : List Entry) → member_of (object (if b then members_view es else no_members)) n ≡ None
  not_if true es = not_at es
  not_if false es = refl

  not_any : (b : Bool) → member_of (object (if b then no_members else no_members)) n ≡ None
  not_any true = refl
  not_any false = refl

  not_in : (l : Json-F Json) → member_of (object (indexes_if (Some (layer l)))) n ≡ None
  not_in Json-F.Null = not_any (is_index_object null)
  not_in (Json-F.Truth b) = not_any (is_index_object (truth b))
  not_in (Json-F.Whole w) = not_any (is_index_object (whole w))
  not_in (Json-F.Text s) = not_any (is_index_object (text (string_bytes s)))
  not_in (Json-F.Array vs) = not_any (is_index_object (array (items_view vs.items)))
  not_in (Json-F.Object m) = not_if (is_index_object (object (members_view m.entries))) m.entries

  -- whichever member declares indexes
  declared_at : (es : List Entry) → member_of (object (indexes_if (member_at (codes "indexes") (members_view es)))) n ≡ None
  declared_at [] = refl
  declared_at (e ∷ es) = go (slice_cmp nat_cmp (codes "indexes") (string_bytes e.0)) (declared_at es)
    where
      go : (o : Ordering) → member_of (object (indexes_if (member_at (codes "indexes") (members_view es)))) n ≡ None
          → member_of (object (indexes_if (match_ordering o (member_at (codes "indexes") (members_view es)) (Some (view e.1)) (member_at (codes "indexes") (members_view es))))) n ≡ None
      go Less none = none
      go Greater none = none
      go Equal none = ap (λ v. member_of (object (indexes_if (Some v))) n) (viewed e.1 (out-Json e.1) refl) ∙ not_in (out-Json e.1)

  not_layer : (l : Json-F Json) → declared_fields (layer l) n ≡ None
  not_layer Json-F.Null = refl
  not_layer (Json-F.Truth b) = refl
  not_layer (Json-F.Whole w) = refl
  not_layer (Json-F.Text s) = refl
  not_layer (Json-F.Array vs) = refl
  not_layer (Json-F.Object m) = ap (option_map fields_in) (declared_at m.entries)

  pub not_declared : (body : Json) → declared_fields (view body) n ≡ None
  not_declared body = ap (λ v. declared_fields v n) (viewed body (out-Json body) refl) ∙ not_layer (out-Json body)
