-- The values of a document at fields, gathered one by one.
use Rattle.std.proofs.Common.{◌≡◌, ◌∙◌, ℕ, List, [], ◌∷◌, ◌++◌, map, Option, Some, None, refl, sym, ap}
use Rattle.std.proofs.lemmas.List.{map-append}
use Rattle.couch_json.specs.Value.{Value, Items, no_items, item}
use Rattle.couch_json.specs.FieldPath.{value_at}
use Rattle.couch_json.specs.View.{items_of, items_view, view}
use Rattle.couch_json.specs.declared.value.Json.{Json}
use Rattle.store.specs.Indexes.{field_values, values_with}

-- these values before others
abbrev pub before : List Value → Items → Items
before [] ws = ws
before (v ∷ vs) ws = item v (before vs ws)

abbrev pub before_all : List Value → Option Items → Option Items
before_all vs None = None
before_all vs (Some ws) = Some (before vs ws)

before-push : (vs : List Value) (v : Value) (ws : Items) → before (vs ++ v ∷ []) ws ≡ before vs (item v ws)
before-push [] v ws = refl
before-push (u ∷ vs) v ws = ap (item u) (before-push vs v ws)

pub one_more_value : (vs : List Value) (v : Value) (rest : Option Items) → before_all (vs ++ v ∷ []) rest ≡ before_all vs (values_with (Some v) rest)
one_more_value vs v None = refl
one_more_value vs v (Some ws) = ap Some (before-push vs v ws)

pub before_nothing : (vs : List Value) → before vs no_items ≡ items_of vs
before_nothing [] = refl
before_nothing (v ∷ vs) = ap (item v) (before_nothing vs)

pub nothing_before : (rest : Option Items) → before_all [] rest ≡ rest
nothing_before None = refl
nothing_before (Some ws) = refl

-- one more field is looked at, and the document has a value there
pub one_more_field : (path : List ℕ) (left rest : List (List ℕ)) (document : Value) (vs more : List Json) (json : Json) → left ≡ path ∷ rest → Some (view json) ≡ value_at path document → more ≡ vs ++ json ∷ []
    → before_all (map view more) (field_values rest document) ≡ before_all (map view vs) (field_values left document)
one_more_field path left rest document vs more json next there made =
    ap (λ js. before_all (map view js) (field_values rest document)) made
    ∙ ap (λ us. before_all us (field_values rest document)) (map-append view vs (json ∷ []))
    ∙ one_more_value (map view vs) (view json) (field_values rest document)
    ∙ ap (λ o. before_all (map view vs) (values_with o (field_values rest document))) there
    ∙ ap (λ paths. before_all (map view vs) (field_values paths document)) (sym next)

-- no field is left
pub all_fields : (left : List (List ℕ)) (document : Value) (vs : List Json) → left ≡ [] → Some (items_view vs) ≡ before_all (map view vs) (field_values left document)
all_fields left document vs none = ap Some (sym (before_nothing (map view vs))) ∙ ap (λ paths. before_all (map view vs) (field_values paths document)) (sym none)
