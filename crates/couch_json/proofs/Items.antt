-- A list of values before the elements of an array.
use Rattle.std.proofs.Common.{◌≡◌, List, [], ◌∷◌, ◌++◌, refl, ap}
use Rattle.couch_json.specs.Value.{Items, no_items, item}
use Rattle.couch_json.specs.View.{view, items_view}
use Rattle.couch_json.specs.declared.value.Json.{Json}

-- the elements, with the values before them
abbrev pub items_after : List Json → Items → Items
items_after [] rest = rest
items_after (v ∷ vs) rest = item (view v) (items_after vs rest)

pub items_after-no_items : (vs : List Json) → items_after vs no_items ≡ items_view vs
items_after-no_items [] = refl
items_after-no_items (v ∷ vs) = ap (item (view v)) (items_after-no_items vs)

pub items_after-push : (vs : List Json) (v : Json) (rest : Items) → items_after vs (item (view v) rest) ≡ items_after (vs ++ v ∷ []) rest
items_after-push [] v rest = refl
items_after-push (w ∷ vs) v rest = ap (item (view w)) (items_after-push vs v rest)
