-- The elements of a slice are as many as those of the array that it is.
use Rattle.std.proofs.Common.{◌≡◌, length, List, [], ◌∷◌, refl, ap}
use Rattle.std.specs.Prelude.{suc}
use Rattle.couch_json.specs.View.{items_view}
use Rattle.couch_json.specs.declared.value.Json.{Json}
use Rattle.selector.specs.Truth.{items_length}

pub items_length_of_view : (js : List Json) → items_length (items_view js) ≡ length js
items_length_of_view [] = refl
items_length_of_view (j ∷ js) = ap suc (items_length_of_view js)
