-- The elements of a list, read back from its value.
use Rattle.std.proofs.Common.{◌≡◌, List, [], ◌∷◌, Some, map, refl, ap, ◌∙◌, rules, Vec, Global}
use Rattle.couch_json.specs.Value.{Value, array}
use Rattle.couch_json.specs.View.{items_of, items_view, view}
use Rattle.couch_json.specs.declared.value.Json.{Json, Array, the_lemmas}
use Rattle.api.specs.Bulk.{bulk_documents_of, elements_of_items}

elements_of : (vs : List Value) → elements_of_items (items_of vs) ≡ vs
elements_of [] = refl
elements_of (v ∷ vs) = ap (λ rest. v ∷ rest) (elements_of vs)

view-Array : (vs : Vec Json Global) → view (Array vs) ≡ array (items_view vs.items)
view-Array vs = search (rules, the_lemmas)

pub documents_of-Array : (vs : Vec Json Global) → bulk_documents_of (view (Array vs)) ≡ Some (map view vs.items)
documents_of-Array vs = ap bulk_documents_of (view-Array vs) ∙ ap Some (elements_of (map view vs.items))
