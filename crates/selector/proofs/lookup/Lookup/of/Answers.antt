use Rattle.std.proofs.Common.{ℕ, sym, ap, ◌∙◌}
use Rattle.std.specs.Prelude.{slice_get}
use Rattle.std.proofs.lemmas.Result.{IfOk-weaker}
use Rattle.std.proofs.lemmas.List.Sorted.{list_any-IsPermutation}
use Rattle.couch_json.specs.Parts.{is_there_and}
use Rattle.selector.specs.Lookup.{selector_decides, some_place_has}
use Rattle.selector.proofs.lookup.Lookup.of.Goals as goal

pub returns : goal.returns
returns c =
    let selectors = c.args.selectors.now.items in
    IfOk-weaker c.of_places.result _ _
    (λ lookup h root current.
    let test = selector_decides c.args.operator root current in
    h root current ∙ ap (some_place_has test selectors) c.deref.ensures.value
    ∙ sym (list_any-IsPermutation (λ (at : ℕ). is_there_and test (slice_get selectors at)) _ _ c.sort_places-places.ensures)
    ∙ c.in_ok-places_of.ensures test)
    c.of_places.ensures
