use Rattle.std.proofs.Common.{◌≡◌, ◌||◌, Option, drop}
use Rattle.std.specs.List.{list_any}
use Rattle.couch_json.specs.Value.{Value}
use Rattle.selector.specs.Lookup.{drafts_decide, place_decides, selector_decides, some_place_has}
use Rattle.selector.proofs.lookup.Lookup.of_places.Given as goal

abbrev pub invariant-loop-place : goal.invariant-loop-place
invariant-loop-place l =
    (root : Value) (current : Option Value) → some_place_has (selector_decides l.operator root current) l.selectors.items l.places
    ≡ (drafts_decide l.drafts current || list_any (place_decides l.operator root current l.selectors.items) l.walked.items)
    || some_place_has (selector_decides l.operator root current) l.selectors.items (drop l.place-index l.places)
