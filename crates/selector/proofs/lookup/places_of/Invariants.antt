use Rattle.std.proofs.Common.{◌≡◌, Bool, take}
use Rattle.std.specs.List.{list_any}
use Rattle.couch_json.specs.Value.{Value}
use Rattle.selector.specs.Lookup.{some_place_has}
use Rattle.selector.proofs.lookup.places_of.Given as goal

abbrev pub invariant-loop-at : goal.invariant-loop-at
invariant-loop-at l =
    (test : Value → Bool) → some_place_has test l.selectors.items l.places.items ≡ list_any test (take l.at l.selectors.items)
