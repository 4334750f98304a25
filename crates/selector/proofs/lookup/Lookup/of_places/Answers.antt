use Rattle.std.proofs.Common.{◌≡◌, ◌+◌, ◌||◌, [], drop, arith, rules}
use Rattle.std.proofs.lemmas.Grind.{common_steps}
use Rattle.std.specs.List.{list_any}
use Rattle.selector.specs.Lookup.{drafts_decide, place_decides, selector_decides, some_group_decides, some_place_has}
use Rattle.selector.proofs.Places.{places-begun, places-done, places-next}
use Rattle.selector.proofs.lookup.Lookup.of_places.Goals as goal

pub loop-place-init : goal.loop-place-init
loop-place-init c = λ root current.
    let ss = c.args.selectors.now.items in
    let empty : c.new-walked.result.items ≡ [] = search rules in
    places-begun (place_decides c.args.operator root current ss) c.new-walked.result.items (drafts_decide c.before.new-drafts.result current)
    (some_place_has (selector_decides c.args.operator root current) ss c.args.places.now) empty (c.before.new-drafts.ensures current)

pub loop-place-preserved : goal.loop-place-preserved
loop-place-preserved c =
    let l = c.loop-place in
    let places = c.args.places.now in
    let ss = c.args.selectors.now.items in
    λ root current.
    let decides = place_decides c.args.operator root current ss in
    places-next (selector_decides c.args.operator root current) ss places (drop l.place-index places) (drop (l.place-index + 1) places) _
    (drafts_decide l.drafts current || list_any decides l.walked.items) (drafts_decide c.add_place.new.drafts current || list_any decides c.add_place.new.walked.items)
    (grind (arith, common_steps)) (l.invariant root current) (c.in_ok-add_place.ensures root current)

pub returns : goal.returns
returns c =
    let l = c.loop-place in
    let places = c.args.places.now in
    let ss = c.args.selectors.now.items in
    let none : drop l.place-index places ≡ [] = grind (arith, common_steps) in
    λ root current.
    places-done (selector_decides c.args.operator root current) ss places (drop l.place-index places) (drafts_decide l.drafts current)
    (some_group_decides c.in_ok-groups.groups.items current) (list_any (place_decides c.args.operator root current ss) l.walked.items)
    none (l.invariant root current) (c.in_ok-groups.ensures current)
