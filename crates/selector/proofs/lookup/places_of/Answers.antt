use Rattle.std.proofs.Common.{◌≡◌, ◌+◌, ◌||◌, suc, take, ap, ◌∙◌, arith}
use Rattle.std.specs.Prelude.{slice_get}
use Rattle.std.specs.List.{list_any}
use Rattle.couch_json.specs.Parts.{is_there_and}
use Rattle.selector.specs.Lookup.{some_place_has}
use Rattle.selector.proofs.Places.{place-next, place-pushed}
use Rattle.selector.proofs.lookup.places_of.Goals as goal

pub loop-at-preserved : goal.loop-at-preserved
loop-at-preserved c = λ test.
    let l = c.loop-at in
    let ss = c.args.selectors.now.items in
    let next : suc l.at ≡ l.at + 1 = omega arith in
    ap (some_place_has test ss) c.in_ok-push.ensures.items ∙ place-pushed test ss l.places.items l.at
    ∙ ap (λ b. b || is_there_and test (slice_get ss l.at)) (l.invariant test) ∙ place-next test ss l.at
    ∙ ap (λ n. list_any test (take n ss)) next
