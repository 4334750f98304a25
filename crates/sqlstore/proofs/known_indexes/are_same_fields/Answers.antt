use Rattle.std.proofs.Common.{[], arith, rules, sym, take, true, ◌++◌, ◌∙◌, ◌∷◌, ◌≡◌}
use Rattle.std.proofs.lemmas.List.{take_more}
use Rattle.std.proofs.lemmas.Slice.Eq.{bytes_eq-Decides}
use Rattle.sqlstore.proofs.known_indexes.are_same_fields.Goals as goal

pub loop-place-preserved : goal.loop-place-preserved
loop-place-preserved c =
    let i = c.loop-place.place in
    let xs = c.args.fields.now in
    let ys = c.args.others.now in
    let x = c.index-fields-place.result in
    let y = c.index-others-place.result in
    let yes : c.is_same_field.result ≡ true = search rules in
    let same = (bytes_eq-Decides x y).0 (sym c.is_same_field.ensures ∙ yes) in
    take_more xs i x c.loop-place-test.true ∙ (λ j. take i xs ++ sym c.index-fields-place.is j ∷ [])
    ∙ (λ j. c.loop-place.invariant j ++ same j ∷ [])
    ∙ sym (take_more ys i y (omega (arith, c.loop-place-test.true)) ∙ (λ j. take i ys ++ sym c.index-others-place.is j ∷ []))
