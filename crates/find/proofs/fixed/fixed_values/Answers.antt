use Rattle.std.proofs.Common.{◌≡◌, ◌∷◌, ◌+◌, ◌≤◌, Some, drop, length, sym, ap, ◌∙◌, rules, arith}
use Rattle.std.proofs.lemmas.List.{drop_all, drop_more}
use Rattle.couch_json.specs.View.{view}
use Rattle.store.proofs.FieldValues.{one_more_field}
use Rattle.find.proofs.FixedFields.{all_fixed}
use Rattle.find.proofs.fixed.fixed_values.Goals as goal

pub loop-field-preserved : goal.loop-field-preserved
loop-field-preserved c = λ v m.
    let fields = c.args.fields.now in
    let i = c.loop-field.field-index in
    let path = c.field-item.result in
    let next = drop_more fields i path c.loop-field-test.true ∙ (λ j. sym c.field-item.is j ∷ drop (i + 1) fields) in
    let same : view c.in_ok-copy.field-0 ≡ view c.in-Some.value.now = search rules in
    one_more_field path (drop i fields) (drop (i + 1) fields) v c.loop-field.values.items c.push.new.self.items c.in_ok-copy.field-0 next (ap Some same ∙ sym (c.in-Some.ensures v m)) c.in_ok-push.ensures.items
    ∙ c.loop-field.invariant v m

pub returns : goal.returns
returns c =
    let fields = c.args.fields.now in
    let i = c.loop-field.field-index in
    let none : length c.args.fields.now ≤ c.loop-field.field-index = omega (arith, c.loop-field-test.false) in
    all_fixed c.args.query.now fields (drop i fields) c.loop-field.values.items (drop_all i fields none) c.loop-field.invariant
