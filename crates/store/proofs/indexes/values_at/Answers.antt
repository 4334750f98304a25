use Rattle.std.proofs.Common.{◌≡◌, ◌∷◌, ◌+◌, ◌≤◌, Some, drop, length, sym, ◌∙◌, rules, arith}
use Rattle.std.proofs.lemmas.List.{drop_all, drop_more}
use Rattle.couch_json.specs.FieldPath.{value_at}
use Rattle.couch_json.specs.View.{view}
use Rattle.store.proofs.FieldValues.{all_fields, one_more_field}
use Rattle.store.proofs.indexes.values_at.Goals as goal

pub loop-field-preserved : goal.loop-field-preserved
loop-field-preserved c =
    let fields = c.args.fields.now in
    let i = c.loop-field.field-index in
    let path = c.field-item.result in
    let next = drop_more fields i path c.loop-field-test.true ∙ (λ j. sym c.field-item.is j ∷ drop (i + 1) fields) in
    let there : Some (view c.in_ok-copy.field-0) ≡ value_at c.field-item.result (view c.args.document.now) = search rules in
    one_more_field path (drop i fields) (drop (i + 1) fields) (view c.args.document.now) c.loop-field.values.items c.push.new.self.items c.in_ok-copy.field-0 next there c.in_ok-push.ensures.items
    ∙ c.loop-field.invariant

pub returns : goal.returns
returns c =
    let fields = c.args.fields.now in
    let i = c.loop-field.field-index in
    let none : length c.args.fields.now ≤ c.loop-field.field-index = omega (arith, c.loop-field-test.false) in
    all_fields (drop i fields) (view c.args.document.now) c.loop-field.values.items (drop_all i fields none) ∙ c.loop-field.invariant
