use Rattle.std.proofs.Common.{◌≡◌, length, rules, sym, ◌∙◌}
use Rattle.couch_json.specs.View.{items_view}
use Rattle.store.proofs.PageStructs.{no_length}
use Rattle.find.proofs.InOrder.{key_covers, key_in_order}
use Rattle.find.proofs.ranges.fixed_range.Goals as goal

pub returns-in_ok-range_at-in-Some-clause-covers : goal.returns-in_ok-range_at-in-Some-clause-covers
returns-in_ok-range_at-in-Some-clause-covers c =
    let fixed = rw c.in-Some.is at c.in_ok-values.ensures in
    key_covers c.args.query.now c.args.fields.now c.in_ok-range_at-in-Some.field-0 (items_view c.in-Some.values.items) c.in_ok-range_at-in-Some.ensures fixed

pub returns-in_ok-range_at-in-Some-clause-order : goal.returns-in_ok-range_at-in-Some-clause-order
returns-in_ok-range_at-in-Some-clause-order c =
    let none : length c.as_slice.result.now ≡ 0 = search rules in
    key_in_order c.args.query.now c.args.fields.now c.in_ok-range_at-in-Some.field-0 (items_view c.in-Some.values.items) c.in_ok-range_at-in-Some.ensures
    (sym c.as_slice.ensures ∙ no_length c.as_slice.result.now none)
