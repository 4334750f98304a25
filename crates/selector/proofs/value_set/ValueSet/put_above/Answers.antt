use Rattle.std.proofs.Common.{◌||◌, ap, ◌∙◌}
use Rattle.couch_json.specs.View.{view, items_view}
use Rattle.selector.specs.Lookup.{is_over, lies_above, lies_below}
use Rattle.selector.specs.Truth.{is_element}
use Rattle.selector.proofs.Decided.{above_kept, above_moved}
use Rattle.selector.proofs.value_set.ValueSet.put_above.Goals as goal

pub returns-then-lies_no_higher : goal.returns-then-lies_no_higher
returns-then-lies_no_higher c = λ v.
    let set = c.args.self.now in
    above_kept (is_element v (items_view set.values.items)) (lies_below set.below v) (lies_above set.above v) (is_over (view c.args.value.now) c.args.inclusive v)
    (c.lies_no_higher.ensures.yes c.if-lies_no_higher.true v)

pub returns : goal.returns
returns c = λ v.
    let set = c.args.self.now in
    ap (λ w. is_element v (items_view set.values.items) || (lies_below set.below v || is_over w c.args.inclusive v)) c.in_ok-copy.ensures
    ∙ above_moved (is_element v (items_view set.values.items)) (lies_below set.below v) (lies_above set.above v) (is_over (view c.args.value.now) c.args.inclusive v)
    (c.lies_no_higher.ensures.no c.if-lies_no_higher.false v)
