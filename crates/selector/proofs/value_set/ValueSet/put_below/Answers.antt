use Rattle.std.proofs.Common.{◌||◌, ap, ◌∙◌}
use Rattle.couch_json.specs.View.{view, items_view}
use Rattle.selector.specs.Lookup.{is_under, lies_above, lies_below}
use Rattle.selector.specs.Truth.{is_element}
use Rattle.selector.proofs.Decided.{below_kept, below_moved}
use Rattle.selector.proofs.value_set.ValueSet.put_below.Goals as goal

pub returns-then-lies_no_lower : goal.returns-then-lies_no_lower
returns-then-lies_no_lower c = λ v.
    let set = c.args.self.now in
    below_kept (is_element v (items_view set.values.items)) (lies_below set.below v) (lies_above set.above v) (is_under (view c.args.value.now) c.args.inclusive v)
    (c.lies_no_lower.ensures.yes c.if-lies_no_lower.true v)

pub returns : goal.returns
returns c = λ v.
    let set = c.args.self.now in
    ap (λ w. is_element v (items_view set.values.items) || (is_under w c.args.inclusive v || lies_above set.above v)) c.in_ok-copy.ensures
    ∙ below_moved (is_element v (items_view set.values.items)) (lies_below set.below v) (lies_above set.above v) (is_under (view c.args.value.now) c.args.inclusive v)
    (c.lies_no_lower.ensures.no c.if-lies_no_lower.false v)
