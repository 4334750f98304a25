use Rattle.std.proofs.Common.{◌||◌, ap, ◌∙◌}
use Rattle.couch_json.specs.View.{items_view}
use Rattle.selector.specs.Lookup.{lies_above, lies_below, set_has}
use Rattle.selector.specs.Truth.{is_element}
use Rattle.selector.proofs.Sets.{set_more}
use Rattle.selector.proofs.value_set.ValueSet.add_all.Goals as goal

pub returns : goal.returns
returns c = λ v.
    let set = c.args.self.now in
    set_more (is_element v (items_view c.copy_onto.new.values.items)) (is_element v (items_view set.values.items)) (is_element v (items_view c.as_slice.result.now))
    (lies_below set.below v) (lies_above set.above v) (c.in_ok-copy_onto.ensures v)
    ∙ ap (λ b. b || set_has set v) (c.as_slice.ensures.same v)
