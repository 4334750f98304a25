use Rattle.couch_json.specs.View.{items_view}
use Rattle.selector.specs.Lookup.{lies_above, lies_below}
use Rattle.selector.specs.Truth.{is_element}
use Rattle.selector.proofs.Searches.{equals}
use Rattle.selector.proofs.Sets.{pushed, set_more}
use Rattle.selector.proofs.value_set.ValueSet.add_value.Goals as goal

pub returns : goal.returns
returns c = λ v.
    let set = c.args.self.now in
    let more = c.push.new.self.items in
    set_more (is_element v (items_view more)) (is_element v (items_view set.values.items)) (equals v c.args.value.now) (lies_below set.below v) (lies_above set.above v)
    (pushed v set.values.items more c.args.value.now c.in_ok-copy.field-0 c.in_ok-push.ensures.items c.in_ok-copy.ensures)
