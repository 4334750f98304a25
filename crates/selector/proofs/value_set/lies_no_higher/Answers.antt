use Rattle.couch_json.specs.View.{view}
use Rattle.selector.proofs.Sets.{exceeds_above, reaches_above}
use Rattle.selector.proofs.value_set.lies_no_higher.Goals as goal

pub returns-in-Some-clause-yes : goal.returns-in-Some-clause-yes
returns-in-Some-clause-yes c =
    reaches_above c.args.limit.now c.in-Some.limit c.in-Some.is (view c.edge_of.result.value.now) (view c.args.value.now) c.edge_of.result.inclusive c.args.inclusive
    c.is_no_higher.result c.edge_of.ensures.value c.edge_of.ensures.inclusive c.is_no_higher.ensures

pub returns-in-Some-clause-no : goal.returns-in-Some-clause-no
returns-in-Some-clause-no c =
    exceeds_above c.args.limit.now c.in-Some.limit c.in-Some.is (view c.edge_of.result.value.now) (view c.args.value.now) c.edge_of.result.inclusive c.args.inclusive
    c.is_no_higher.result c.edge_of.ensures.value c.edge_of.ensures.inclusive c.is_no_higher.ensures
