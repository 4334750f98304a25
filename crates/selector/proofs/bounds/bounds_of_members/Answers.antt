use Rattle.selector.proofs.Searches.{is_there-same}
use Rattle.selector.proofs.bounds.bounds_of_members.Goals as goal

pub returns : goal.returns
returns c = λ current there. c.bounds_of_values.ensures current (is_there-same c.as_slice.result.now c.args.members.now c.as_slice.ensures.same current there)
