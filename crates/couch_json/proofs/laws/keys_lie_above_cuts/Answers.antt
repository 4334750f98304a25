use Rattle.couch_json.proofs.KeyCuts.{above-bound_above_all, above-bound_after, above-bound_after_prefix, above-bound_before, above-bound_below_all, bound_after_prefix-array}
use Rattle.couch_json.proofs.laws.keys_lie_above_cuts.Goals as goal

pub returns-clause-below_all : goal.returns-clause-below_all
returns-clause-below_all c = above-bound_below_all

pub returns-clause-above_all : goal.returns-clause-above_all
returns-clause-above_all c = above-bound_above_all

pub returns-clause-before : goal.returns-clause-before
returns-clause-before c = above-bound_before

pub returns-clause-after : goal.returns-clause-after
returns-clause-after c = above-bound_after

pub returns-clause-after_prefix : goal.returns-clause-after_prefix
returns-clause-after_prefix c = above-bound_after_prefix

pub returns-clause-made : goal.returns-clause-made
returns-clause-made c = bound_after_prefix-array
