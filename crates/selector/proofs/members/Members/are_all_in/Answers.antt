use Rattle.std.proofs.Common.{◌∙◌}
use Rattle.couch_json.specs.View.{items_view}
use Rattle.selector.specs.Truth.{elements_or_none, is_element}
use Rattle.selector.proofs.Marks.{each_of_some-same}
use Rattle.selector.proofs.members.Members.are_all_in.Goals as goal

pub returns : goal.returns
returns c =
    c.has_each.ensures ∙ each_of_some-same (λ w. is_element w (items_view c.args.items.now)) (items_view c.as_slice.result.now) (elements_or_none c.args.self.now) c.as_slice.ensures.same
