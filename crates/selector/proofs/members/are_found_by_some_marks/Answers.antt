use Rattle.std.proofs.Common.{ap, ◌∙◌}
use Rattle.std.specs.List.{list_all}
use Rattle.selector.proofs.Marks.{all-marks}
use Rattle.selector.proofs.members.are_found_by_some_marks.Goals as goal

pub returns : goal.returns
returns c = c.are_marked.ensures ∙ ap (list_all (λ b. b)) c.mark_found.ensures ∙ all-marks c.args.values.now c.args.items.now
