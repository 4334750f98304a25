use Rattle.std.proofs.Common.{pos, sym, ap, ◌∙◌, rules}
use Rattle.std.proofs.lemmas.Int.{to_z_pos}
use Rattle.std.specs.Int.{w128}
use Rattle.selector.proofs.Lists.{items_length-items_view}
use Rattle.selector.proofs.meeting.length_of.Goals as goal

pub returns : goal.returns
returns c =
    let items = c.args.items.now in
    to_z_pos w128 c.len.result (search rules) ∙ ap pos (c.len.ensures ∙ search rules ∙ sym (items_length-items_view items.items))
