use Rattle.std.proofs.Common.{sym, ◌∙◌}
use Rattle.couch_json.specs.View.{items_view}
use Rattle.selector.specs.Truth.{is_element}
use Rattle.selector.proofs.Lists.{each_of_there}
use Rattle.selector.proofs.elements.has_all.Goals as goal

pub returns-then-not-is_empty : goal.returns-then-not-is_empty
returns-then-not-is_empty c =
    let wanted = c.args.wanted.now in
    let there = sym c.is_empty.ensures ∙ c.if-not-is_empty.true in
    c.are_among.ensures ∙ each_of_there (λ w. is_element w (items_view c.args.items.now)) wanted there
