use Rattle.std.proofs.Common.{sym, ◌∙◌, arith}
use Rattle.couch_json.specs.View.{items_view}
use Rattle.selector.specs.Truth.{is_element}
use Rattle.selector.proofs.Lists.{each_of_there}
use Rattle.selector.proofs.Marks.{too_many}
use Rattle.selector.proofs.members.has_each.Goals as goal

pub returns-then-values-items : goal.returns-then-values-items
returns-then-values-items c =
    let values = c.args.values.now in
    let there = sym c.is_empty.ensures ∙ c.if-is_empty.false in
    too_many values c.args.items.now c.requires (omega (arith, c.if-values-items.true)) ∙ each_of_there (λ w. is_element w (items_view c.args.items.now)) values there

pub returns : goal.returns
returns c =
    let values = c.args.values.now in
    let there = sym c.is_empty.ensures ∙ c.if-is_empty.false in
    c.are_among_by_parts.ensures ∙ each_of_there (λ w. is_element w (items_view c.args.items.now)) values there
