use Rattle.std.proofs.Common.{◌≡◌, Some, sym, ap, ◌∙◌, rules}
use Rattle.couch_json.specs.Parts.{is_there_and}
use Rattle.selector.specs.Bounds.{contain}
use Rattle.selector.specs.declared.bounds.Bounds.TheVariants.{Range}
use Rattle.selector.proofs.Edges.{contain-either_first, contain-either_second}
use Rattle.selector.proofs.bounds.hull_of.Goals as goal

pub returns-in-Some-Range-Range-clause-first : goal.returns-in-Some-Range-Range-clause-first
returns-in-Some-Range-Range-clause-first c =
    let ranges = c.in-Some-Range-Range in
    let is : c.args.first ≡ Some (Range ranges.low ranges.high) = search rules in
    λ field inside. contain-either_first ranges.low ranges.high ranges.other_low ranges.other_high c.lowest.result c.highest.result c.lowest.ensures c.highest.ensures field
    (ap (λ first. is_there_and (λ b. contain b field) first) (sym is) ∙ inside)

pub returns-in-Some-Range-Range-clause-second : goal.returns-in-Some-Range-Range-clause-second
returns-in-Some-Range-Range-clause-second c =
    let ranges = c.in-Some-Range-Range in
    λ field inside. contain-either_second ranges.low ranges.high ranges.other_low ranges.other_high c.lowest.result c.highest.result c.lowest.ensures c.highest.ensures field
    (ap (λ bounds. contain bounds field) (sym ranges.is-1) ∙ inside)
