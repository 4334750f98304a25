use Rattle.std.proofs.Common.{◌≡◌, ◌++◌, drop, map, option_map}
use Rattle.couch_json.specs.View.{items_view}
use Rattle.repl.specs.Shapes.{each_in}
use Rattle.repl.proofs.element.read_each.Given as goal

-- what was found, before what the rest says, is what the whole says
abbrev pub invariant-loop-value : goal.invariant-loop-value
invariant-loop-value g l =
    option_map (λ said. map g.S.Shape.said l.elements.items ++ said) (each_in g.S.Shape.said_in (items_view (drop l.value-index l.values)))
    ≡ each_in g.S.Shape.said_in (items_view l.values)
