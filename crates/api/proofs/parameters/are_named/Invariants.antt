use Rattle.std.proofs.Common.{◌≡◌, drop, map}
use Rattle.api.specs.Queried.{texts_of}
use Rattle.api.specs.Queries.{parameters_are_named}
use Rattle.api.proofs.parameters.are_named.Given as goal

abbrev pub invariant-loop-name : goal.invariant-loop-name
invariant-loop-name l =
    parameters_are_named (map (λ name. name.now) l.names) (texts_of (drop l.name-index l.parameters))
    ≡ parameters_are_named (map (λ name. name.now) l.names) (texts_of l.parameters)
