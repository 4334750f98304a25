use Rattle.std.proofs.Common.{◌≡◌, ◌++◌, drop, option_to_list, option_copied}
use Rattle.api.specs.Queried.{texts_of}
use Rattle.api.specs.Queries.{parameter_values}
use Rattle.api.proofs.parameters.sole_value.Given as goal

-- the value so far and those to come are those of all parameters
abbrev pub invariant-loop-known : goal.invariant-loop-known
invariant-loop-known l =
    option_to_list (option_copied l.found) ++ parameter_values l.name (texts_of (drop l.known-index l.parameters))
    ≡ parameter_values l.name (texts_of l.parameters)
