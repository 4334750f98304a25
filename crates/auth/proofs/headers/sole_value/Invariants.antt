use Rattle.std.proofs.Common.{◌≡◌, ◌++◌, drop, option_to_list, option_copied}
use Rattle.auth.specs.Headers.{fields_of, header_values}
use Rattle.auth.proofs.headers.sole_value.Given as goal

-- the value so far and those to come are those of all headers
abbrev pub invariant-loop-header : goal.invariant-loop-header
invariant-loop-header g l =
    let seen = fields_of g.N.AsSlice.items g.V.AsSlice.items in
    option_to_list (option_copied l.found) ++ header_values l.name (seen (drop l.header-index l.headers))
    ≡ header_values l.name (seen l.headers)
