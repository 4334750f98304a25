use Rattle.std.proofs.Common.{◌≡◌, ◌++◌, map, drop}
use Rattle.couch_json.specs.Value.{text}
use Rattle.node.proofs.databases.list_names.Given as goal

abbrev pub invariant-loop-name : goal.invariant-loop-name
invariant-loop-name l = l.values ++ map text (drop l.name-index l.names) ≡ map text l.names
