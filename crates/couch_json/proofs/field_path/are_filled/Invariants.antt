use Rattle.std.proofs.Common.{◌≡◌, drop, map, string_bytes}
use Rattle.couch_json.specs.FieldPath.{are_filled}
use Rattle.couch_json.proofs.field_path.are_filled.Given as goal

abbrev pub invariant-loop-name : goal.invariant-loop-name
invariant-loop-name l = are_filled (map string_bytes l.names) ≡ are_filled (map string_bytes (drop l.name-index l.names))
