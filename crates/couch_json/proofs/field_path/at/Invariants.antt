use Rattle.std.proofs.Common.{◌≡◌, drop, map, string_bytes}
use Rattle.couch_json.specs.FieldPath.{value_along, value_at}
use Rattle.couch_json.specs.View.{view}
use Rattle.couch_json.proofs.field_path.at.Given as goal

abbrev pub invariant-loop-name : goal.invariant-loop-name
invariant-loop-name l = value_along (map string_bytes (drop l.name-index l.name-items)) (view l.reached) ≡ value_at l.fn.path (view l.value)
