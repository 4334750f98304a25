use Rattle.std.proofs.Common.{◌≡◌, ◌++◌, drop, map, string_bytes}
use Rattle.couch_json.specs.Value.{text}
use Rattle.couch_json.specs.View.{view}
use Rattle.policy.proofs.rule_argument.copy_texts.Given as goal

-- the values so far and those to come are those of all texts
abbrev pub invariant-loop-name : goal.invariant-loop-name
invariant-loop-name l = map view l.items.items ++ map text (map string_bytes (drop l.name-index l.names)) ≡ map text (map string_bytes l.names)
