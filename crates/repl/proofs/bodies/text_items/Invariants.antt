use Rattle.std.proofs.Common.{◌≡◌, ◌++◌, drop, map, string_bytes}
use Rattle.couch_json.specs.Value.{text}
use Rattle.couch_json.specs.View.{view}
use Rattle.repl.proofs.bodies.text_items.Given as goal

abbrev pub invariant-loop-text : goal.invariant-loop-text
invariant-loop-text l =
    map view l.values.items ++ map text (map string_bytes (drop l.text-index l.texts)) ≡ map text (map string_bytes l.texts)
