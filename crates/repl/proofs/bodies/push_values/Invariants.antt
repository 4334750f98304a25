use Rattle.std.proofs.Common.{◌≡◌, ◌++◌, drop, string_bytes}
use Rattle.couch_json.specs.Canonical.{items_texts}
use Rattle.couch_json.specs.View.{items_view}
use Rattle.repl.specs.inner.Joined.{after_commas}
use Rattle.repl.proofs.bodies.push_values.Given as goal

abbrev pub invariant-loop-value : goal.invariant-loop-value
invariant-loop-value l =
    string_bytes l.text ++ after_commas (items_texts (items_view (drop l.value-index l.values)))
    ≡ string_bytes l.fn.text ++ after_commas (items_texts (items_view l.values))
