use Rattle.std.proofs.Common.{◌≡◌, ℕ, List, drop, map, reverse}
use Rattle.couch_json.specs.View.{view}
use Rattle.write.specs.inner.Repeats.{has_text, is_named, repeats}
use Rattle.write.proofs.repeats.mark_repeats.Given as goal

-- the documents from here on are marked, and their texts are in
abbrev pub invariant-loop-at : goal.invariant-loop-at
invariant-loop-at l = record {
  marked : l.marks.items ≡ reverse (repeats (map view (drop l.at l.documents)));
  named : (text : List ℕ) → has_text l.texts text ≡ is_named text (map view (drop l.at l.documents));
}
