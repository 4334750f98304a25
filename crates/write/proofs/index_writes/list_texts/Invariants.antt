use Rattle.std.proofs.Common.{◌≡◌, ◌++◌, drop, map}
use Rattle.couch_json.specs.Value.{text}
use Rattle.couch_json.specs.View.{view}
use Rattle.write.proofs.index_writes.list_texts.Given as goal

abbrev pub invariant-loop-field : goal.invariant-loop-field
invariant-loop-field l = map view l.texts.items ++ map text (drop l.field-index l.fields) ≡ map text l.fields
