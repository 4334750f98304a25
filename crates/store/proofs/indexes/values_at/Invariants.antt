use Rattle.std.proofs.Common.{◌≡◌, drop, map}
use Rattle.couch_json.specs.View.{view}
use Rattle.store.specs.Indexes.{field_values}
use Rattle.store.proofs.FieldValues.{before_all}
use Rattle.store.proofs.indexes.values_at.Given as goal

abbrev pub invariant-loop-field : goal.invariant-loop-field
invariant-loop-field l = before_all (map view l.values.items) (field_values (drop l.field-index l.fields) (view l.document)) ≡ field_values l.fields (view l.document)
