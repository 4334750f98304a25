use Rattle.std.proofs.Common.{◌≡◌, drop, map, true}
use Rattle.couch_json.specs.Value.{Value}
use Rattle.couch_json.specs.View.{view}
use Rattle.selector.specs.Truth.{selector_matches}
use Rattle.store.specs.Indexes.{field_values}
use Rattle.store.proofs.FieldValues.{before_all}
use Rattle.find.proofs.fixed.fixed_values.Given as goal

-- the values so far and those of the fields to come are those of all fields
abbrev pub invariant-loop-field : goal.invariant-loop-field
invariant-loop-field l = (v : Value) → selector_matches l.query.selector v ≡ true
    → before_all (map view l.values.items) (field_values (drop l.field-index l.fields) v) ≡ field_values l.fields v
