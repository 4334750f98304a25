use Rattle.std.proofs.Common.{Option}
use Rattle.couch_json.specs.Value.{Value}
use Rattle.selector.specs.FieldBounds.{AreWider, LieWithin}
use Rattle.selector.proofs.field_bounds.add_fields.Given as goal

abbrev pub invariant-loop-path : goal.invariant-loop-path
invariant-loop-path l = record {
  inside : (current : Option Value) → LieWithin l.others current → LieWithin l.initial.fields current → LieWithin l.fields current;
  narrower : AreWider l.fields l.initial.fields;
}
