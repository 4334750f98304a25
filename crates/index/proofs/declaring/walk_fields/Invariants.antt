use Rattle.index.proofs.Common.{AllByRecursion, drop, true, ◌≡◌}
use Rattle.couch_json.specs.FieldPath.{is_field_path}
use Rattle.std.specs.Prelude.{IsUtf8}
use Rattle.index.proofs.declaring.walk_fields.Given as goal

abbrev pub invariant-loop-field : goal.invariant-loop-field
invariant-loop-field l = AllByRecursion (λ path. (is_field_path path ≡ true) × IsUtf8 path) (drop l.field-index l.fields) → AllByRecursion (λ path. (is_field_path path ≡ true) × IsUtf8 path) l.fields
