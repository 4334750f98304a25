use Rattle.std.proofs.Common.{◌≡◌, ◌++◌, map, string_bytes}
use Rattle.couch_json.specs.FieldPath.{names_from, names_in}
use Rattle.couch_json.proofs.field_path.names_in.Given as goal

abbrev pub invariant-loop-sign : goal.invariant-loop-sign
invariant-loop-sign l = map string_bytes l.names.items ++ names_from l.held (string_bytes l.name) l.sign-iterator.rest.now ≡ names_in l.text
