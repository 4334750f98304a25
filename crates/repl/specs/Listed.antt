-- Revisions of the program, in the words of `Calls`.
use Rattle.std.specs.Prelude.{map, string_bytes}
use Rattle.repl.specs.Calls.{Revisions}
use Rattle.repl.specs.declared.revisions.DocumentRevisions.{DocumentRevisions}

abbrev pub revisions_of : DocumentRevisions → Revisions
revisions_of d = record { id = string_bytes d.id; revisions = map string_bytes d.revisions.items }
