-- What is asked about revisions, in the words of `Differences`: for private clauses.
-- This crate's own: it ties a struct of the code to the definition.
use Rattle.std.specs.Prelude.{List, map, string_bytes}
use Rattle.read.specs.Differences.{RevisionsOf}
use Rattle.read.specs.declared.differences.AskedRevisions.{AskedRevisions}

abbrev pub revisions_asked : AskedRevisions → RevisionsOf
revisions_asked a = record { id = string_bytes a.id; revs = a.revs.items }

abbrev pub all_asked : List AskedRevisions → List RevisionsOf
all_asked as_they_come = map revisions_asked as_they_come
