use Rattle.std.proofs.Common.{◌≡◌, ◌++◌, drop, map}
use Rattle.couch_json.specs.View.{view}
use Rattle.repl.specs.Replies.{documents_of_opened}
use Rattle.repl.specs.Taken.{opened_of}
use Rattle.repl.proofs.opened_parts.documents_of.Given as goal

abbrev pub invariant-loop-revision : goal.invariant-loop-revision
invariant-loop-revision l =
    map view l.documents.items ++ documents_of_opened (map opened_of (drop l.revision-index l.opened)) ≡ documents_of_opened (map opened_of l.opened)
