use Rattle.std.proofs.Common.{◌≡◌, ◌++◌, drop, map}
use Rattle.couch_json.specs.View.{view}
use Rattle.repl.specs.Listed.{revisions_of}
use Rattle.repl.specs.Replies.{missing_of_each}
use Rattle.repl.proofs.opened.missing_of_each.Given as goal

abbrev pub invariant-loop-document : goal.invariant-loop-document
invariant-loop-document l =
    map revisions_of l.missing.items ++ missing_of_each (view l.value) (map revisions_of (drop l.document-index l.listed))
    ≡ missing_of_each (view l.value) (map revisions_of l.listed)
