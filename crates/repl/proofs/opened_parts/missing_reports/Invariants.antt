use Rattle.std.proofs.Common.{◌≡◌, ◌++◌, drop, map}
use Rattle.couch_json.specs.View.{view}
use Rattle.repl.specs.Replies.{missing_reports}
use Rattle.repl.specs.Taken.{opened_of}
use Rattle.repl.proofs.opened_parts.missing_reports.Given as goal

abbrev pub invariant-loop-revision : goal.invariant-loop-revision
invariant-loop-revision l =
    map view l.reports.items ++ missing_reports l.id (map opened_of (drop l.revision-index l.opened)) ≡ missing_reports l.id (map opened_of l.opened)
