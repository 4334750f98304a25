use Rattle.std.proofs.Common.{◌≡◌, ◌++◌, [], drop, map, string_bytes}
use Rattle.repl.specs.Listed.{revisions_of}
use Rattle.repl.specs.Replies.{groups_from, of_document}
use Rattle.repl.proofs.groups.push_groups.Given as goal

-- what was added, before the groups of the rest behind the one that was begun
abbrev pub invariant-loop-revision : goal.invariant-loop-revision
invariant-loop-revision l =
    map revisions_of l.missing.items ++ of_document l.id (groups_from (map string_bytes l.group.items) (map string_bytes (drop l.revision-index l.revisions))) []
    ≡ map revisions_of l.fn.missing.items ++ of_document l.id (groups_from [] (map string_bytes l.revisions)) []
