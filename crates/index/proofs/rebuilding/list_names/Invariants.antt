use Rattle.index.proofs.Common.{drop, map, ◌++◌, ◌≡◌}
use Rattle.couch_json.specs.View.{members_view}
use Rattle.index.specs.Rebuilding.{names_of}
use Rattle.index.proofs.rebuilding.list_names.Given as goal

-- the names so far and those of what is left are all
abbrev pub invariant-loop-name : goal.invariant-loop-name
invariant-loop-name l = map (λ name. name.items) l.names.items ++ names_of (members_view (drop l.name-index l.name-items)) ≡ names_of (members_view l.members.entries)
