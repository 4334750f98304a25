use Rattle.index.proofs.Common.{Some, declared, drop, map, ◌++◌, ◌≡◌}
use Rattle.couch_json.specs.View.{view}
use Rattle.index.specs.inner.Gathering.{entries_of, entry_of}
use Rattle.index.proofs.gathering.gather_keys.Given as goal

-- with those of the indexes that come next the entries are those of all
abbrev pub invariant-loop-declaration : goal.invariant-loop-declaration
invariant-loop-declaration l =
    map entry_of l.gathered.entries.items ++ entries_of (map declared (drop l.declaration-index l.declarations)) l.id (Some (view l.seen)) ≡ map entry_of l.initial.gathered.entries.items ++ entries_of (map declared l.declarations) l.id (Some (view l.seen))
