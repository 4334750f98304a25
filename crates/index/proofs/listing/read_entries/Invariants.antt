use Rattle.index.proofs.Common.{AllByRecursion, map, ◌++◌, ◌≡◌}
use Rattle.std.specs.Vec.Iter.{into_iter_items}
use Rattle.couch_json.specs.Lawful.{IsLawful}
use Rattle.index.specs.Places.{IsShownEntry, spot_of, spot_shown}
use Rattle.index.proofs.listing.read_entries.Given as goal

-- the places so far and those of what is left are all, and where all rows are entries those that are left are
abbrev pub invariant-loop-row : goal.invariant-loop-row
invariant-loop-row l =
    (map spot_of l.read.items ++ map spot_shown (into_iter_items l.row-iterator) ≡ map spot_shown l.fn.rows.items)
    × AllByRecursion (λ p. IsLawful p.key) l.read.items × (AllByRecursion IsShownEntry l.fn.rows.items → AllByRecursion IsShownEntry (into_iter_items l.row-iterator))
