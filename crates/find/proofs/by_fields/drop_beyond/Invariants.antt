use Rattle.std.proofs.Common.{◌≡◌, length}
use Rattle.find.specs.inner.Kept.{kept_of}
use Rattle.find.proofs.by_fields.drop_beyond.Given as goal

-- what is kept of those that are left is what is kept of all
abbrev pub invariant-beyond : goal.invariant-beyond
invariant-beyond l = kept_of l.query l.places.keys ≡ kept_of l.query l.initial.places.keys

abbrev pub decreases-beyond : goal.decreases-beyond
decreases-beyond l = length l.places.keys
