use Rattle.std.proofs.Common.{◌≡◌, drop}
use Rattle.find.specs.inner.Kept.{distinct, distinct_with}
use Rattle.find.proofs.sorting.copy_distinct.Given as goal

-- the copies, with the fields to come, are those of all
abbrev pub invariant-loop-field : goal.invariant-loop-field
invariant-loop-field l = distinct_with l.copies.items (drop l.field-index l.fields) ≡ distinct l.fields
