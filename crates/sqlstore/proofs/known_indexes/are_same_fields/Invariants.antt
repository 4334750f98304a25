use Rattle.std.proofs.Common.{take, ◌≡◌}
use Rattle.sqlstore.proofs.known_indexes.are_same_fields.Given as goal

-- the fields so far are the same
abbrev pub invariant-loop-place : goal.invariant-loop-place
invariant-loop-place l = take l.place l.fields ≡ take l.place l.others
