use Rattle.file_check.proofs.WalkSteps.{Walked}
use Rattle.file_check.proofs.indexes.checking.check_rows.Given as goal

-- the rows up to the last one are so, and the connection is as it was
abbrev pub invariant-loop-row : goal.invariant-loop-row
invariant-loop-row g l = Walked g.S.Store l.table l.last l.initial.conn l.conn
