use Rattle.file_check.proofs.TableWalks.{Walked}
use Rattle.file_check.proofs.layout.checking.check_table.Given as goal

-- the rows up to the last one are sound, and the connection is as it was
abbrev pub invariant-loop-row : goal.invariant-loop-row
invariant-loop-row g l = Walked g.S.Store l.table l.last l.initial.conn l.conn
