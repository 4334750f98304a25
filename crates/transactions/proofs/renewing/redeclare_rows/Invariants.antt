use Rattle.transactions.proofs.Common.{CommitFault, List, Ok, Row, drop, ◌≡◌}
use Rattle.transactions.specs.Renewing.{AreRedeclared, AreToRedeclare}
use Rattle.index.specs.Steps.{Steps}
use Rattle.transactions.proofs.renewing.redeclare_rows.Given as goal

-- the same transaction, and the documents that come next declare nothing yet
abbrev pub invariant-loop-row : goal.invariant-loop-row
invariant-loop-row g l = record {
  same : l.tx.conn.ghost_name ≡ l.initial.tx.conn.ghost_name;
  so_far : (docs : List Row) → Steps {X = Unit {0}} {E = CommitFault} g.S.Store (AreToRedeclare l.rows docs) (AreRedeclared (drop l.row-index docs)) l.initial.tx.conn.now l.tx.conn.now (Ok tt);
}
