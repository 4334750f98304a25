use Rattle.sqlstore.proofs.Common.{Stands, drop, history_in_rows, is_honest, map, revs_tree, sequence_row_of, sequence_rows, trees_of, with_leaves, ◌++◌, ◌≡◌}
use Rattle.sqlstore.proofs.sql_store.SqlStore.show_all_leaves.Given as goal

-- the store stands as it was, and the rows so far are those of the rows that were gone over
abbrev pub invariant-loop-row : goal.invariant-loop-row
invariant-loop-row g l = record {
  stands : Stands g.S.Store l.initial.self l.self;
  sequences : map (λ r. r.sequence) l.shown.items ++ map (λ r. r.sequence) (drop l.row-index l.rows) ≡ map (λ r. r.sequence) l.rows;
  shown : is_honest g.S.Store l.self
      → sequence_rows l.shown.items ++ map (λ r. with_leaves (history_in_rows (trees_of g.S.Store l.initial.self revs_tree) l.number) (sequence_row_of r)) (drop l.row-index l.rows)
      ≡ map (λ r. with_leaves (history_in_rows (trees_of g.S.Store l.initial.self revs_tree) l.number) (sequence_row_of r)) l.rows;
}
