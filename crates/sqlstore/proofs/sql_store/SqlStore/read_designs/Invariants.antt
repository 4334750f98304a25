use Rattle.sqlstore.proofs.Common.{AllByRecursion, Stands, is_honest, take, trees_of}
use Rattle.std.proofs.Common.{map, ◌≡◌}
use Rattle.sqlstore.specs.inner.Designs.{IsDesign, row_of_design}
use Rattle.sqlstore.proofs.sql_store.SqlStore.read_designs.Given as goal

-- the store stands as it was, and the design documents so far are those of the rows so far
abbrev pub invariant-loop-row : goal.invariant-loop-row
invariant-loop-row g l = record {
  stands : Stands g.S.Store l.initial.self l.self;
  rows : map row_of_design l.designs.items ≡ take l.row-index l.rows;
  so_far : is_honest g.S.Store l.self → AllByRecursion (IsDesign (trees_of g.S.Store l.initial.self) l.number) l.designs.items;
}
