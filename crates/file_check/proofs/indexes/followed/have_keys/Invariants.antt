use Rattle.sqlite_value.specs.Order as order
use Rattle.std.proofs.Common.{List, Some}
use Rattle.couch_json.specs.View.{view}
use Rattle.file_check.proofs.EachAsked.{SoFar}
use Rattle.file_check.specs.inner.IndexRows.{AreShownIndexes}
use Rattle.file_check.specs.Indexes.{HasItsKey}
use Rattle.file_check.proofs.indexes.followed.have_keys.Given as goal

-- the connection is as it was, and each index so far has the entry
abbrev pub invariant-loop-row : goal.invariant-loop-row
invariant-loop-row g l = (decls : List order.Row) → SoFar g.S.Store (AreShownIndexes l.rows decls) (HasItsKey l.id (Some (view l.seen))) decls l.row-index l.initial.conn l.conn
