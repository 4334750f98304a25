use Rattle.std.proofs.Common.{string_bytes, true, ◌≡◌}
use Rattle.std.specs.List.{list_any}
use Rattle.tables.specs.Schema.{decls_tree}
use Rattle.index.specs.Rows.{is_declaration_of}
use Rattle.file_check.proofs.EachAsked.{SoFar}
use Rattle.file_check.specs.Indexes.{IsReadable}
use Rattle.file_check.proofs.indexes.followed.have_rows.Given as goal

-- the connection is as it was, and each index so far has its row
abbrev pub invariant-loop-name : goal.invariant-loop-name
invariant-loop-name g l = SoFar g.S.Store IsReadable (λ trees m. list_any (is_declaration_of l.db l.design (string_bytes m.0)) (trees decls_tree) ≡ true) l.name-items l.name-index l.initial.conn l.conn
