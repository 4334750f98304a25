-- How many rows a sound file has.
-- This server's own, over `Schema` of `tables`; SQLite counts to 2^63 - 1 (SQLite, lang_aggfunc: count).
use Rattle.std.specs.Prelude.{◌≡◌, ℕ, List, length, min, ⊤}
use Rattle.sqlite_trees.specs.Tree.{Trees}
use Rattle.sqlite_value.specs.Order.{Row}
use Rattle.tables.specs.Schema.{dbs_tree, docs_tree, revs_tree, locals_tree, decls_tree, entries_tree}
use Rattle.file_check.specs.declared.finding.Counts.{Counts}
use Rattle.file_check.specs.declared.finding.Verdict.{Verdict}
use Rattle.file_check.specs.declared.finding.Verdict.TheVariants.{Sound, Unsound}

-- how many rows there are, up to the greatest number that SQLite counts to
abbrev pub row_count : List Row → ℕ
row_count rows = min (length rows) 9223372036854775807

-- each count is that of the rows of its table
pub record CountsRows (trees : Trees) (counts : Counts) : Type 0 where
  pub databases : counts.databases ≡ row_count (trees dbs_tree)
  pub documents : counts.documents ≡ row_count (trees docs_tree)
  pub revisions : counts.revisions ≡ row_count (trees revs_tree)
  pub locals : counts.locals ≡ row_count (trees locals_tree)
  pub indexes : counts.indexes ≡ row_count (trees decls_tree)
  pub entries : counts.entries ≡ row_count (trees entries_tree)

-- a verdict that a file is sound counts its rows
abbrev pub CountsIfSound : Trees → Verdict → Type 0
CountsIfSound trees (Sound counts) = CountsRows trees counts
CountsIfSound trees (Unsound finding) = ⊤
