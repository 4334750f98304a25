-- What a verdict on a file says.
-- This server's own, over `Layout` of `tables` and `Indexed` of `index`.
use Rattle.std.specs.Prelude.{◌⊎◌, ⊤}
use Rattle.sqlite.specs.Effect.{Database}
use Rattle.sqlite_trees.specs.Tree.{Trees}
use Rattle.tables.specs.Layout.{AreNumbered}
use Rattle.tables.specs.Schema.{decls_tree, entries_tree}
use Rattle.transactions.specs.Indexing.{IsCommittedStore}
use Rattle.file_check.specs.Indexes.{IsIndexFinding}
use Rattle.file_check.specs.Tables.{AreKept, IsTableFinding}
use Rattle.file_check.specs.declared.finding.Verdict.{Verdict}
use Rattle.file_check.specs.declared.finding.Verdict.TheVariants.{Sound, Unsound}

-- the numbers of the rows rise in the tables of indexes too
pub record AreAllKept (trees : Trees) : Type 0 where
  pub tables : AreKept trees
  pub decls : AreNumbered (trees decls_tree)
  pub entries : AreNumbered (trees entries_tree)

-- a sound file holds a store, as it is between two calls, whose rows of indexes are those of what is stored beside them
abbrev pub Vouches : Database → Verdict → Type 0
Vouches db (Sound counts) = IsCommittedStore db
Vouches db (Unsound finding) = ⊤

-- an unsound file holds none
abbrev pub Refutes : Database → Verdict → Type 0
Refutes db (Sound counts) = ⊤
Refutes db (Unsound finding) = ¬ IsCommittedStore db

-- the finding is of a row that is not sound, or of one of indexes that is not that of what is stored
abbrev pub NamesUnsound : Trees → Verdict → Type 0
NamesUnsound trees (Sound counts) = ⊤
NamesUnsound trees (Unsound finding) = IsTableFinding trees finding ⊎ IsIndexFinding trees finding
