-- The ranks of the keys of indexes while documents of their database are written.
-- This server's own: what the keys of documents are is said by `Keys`.
use Rattle.std.specs.Prelude.{ℤ, List}
use Rattle.std.specs.List.{AllByRecursion}
use Rattle.sqlite_trees.specs.Tree.{Trees}
use Rattle.store.specs.Database.{Document, TextMap}
use Rattle.index.specs.Shown.{declared}
use Rattle.ranks.specs.Counts.{AreRanksOf}
use Rattle.sqlstore.specs.inner.Keys.{AreKeys, HasIndex, IsIndexRanks, document_keys}
use Rattle.sqlstore.specs.inner.Marks.{documents_at}
use Rattle.sqlstore.specs.declared.index_ranks.IndexRanks.{IndexRanks}
use Rattle.sqlstore.specs.declared.sql_store.key_marking.CountedKeys.{CountedKeys}

-- the ranks are those of the keys that these documents have in the index
abbrev pub AreRanksIn : TextMap Document → IndexRanks → Type 0
AreRanksIn documents r = AreRanksOf r.ranks (document_keys r.declaration.fields.items documents)

-- the keys are those of the documents of their ids in the index
abbrev pub AreKeysIn : TextMap Document → CountedKeys → Type 0
AreKeysIn documents c = AreKeys c.ranks.declaration.fields.items c.keys documents

-- the database has the index, the ranks are those of its keys, and the keys are those of the documents of their ids
abbrev pub IsFound : Trees → ℤ → CountedKeys → Type 0
IsFound trees db c = IsIndexRanks trees db c.ranks × AreKeysIn (documents_at trees db) c

-- the ranks and the keys are those of these documents
abbrev pub IsCounted : TextMap Document → CountedKeys → Type 0
IsCounted documents c = AreRanksIn documents c.ranks × AreKeysIn documents c

-- the same of each of these
abbrev pub AreCounted : TextMap Document → List CountedKeys → Type 0
AreCounted documents cs = AllByRecursion (IsCounted documents) cs

-- the database has the index, and the ranks are those of the keys of its documents
abbrev pub IsMoved : Trees → ℤ → IndexRanks → Type 0
IsMoved trees db r = HasIndex trees db (declared r.declaration) × AreRanksIn (documents_at trees db) r

-- the same of each of these
abbrev pub AreMoved : Trees → ℤ → List IndexRanks → Type 0
AreMoved trees db rs = AllByRecursion (IsMoved trees db) rs
