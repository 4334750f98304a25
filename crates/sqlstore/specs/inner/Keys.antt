-- The keys that documents have in an index, how they are counted by segments, and what changes of documents make of them.
-- CouchDB manual, api/ddoc/views (`offset`, `total_rows`); which document has which key is said by `Meaning` of `index`.
use Rattle.std.specs.Prelude.{◌≡◌, ℕ, ℤ, Contains, IfSome, List, [], ◌∷◌, filter, map, None, Option, option_and_then, Some, Vec}
use Rattle.std.specs.BTreeMap as tree
use Rattle.std.specs.BTreeMap.{BTreeMap}
use Rattle.std.specs.Cmp.Lexicographic.{slice_cmp}
use Rattle.std.specs.FinMap.{entries, get, insert}
use Rattle.std.specs.List.{AllByRecursion}
use Rattle.std.specs.Ordering.{nat_cmp}
use Rattle.std.specs.declared.alloc.Global.{Global}
use Rattle.sqlite_trees.specs.Tree.{Trees}
use Rattle.store.specs.Database.{Document, TextMap}
use Rattle.store.specs.Indexes.{queried_document}
use Rattle.tables.specs.Schema.{decls_tree, entries_tree}
use Rattle.index.specs.Meaning.{key_if_seen}
use Rattle.index.specs.Rows.{is_at_home, is_entry_in, key_of}
use Rattle.index.specs.Shown.{Declared, declared, declared_at}
use Rattle.ranks.specs.Counts.{AreRanksOf}
use Rattle.sqlstore.specs.declared.index_ranks.IndexRanks.{IndexRanks}
use Rattle.sqlstore.specs.declared.key_change.KeyChange.{KeyChange}

-- ---- the keys of an index

-- the keys of the entries of the declaration of this number
abbrev pub entry_keys : Trees → ℤ → List (List ℕ)
entry_keys trees declaration = map key_of (filter (is_entry_in declaration) (trees entries_tree))

-- the database of this number has this index
abbrev pub HasIndex : Trees → ℤ → Declared → Type 0
HasIndex trees db d = Contains (map declared_at (filter (is_at_home db) (trees decls_tree))) d

-- the database of this number has the index, and the ranks are those of its keys
pub record IsIndexRanks (trees : Trees) (db : ℤ) (r : IndexRanks) : Type 0 where
  pub index : HasIndex trees db (declared r.declaration)
  pub ranks : AreRanksOf r.ranks (entry_keys trees (declared r.declaration).number)

-- the same of each of these
abbrev pub AreIndexRanks : Trees → ℤ → List IndexRanks → Type 0
AreIndexRanks trees db rs = AllByRecursion (IsIndexRanks trees db) rs

-- the same, where some are known
abbrev pub AreKnownRanks : Trees → ℤ → Option (Vec IndexRanks Global) → Type 0
AreKnownRanks trees db known = IfSome known (λ rs. AreIndexRanks trees db rs.items)

-- ---- the keys of documents

-- the key that a document has in an index of these fields, where it was ever written, queries see it, and it has all fields
abbrev pub document_key : List (List ℕ) → List ℕ → Option Document → Option (List ℕ)
document_key fields id d = option_and_then (λ d. key_if_seen fields (queried_document id d.history)) d

-- these keys, and this one if there is one
abbrev pub with_one_key : Option (List ℕ) → List (List ℕ) → List (List ℕ)
with_one_key None keys = keys
with_one_key (Some key) keys = key ∷ keys

-- the keys of documents with their ids
abbrev pub keys_over : List (List ℕ) → List (List ℕ × Document) → List (List ℕ)
keys_over fields [] = []
keys_over fields (e ∷ es) = with_one_key (document_key fields e.0 (Some e.1)) (keys_over fields es)

-- the keys of the documents of a database
abbrev pub document_keys : List (List ℕ) → TextMap Document → List (List ℕ)
document_keys fields documents = keys_over fields (entries documents)

-- ---- changes

-- the keys in the map are those of the documents of their ids
abbrev pub AreKeys : List (List ℕ) → BTreeMap (List ℕ) (Option (List ℕ)) → TextMap Document → Type 0
AreKeys fields keys documents = (id : List ℕ) (key : Option (List ℕ)) → tree.get (slice_cmp nat_cmp) keys id ≡ Some key → key ≡ document_key fields id (get documents id)

-- The old documents became the new ones by these changes, one after another: each puts a document in at its id, and says which key
-- the document there had before it, and which the new one has.
abbrev pub AreKeyChanges : List (List ℕ) → List KeyChange → TextMap Document → TextMap Document → Type 0
AreKeyChanges fields [] old new = old ≡ new
AreKeyChanges fields (c ∷ cs) old new = (d : Document) × (c.was ≡ document_key fields c.id (get old c.id)) × (c.is ≡ document_key fields c.id (Some d)) × AreKeyChanges fields cs (insert old c.id d) new
