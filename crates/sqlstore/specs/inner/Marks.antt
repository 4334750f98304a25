-- How the winners of documents are marked, deleted or not, and how many are marked so; and what is known of both after documents were written.
-- CouchDB manual, api/database/common (`doc_count`, `doc_del_count`); whose winner is deleted is said by `Pages` of `store`.
use Rattle.std.specs.Prelude.{◌≡◌, ℕ, ℤ, Bool, false, bytes_eq, filter, if◌then◌else◌, IfSome, List, [], ◌∷◌, map, None, Option, option_map, Some}
use Rattle.std.specs.BTreeMap as tree
use Rattle.std.specs.BTreeMap.{BTreeMap}
use Rattle.std.specs.Cmp.Lexicographic.{slice_cmp}
use Rattle.std.specs.FinMap.{entries, get, insert}
use Rattle.std.specs.List.{count_by, list_any}
use Rattle.std.specs.Ordering.{nat_cmp}
use Rattle.sqlite_trees.specs.Tree.{Trees}
use Rattle.store.specs.Database.{Document, TextMap}
use Rattle.store.specs.Pages.{is_gone}
use Rattle.store.specs.declared.write.Write.{Write}
use Rattle.tables.specs.Listings.{has_mark}
use Rattle.tables.specs.Rows.{documents_in_rows}
use Rattle.tables.specs.Schema.{docs_tree, revs_tree}
use Rattle.sqlstore.specs.inner.Listing.{all_count}
use Rattle.sqlstore.specs.declared.document_count.DocumentCount.{DocumentCount}
use Rattle.sqlstore.specs.declared.known_counts.KnownCounts.{KnownCounts}
use Rattle.sqlstore.specs.declared.marked.Marked.{Marked}

-- the documents of the database of this number
abbrev pub documents_at : Trees → ℤ → TextMap Document
documents_at trees db = documents_in_rows (trees docs_tree) (trees revs_tree) db

-- ---- marks

-- whether the winner is deleted, where the document was ever written
abbrev pub mark_of : Option Document → Option Bool
mark_of d = option_map (λ d. is_gone d.history) d

-- the marks in the map are those of the documents of their ids
abbrev pub AreMarks : BTreeMap (List ℕ) (Option Bool) → TextMap Document → Type 0
AreMarks marks documents = (id : List ℕ) (mark : Option Bool) → tree.get (slice_cmp nat_cmp) marks id ≡ Some mark → mark ≡ mark_of (get documents id)

-- The old documents became the new ones by these changes, one after another: each puts a document in at its id, and tells how the winner
-- there was marked before it, and how that of the new document is.
abbrev pub AreChanges : List Marked → TextMap Document → TextMap Document → Type 0
AreChanges [] old new = old ≡ new
AreChanges (c ∷ cs) old new = (d : Document) × (c.was ≡ mark_of (get old c.id)) × (c.is ≡ is_gone d.history) × AreChanges cs (insert old c.id d) new

-- the ids of the documents that are written
abbrev pub ids_of : List Write → List (List ℕ)
ids_of ws = map (λ w. w.id) ws

-- the documents of all other ids are as they were
abbrev pub KeepsElsewhere : List (List ℕ) → TextMap Document → TextMap Document → Type 0
KeepsElsewhere ids old new = (id : List ℕ) → list_any (λ k. bytes_eq k id) ids ≡ false → get new id ≡ get old id

-- ---- ranks

-- the ids of the documents whose winner is not deleted, in order
abbrev pub live_keys : TextMap Document → List (List ℕ)
live_keys documents = map (λ e. e.0) (filter (λ e. has_mark false (is_gone e.1.history)) (entries documents))

-- whether a document with this mark has a winner that is not deleted
abbrev pub is_live : Option Bool → Bool
is_live None = false
is_live (Some gone) = has_mark false gone

-- ---- counts

-- what a document adds to the count of those that are marked so
abbrev pub share : Bool → Option Bool → ℕ
share deleted None = 0
share deleted (Some gone) = if has_mark deleted gone then 1 else 0

-- how many of the documents are marked so
abbrev pub marked_in : Bool → TextMap Document → ℕ
marked_in deleted documents = count_by (λ e. has_mark deleted (is_gone e.1.history)) (entries documents)

-- the count of the documents that are marked so
abbrev pub count_in : Bool → KnownCounts → Option DocumentCount
count_in deleted counts = if deleted then counts.deleted else counts.live

-- each count that is known is that of these documents
abbrev pub AreCounts : KnownCounts → TextMap Document → Type 0
AreCounts counts documents = (deleted : Bool) → IfSome (count_in deleted counts) (λ c. c.value ≡ marked_in deleted documents)

-- each count that is known is that of the database of this number
abbrev pub AreCountsAt : KnownCounts → ℤ → Trees → Type 0
AreCountsAt counts db trees = (deleted : Bool) → IfSome (count_in deleted counts) (λ c. c.value ≡ all_count trees db deleted)
