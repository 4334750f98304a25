-- The histories of documents that were read in a transaction, by id.
-- This server's own: what is stored of a document is said by `tables`.
use Rattle.std.specs.Prelude.{◌≡◌, ℕ, ℤ, IsTrue, List, if◌then◌else◌, Some}
use Rattle.std.specs.BTreeMap.{BTreeMap, get}
use Rattle.std.specs.Ordering.{is_eq, nat_cmp}
use Rattle.std.specs.Cmp.Lexicographic.{slice_cmp}
use Rattle.sqlite.specs.State.{State}
use Rattle.sqlite_trees.specs.Tree.{Trees}
use Rattle.tables.specs.Rows.{history_in_rows}
use Rattle.tables.specs.Schema.{revs_tree}
use Rattle.tree.specs.History.{HistoryContent}

-- what is stored of a document
abbrev pub stored_history : Trees → ℤ → List ℕ → HistoryContent
stored_history trees db id = history_in_rows (trees revs_tree) db id

-- those in the map are what is stored
abbrev pub AreStored : BTreeMap (List ℕ) HistoryContent → (List ℕ → HistoryContent) → Type 0
AreStored m stored = (id : List ℕ) (h : HistoryContent) → get (slice_cmp nat_cmp) m id ≡ Some h → h ≡ stored id

-- the same of a database, as these tables have it
abbrev pub AreHeld : BTreeMap (List ℕ) HistoryContent → ℤ → Trees → Type 0
AreHeld m db trees = AreStored m (stored_history trees db)

-- they were read of a connection that is open
abbrev pub IsHeldOpen : BTreeMap (List ℕ) HistoryContent → State → Type 0
IsHeldOpen m s = (id : List ℕ) (h : HistoryContent) → get (slice_cmp nat_cmp) m id ≡ Some h → IsTrue s.is_open

-- a map with this history for the id, and else with what another has
abbrev pub IsWith : BTreeMap (List ℕ) HistoryContent → List ℕ → HistoryContent → BTreeMap (List ℕ) HistoryContent → Type 0
IsWith m id h n = (q : List ℕ) → get (slice_cmp nat_cmp) n q ≡ (if is_eq (slice_cmp nat_cmp id q) then Some h else get (slice_cmp nat_cmp) m q)

-- a map with this history for the id, or with none, and else with none but those that another has
abbrev pub IsWithin : BTreeMap (List ℕ) HistoryContent → List ℕ → HistoryContent → BTreeMap (List ℕ) HistoryContent → Type 0
IsWithin m id h n = (q : List ℕ) (k : HistoryContent) → get (slice_cmp nat_cmp) n q ≡ Some k → (if is_eq (slice_cmp nat_cmp id q) then Some h else get (slice_cmp nat_cmp) m q) ≡ Some k
