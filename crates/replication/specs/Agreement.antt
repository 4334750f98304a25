-- Histories of one document that agree in what both know; and histories that are one tree.
-- CouchDB manual, replication/conflicts (revision trees; replicas that have the same edits pick the same winner); the words are this project's own.
use Rattle.std.specs.Prelude.{◌≡◌, Some, IsTrue}
use Rattle.tree.specs.History.{HistoryContent, held_of, is_known, is_leaf, leaves, parent_of, winner}
use Rattle.tree.specs.Revision.{Revision}
use Rattle.tree.specs.declared.entry.Held.{Held}

-- Two histories agree where a revision that both know has one parent in both, and one mark and one body where both hold it.
pub record Agrees (h k : HistoryContent) : Type 0 where
  pub parents : (r : Revision) → IsTrue (is_known h r) → IsTrue (is_known k r) → parent_of h r ≡ parent_of k r
  pub held : (r : Revision) (d e : Held) → held_of h r ≡ Some d → held_of k r ≡ Some e → d ≡ e

-- each leaf of the first is known in the second
abbrev pub LeavesAreKnown : HistoryContent → HistoryContent → Type 0
LeavesAreKnown h k = (r : Revision) → IsTrue (is_leaf h r) → IsTrue (is_known k r)

-- The same revisions are known, with the same parents; so there are the same leaves, best first, and the same winner. Of each leaf the same is held.
pub record HaveSameTree (h k : HistoryContent) : Type 0 where
  pub known : (r : Revision) → is_known h r ≡ is_known k r
  pub parents : (r : Revision) → parent_of h r ≡ parent_of k r
  pub leaves : leaves h ≡ leaves k
  pub winner : winner h ≡ winner k
  pub held : (r : Revision) → IsTrue (is_leaf h r) → held_of h r ≡ held_of k r
