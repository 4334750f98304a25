-- A history kept as the list of its nodes in the order of their revisions, beside it its leaves, and the parents that are no nodes: what taking nodes in makes of these, and what taking them back.
-- No outside source decides: `proofs/Kept` ties it to the content of a history.
use Rattle.std.specs.Prelude.{◌≡◌, Bool, true, false, not, ◌&&◌, ◌||◌, if◌then◌else◌, List, [], ◌∷◌, ◌++◌, Option, Some, None, is_some, IsTrue}
use Rattle.std.specs.List.{list_any}
use Rattle.std.specs.Ordering.{eq_by_cmp}
use Rattle.std.specs.Map.{remove_entry}
use Rattle.std.specs.BTreeMap.{is_at}
use Rattle.std.specs.FinMap.{find, put, is_sorted}
use Rattle.tree.specs.Revision.{Revision, revision_cmp}
use Rattle.tree.specs.History.{is_marked, is_parent_in, names}
use Rattle.tree.specs.declared.entry.Held.{Held}
use Rattle.tree.specs.declared.entry.Entry.{Entry}
use Rattle.tree.specs.declared.marked_leaves.MarkedLeaves.{MarkedLeaves}

abbrev pub nodes_with_new : List (Revision × Entry) → Revision → Entry → List (Revision × Entry)
nodes_with_new nodes r e = if is_some (find revision_cmp r nodes) then nodes else put revision_cmp r e nodes

abbrev pub nodes_with : List (Revision × Entry) → List (Revision × Entry) → List (Revision × Entry)
nodes_with nodes [] = nodes
nodes_with nodes (e ∷ es) = nodes_with (nodes_with_new nodes e.0 e.1) es

-- the newest revision of a path, or what it follows where it has none
abbrev pub next_of : List Revision → Option Revision → Option Revision
next_of [] parent = parent
next_of (r ∷ rest) parent = Some r

-- what a path says of its revisions, where d is held of the newest and the last follows this parent
abbrev pub entries_before : Option Held → List Revision → Option Revision → List (Revision × Entry)
entries_before d [] parent = []
entries_before d (r ∷ rest) parent = (r, record { parent = next_of rest parent; held = d }) ∷ entries_before None rest parent

-- ---- what a history keeps

abbrev pub has : List Revision → Revision → Bool
has rs r = list_any (eq_by_cmp revision_cmp r) rs

abbrev pub is_entry_marked : Bool → Option Entry → Bool
is_entry_marked mark None = false
is_entry_marked mark (Some e) = is_marked mark e.held

-- a node with this mark that is no node's parent
abbrev pub is_leaf_at : Bool → List (Revision × Entry) → Revision → Bool
is_leaf_at mark nodes r = is_entry_marked mark (find revision_cmp r nodes) && not (is_parent_in nodes r)

-- some node's parent that is no node
abbrev pub is_awaited : List (Revision × Entry) → Revision → Bool
is_awaited nodes r = is_parent_in nodes r && not (is_some (find revision_cmp r nodes))

-- the leaves that are deleted, or the others
abbrev pub leaves_with : MarkedLeaves → Bool → List Revision
leaves_with leaves true = leaves.deleted.keys
leaves_with leaves false = leaves.live.keys

abbrev pub HasNoLeaves : MarkedLeaves → Type 0
HasNoLeaves leaves = (mark : Bool) → leaves_with leaves mark ≡ []

abbrev pub AreLeaves : MarkedLeaves → List (Revision × Entry) → Type 0
AreLeaves leaves nodes = (mark : Bool) (r : Revision) → has (leaves_with leaves mark) r ≡ is_leaf_at mark nodes r

abbrev pub AreAwaited : List Revision → List (Revision × Entry) → Type 0
AreAwaited awaited nodes = (r : Revision) → has awaited r ≡ is_awaited nodes r

pub record AreKept (nodes : List (Revision × Entry)) (leaves : MarkedLeaves) (awaited : List Revision) : Type 0 where
  pub in_order : IsTrue (is_sorted revision_cmp nodes)
  pub ends : AreLeaves leaves nodes
  pub missing : AreAwaited awaited nodes

-- ---- how the leaves change

abbrev pub is_mark : Bool → Bool → Bool
is_mark true deleted = deleted
is_mark false deleted = not deleted

-- new has the leaves of old, and r with this mark where b says so
abbrev pub AddsLeaf : Bool → Bool → Revision → MarkedLeaves → MarkedLeaves → Type 0
AddsLeaf b deleted r old new = (mark : Bool) (s : Revision) → has (leaves_with new mark) s ≡ ((b && is_mark mark deleted && eq_by_cmp revision_cmp r s) || has (leaves_with old mark) s)

-- new has the leaves of old that are not so
abbrev pub LosesLeaves : (Revision → Bool) → MarkedLeaves → MarkedLeaves → Type 0
LosesLeaves is_gone old new = (mark : Bool) (r : Revision) → has (leaves_with new mark) r ≡ (has (leaves_with old mark) r && not (is_gone r))

abbrev pub HasSameLeaves : MarkedLeaves → MarkedLeaves → Type 0
HasSameLeaves old new = (mark : Bool) (r : Revision) → has (leaves_with new mark) r ≡ has (leaves_with old mark) r

-- new has those of old that are not so
abbrev pub Loses : (Revision → Bool) → List Revision → List Revision → Type 0
Loses is_gone old new = (r : Revision) → has new r ≡ (has old r && not (is_gone r))

-- a node that comes in is a leaf: nobody awaits it, and none follows it
abbrev pub is_new_leaf : List (Revision × Entry) → List Revision → Revision → Bool → Bool
is_new_leaf nodes awaited r is_followed = not (is_some (find revision_cmp r nodes)) && not is_followed && not (has awaited r)

-- new has what old has, and this parent where it is no node
abbrev pub Awaits : List (Revision × Entry) → Option Revision → List Revision → List Revision → Type 0
Awaits nodes parent old new = (r : Revision) → has new r ≡ (has old r || (names parent r && not (is_some (find revision_cmp r nodes))))

-- ---- what came in

-- a node that came in, and its parent
pub record Insertion : Type 0 where
  pub rev : Revision
  pub parent : Option Revision

abbrev pub insertion_of : Revision → Entry → Insertion
insertion_of r e = record { rev = r; parent = e.parent }

-- one that came in, if it did
abbrev pub insertions_of : Bool → Revision → Option Revision → List Insertion
insertions_of true r parent = record { rev = r; parent = parent } ∷ []
insertions_of false r parent = []

-- those of a path that came in, where the last follows this parent
abbrev pub insertions_in : List Bool → List Revision → Option Revision → List Insertion
insertions_in [] path parent = []
insertions_in (b ∷ bs) [] parent = []
insertions_in (b ∷ bs) (r ∷ rest) parent = insertions_of b r (next_of rest parent) ++ insertions_in bs rest parent

-- one of these is r
abbrev pub is_new : List Insertion → Revision → Bool
is_new is r = list_any (λ i. eq_by_cmp revision_cmp i.rev r) is

-- one of these has r as its parent
abbrev pub is_followed : List Insertion → Revision → Bool
is_followed is r = list_any (λ i. names i.parent r) is

-- the nodes before these came in, the last of them taken back first
abbrev pub nodes_before : List (Revision × Entry) → List Insertion → List (Revision × Entry)
nodes_before nodes [] = nodes
nodes_before nodes (i ∷ is) = remove_entry (is_at (revision_cmp i.rev)) (nodes_before nodes is)

-- Nodes came in. Without those that the new ones follow, the leaves are leaves; without the new ones, what is awaited is awaited.
pub record AreUnsettled (nodes : List (Revision × Entry)) (leaves : MarkedLeaves) (awaited : List Revision) (is : List Insertion) : Type 0 where
  pub in_order : IsTrue (is_sorted revision_cmp nodes)
  pub ends : (mark : Bool) (r : Revision) → (has (leaves_with leaves mark) r && not (is_followed is r)) ≡ is_leaf_at mark nodes r
  pub missing : (r : Revision) → (has awaited r && not (is_new is r)) ≡ is_awaited nodes r

-- Without what came in, there is what there was.
pub record CanGoBack (old nodes : List (Revision × Entry)) (leaves : MarkedLeaves) (awaited : List Revision) (is : List Insertion) : Type 0 where
  pub before : nodes_before nodes is ≡ old
  pub ends : (mark : Bool) (r : Revision) → (has (leaves_with leaves mark) r && not (is_new is r)) ≡ is_leaf_at mark old r
  pub missing : AreAwaited awaited old

-- Some of a path came in, and the next of the path is `next`: it is the parent of the last, if `is_open`.
pub record IsBetween (old nodes : List (Revision × Entry)) (leaves : MarkedLeaves) (awaited : List Revision) (is : List Insertion) (is_open : Bool) (next : Option Revision) : Type 0 where
  pub back : CanGoBack old nodes leaves awaited is
  pub in_order : IsTrue (is_sorted revision_cmp nodes)
  pub known : (r : Revision) → is_some (find revision_cmp r nodes) ≡ (is_some (find revision_cmp r old) || is_new is r)
  pub ends : (mark : Bool) (r : Revision) → (has (leaves_with leaves mark) r && not (is_followed is r)) ≡ is_leaf_at mark nodes r
  pub parents : (r : Revision) → find revision_cmp r nodes ≡ None → is_parent_in nodes r ≡ (has awaited r || is_followed is r)
  pub unknown : (r : Revision) → find revision_cmp r nodes ≡ None → is_followed is r ≡ (is_open && names next r)
