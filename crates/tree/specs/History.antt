-- The content of a document's history: its known revisions, with their parents and what is held of them; leaves, winner and chains; how a write changes it.
-- The CouchDB manual decides (replication/conflicts: the revision tree, conflicting leaves, and how the winner is picked).
use Rattle.std.specs.Prelude.{◌≡◌, ◌⊎◌, ℕ, zero, suc, Bool, true, false, not, ◌&&◌, if◌then◌else◌, List, [], ◌∷◌, ◌++◌, map, filter, reverse, slice_get, Option, Some, None, option_and_then, option_map, Result, Ok, Err, IsTrue, ◌↔◌, ⊤}
use Rattle.std.specs.List.{list_any, flat_map}
use Rattle.std.specs.Ordering.{eq_by_cmp}
use Rattle.std.specs.declared.cmp.Ordering.TheVariants.{Greater}
use Rattle.std.specs.FinMap.{FinMap, get, contains_key, insert, entries, from_entries, find}
use Rattle.couch_json.specs.Value.{Value}
use Rattle.tree.specs.Revision.{Revision, revision_cmp}
use Rattle.tree.specs.Write.{Write, is_whole_path, head, held_of_write, IsKnown, IsParent, IsBrought, AreLawfulWrites}
use Rattle.tree.specs.declared.entry.Held.{Held}
use Rattle.tree.specs.declared.entry.Entry.{Entry}
use Rattle.tree.specs.declared.placement.Placed.{Placed}
use Rattle.tree.specs.declared.placement.Placed.TheVariants.{Added, Known}
use Rattle.tree.specs.declared.placement.TreeFault.{TreeFault}
use Rattle.tree.specs.declared.placement.TreeFault.TheVariants.{BadPath, OtherParent}

-- each known revision, with its parent and what is held
abbrev pub HistoryContent : Type 0
HistoryContent = FinMap revision_cmp Entry

-- the revision is known
abbrev pub is_known : HistoryContent → Revision → Bool
is_known h r = contains_key h r

-- the parent of a revision, if it is known and has one
abbrev pub parent_of : HistoryContent → Revision → Option Revision
parent_of h r = option_and_then (λ e. e.parent) (get h r)

-- what is held of a revision, if anything
abbrev pub held_of : HistoryContent → Revision → Option Held
held_of h r = option_and_then (λ e. e.held) (get h r)

-- the mark of what is held; nothing held is not deleted
abbrev pub is_deleted : Option Held → Bool
is_deleted None = false
is_deleted (Some d) = d.deleted

-- ---- leaves

-- an optional revision is this one
abbrev pub names : Option Revision → Revision → Bool
names None r = false
names (Some p) r = eq_by_cmp revision_cmp p r

-- some node has r as its parent
abbrev pub is_parent_in : List (Revision × Entry) → Revision → Bool
is_parent_in nodes r = list_any (λ e. names e.1.parent r) nodes

-- some known revision has this one as its parent
abbrev pub has_child : HistoryContent → Revision → Bool
has_child h r = is_parent_in (entries h) r

-- a known revision that is no revision's parent
abbrev pub is_leaf : HistoryContent → Revision → Bool
is_leaf h r = is_known h r && not (has_child h r)

-- what is held is deleted, or it is not
abbrev pub is_marked : Bool → Option Held → Bool
is_marked true d = is_deleted d
is_marked false d = not (is_deleted d)

-- a node with this mark that is no node's parent
abbrev pub is_leaf_in : Bool → List (Revision × Entry) → Revision × Entry → Bool
is_leaf_in mark nodes e = is_marked mark e.1.held && not (is_parent_in nodes e.0)

-- such nodes, the last first
abbrev pub leaves_in : Bool → List (Revision × Entry) → List Revision
leaves_in mark nodes = map (λ e. e.0) (filter (is_leaf_in mark nodes) (reverse nodes))

-- the leaves with this mark, the greatest revision first
abbrev pub leaves_marked : Bool → HistoryContent → List Revision
leaves_marked mark h = leaves_in mark (entries h)

-- some leaf is not deleted
abbrev pub is_live : HistoryContent → Bool
is_live h = list_any (is_leaf_in false (entries h)) (entries h)

-- all leaves, best first: those that are not deleted stand before those that are, and greater revisions before lesser
abbrev pub leaves : HistoryContent → List Revision
leaves h = leaves_marked false h ++ leaves_marked true h

-- the best leaf
abbrev pub winner : HistoryContent → Option Revision
winner h = slice_get (leaves h) 0

-- r stands before s in the order best first
abbrev pub IsBetter : HistoryContent → Revision → Revision → Type 0
IsBetter h r s =
    (IsTrue (not (is_deleted (held_of h r))) × IsTrue (is_deleted (held_of h s)))
    ⊎ ((is_deleted (held_of h r) ≡ is_deleted (held_of h s)) × (revision_cmp r s ≡ Greater))

-- r stands before each of these
abbrev pub BeatsAll : HistoryContent → Revision → List Revision → Type 0
BeatsAll h r [] = ⊤
BeatsAll h r (s ∷ rs) = IsBetter h r s × BeatsAll h r rs

-- each stands before all that follow it
abbrev pub AreBestFirst : HistoryContent → List Revision → Type 0
AreBestFirst h [] = ⊤
AreBestFirst h (r ∷ rs) = BeatsAll h r rs × AreBestFirst h rs

-- the same revisions are known, with the same parents, and their leaves have the same marks
pub record LooksAlike (h k : HistoryContent) : Type 0 where
  pub known : (r : Revision) → is_known h r ≡ is_known k r
  pub parents : (r : Revision) → parent_of h r ≡ parent_of k r
  pub marks : (r : Revision) → IsTrue (is_leaf h r) → is_deleted (held_of h r) ≡ is_deleted (held_of k r)

-- ---- chains

-- what follows from a parent, and nothing at a root
abbrev pub onward : (Revision → List Revision) → Option Revision → List Revision
onward rest None = []
onward rest (Some p) = rest p

-- r, its parent, and so on, at most n of them, up to one that is not known
abbrev pub path_from : HistoryContent → ℕ → Revision → List Revision
path_from h zero r = []
path_from h (suc n) r = if is_known h r then r ∷ onward (λ p. path_from h n p) (parent_of h r) else []

-- the path of a known revision
abbrev pub chain : HistoryContent → Revision → Option (List Revision)
chain h r = if is_known h r then Some (path_from h r.number r) else None

-- what stands behind a write that follows this revision: the path of one that is known, else nothing
abbrev pub ancestors_of_parent : HistoryContent → Option Revision → List Revision
ancestors_of_parent h None = []
ancestors_of_parent h (Some p) = path_from h p.number p

-- ---- writes

-- what a path says of its revisions, where d is held of the newest
abbrev pub path_entries : Option Held → List Revision → List (Revision × Entry)
path_entries d [] = []
path_entries d (r ∷ rest) = (r, record { parent = head rest; held = d }) ∷ path_entries None rest

-- the revisions of a write with their parents, and what it holds of the newest
abbrev pub write_entries : Write → List (Revision × Entry)
write_entries w = path_entries (Some (held_of_write w)) w.path

-- The content of a list of writes, in the order of acceptance: each revision has what the first path
-- in which it stands says of it.
abbrev pub content_of : List Write → HistoryContent
content_of ws = from_entries (flat_map write_entries ws)

-- a revision that is known keeps what is known of it
abbrev pub with_new : HistoryContent → Revision → Entry → HistoryContent
with_new h r e = if is_known h r then h else insert h r e

-- a history with more revisions, those that it knows as they are
abbrev pub with_entries : HistoryContent → List (Revision × Entry) → HistoryContent
with_entries h [] = h
with_entries h (e ∷ es) = with_entries (with_new h e.0 e.1) es

-- what a stored row says of its revision: the parent, and the mark and the body that are held
abbrev pub entry_of_row : Option Revision → Option (Bool × Value) → Entry
entry_of_row parent held = record { parent = parent; held = option_map (λ d. record { deleted = d.0; body = d.1 }) held }

-- the content after one more write
abbrev pub with_write : HistoryContent → Write → HistoryContent
with_write h w = with_entries h (write_entries w)

-- what is known of a revision after one more write: what was known, or else what the path says
abbrev pub entry_after : HistoryContent → Write → Revision → Option Entry
entry_after h w r = if is_known h r then get h r else find revision_cmp r (write_entries w)

-- both are the same revision, or neither is one
abbrev pub same_parent : Option Revision → Option Revision → Bool
same_parent None None = true
same_parent None (Some q) = false
same_parent (Some p) None = false
same_parent (Some p) (Some q) = eq_by_cmp revision_cmp p q

-- a revision that is known, if it is, has this parent
abbrev pub agrees : Option Entry → Option Revision → Bool
agrees None p = true
agrees (Some e) p = same_parent e.parent p

-- the known revisions of the path have the parents that it gives them
abbrev pub keeps_parents : HistoryContent → List Revision → Bool
keeps_parents h [] = true
keeps_parents h (r ∷ rest) = agrees (get h r) (head rest) && keeps_parents h rest

-- the first revision of a path is known
abbrev pub is_head_known : HistoryContent → List Revision → Bool
is_head_known h [] = false
is_head_known h (r ∷ rest) = is_known h r

-- what becomes of a write with this path
abbrev pub placement : HistoryContent → List Revision → Result Placed TreeFault
placement h path =
    if not (is_whole_path path) then Err BadPath
    else if not (keeps_parents h path) then Err OtherParent
    else if is_head_known h path then Ok Known
    else Ok Added

-- the content after a write that was judged
abbrev pub content_after : HistoryContent → Write → HistoryContent
content_after h w = if is_head_known h w.path then h else with_write h w

-- what stands behind the old content, with this write at its end, is lawful and stands behind the new
abbrev pub IsWithWrite : HistoryContent → Write → HistoryContent → Type 0
IsWithWrite old w new =
    (ws : List Write) → AreLawfulWrites ws → old ≡ content_of ws → AreLawfulWrites (ws ++ w ∷ []) × (new ≡ content_of (ws ++ w ∷ []))

-- ---- what a content says of the writes behind it

-- the content shows just what is known by the writes
pub record Shows (ws : List Write) (h : HistoryContent) : Type 0 where
  pub known : (r : Revision) → IsTrue (is_known h r) ↔ IsKnown ws r
  pub parent : (r p : Revision) → (parent_of h r ≡ Some p) ↔ IsParent ws r p
  pub held : (r : Revision) (d : Held) → (held_of h r ≡ Some d) ↔ IsBrought ws r d

-- parents are known, numbers go down by one from child to parent, and a root has number 1
pub record IsRooted (h : HistoryContent) : Type 0 where
  pub parents_known : (r p : Revision) → parent_of h r ≡ Some p → IsTrue (is_known h p)
  pub descends : (r p : Revision) → parent_of h r ≡ Some p → r.number ≡ suc p.number
  pub begins : (r : Revision) → IsTrue (is_known h r) → parent_of h r ≡ None → r.number ≡ 1
