-- What is known grows along a way from database to database, so where ways lead there and back all know the same.
use Rattle.std.proofs.Common.{◌≡◌, ℕ, true, List, [], ◌∷◌, map, sym, ap, ◌∙◌, subst}
use Rattle.std.specs.List.{AllByRecursion}
use Rattle.tree.specs.History.{HistoryContent, IsRooted, content_of, is_known}
use Rattle.tree.specs.Revision.{Revision}
use Rattle.tree.proofs.LawfulContents.{rooted}
use Rattle.tree.proofs.Leaves.{leaf_alike}
use Rattle.store.specs.Database.{Database, IsKnownAt, history_at}
use Rattle.store.proofs.Lawfuls.{writes_behind}
use Rattle.replication.specs.Agreement.{Agrees, HaveSameTree, LeavesAreKnown}
use Rattle.replication.specs.Ways.{HasAllOf, HaveSameTrees, IsWay, RingsMeet, WaysMeet}
use Rattle.replication.proofs.Meeting.{all_reached, both_true, meeting}

-- ---- one step of a way

-- all that the one knows the other knows
knows_all : (a b : Database) → HasAllOf a b → (id : List ℕ) (r : Revision) → IsKnownAt a id r → IsKnownAt b id r
knows_all a b h id r known =
    let past = writes_behind a id h.one in
    let other = writes_behind b id h.other in
    let root : IsRooted (history_at b id) = subst IsRooted (sym other.2) (rooted other.0 other.1) in
    all_reached past.0 (history_at b id) past.1 root
    (subst (λ (k : HistoryContent). Agrees k (history_at b id)) past.2 (h.agree id))
    (subst (λ (k : HistoryContent). LeavesAreKnown k (history_at b id)) past.2 (h.leaves id)) r
    (subst (λ (k : HistoryContent). is_known k r ≡ true) past.2 known)

-- where both know the same, they have the same trees
same_trees : (a b : Database) → HasAllOf a b → ((id : List ℕ) (r : Revision) → IsKnownAt b id r → IsKnownAt a id r) → HaveSameTrees a b
same_trees a b h back id =
    let past = writes_behind a id h.one in
    let other = writes_behind b id h.other in
    let same : (r : Revision) → is_known (history_at a id) r ≡ is_known (history_at b id) r =
    λ r. both_true (is_known (history_at a id) r) (is_known (history_at b id) r) (knows_all a b h id r) (back id r) in
    let agrees : Agrees (content_of past.0) (content_of other.0) =
    subst (λ (k : HistoryContent). Agrees k (content_of other.0)) past.2 (subst (λ (k : HistoryContent). Agrees (history_at a id) k) other.2 (h.agree id)) in
    let known : (r : Revision) → is_known (content_of past.0) r ≡ is_known (content_of other.0) r =
    λ r. ap (λ (k : HistoryContent). is_known k r) (sym past.2) ∙ same r ∙ ap (λ (k : HistoryContent). is_known k r) other.2 in
    subst (λ (k : HistoryContent). HaveSameTree k (history_at b id)) (sym past.2)
    (subst (λ (k : HistoryContent). HaveSameTree (content_of past.0) k) (sym other.2) (meeting past.0 other.0 past.1 other.1 agrees known))

tree_still : (h k l : HistoryContent) → HaveSameTree h k → HaveSameTree k l → HaveSameTree h l
tree_still h k l s t = record {
  known = λ r. s.known r ∙ t.known r;
  parents = λ r. s.parents r ∙ t.parents r;
  leaves = s.leaves ∙ t.leaves;
  winner = s.winner ∙ t.winner;
  held = λ r leaf. s.held r leaf ∙ t.held r (leaf_alike h k s.known s.parents r leaf);
}

trees_still : (a b c : Database) → HaveSameTrees a b → HaveSameTrees b c → HaveSameTrees a c
trees_still a b c s t id = tree_still (history_at a id) (history_at b id) (history_at c id) (s id) (t id)

all_still : (a c : Database) (ds : List Database) → HaveSameTrees a c → AllByRecursion (HaveSameTrees c) ds → AllByRecursion (HaveSameTrees a) ds
all_still a c [] s h = tt
all_still a c (d ∷ ds) s h = (trees_still a c d s h.0, all_still a c ds s h.1)

-- ---- a way

way_knows : (a b : Database) (cs : List Database) → IsWay HasAllOf a cs b → (id : List ℕ) (r : Revision) → IsKnownAt a id r → IsKnownAt b id r
way_knows a b [] way id r known = knows_all a b way id r known
way_knows a b (c ∷ cs) way id r known = way_knows c b cs way.1 id r (knows_all a c way.0 id r known)

-- where the first knows all that the last knows, all have the same trees
around : (a b : Database) (cs : List Database) → IsWay HasAllOf a cs b → ((id : List ℕ) (r : Revision) → IsKnownAt b id r → IsKnownAt a id r)
    → AllByRecursion (HaveSameTrees a) cs × HaveSameTrees a b
around a b [] way back = (tt, same_trees a b way back)
around a b (c ∷ cs) way back =
    let rest = around c b cs way.1 (λ id r known. knows_all a c way.0 id r (back id r known)) in
    let first : HaveSameTrees a c = same_trees a c way.0 (λ id r known. back id r (way_knows c b cs way.1 id r known)) in
    ((first, all_still a c cs first rest.0), trees_still a c b first rest.1)

pub ways_meet : WaysMeet
ways_meet a b there back way home = (around a b there way (λ id r known. way_knows b a back home id r known)).1

pub rings_meet : RingsMeet
rings_meet a ds way = (around a a ds way (λ id r known. known)).0

-- ---- ways of other things

-- each step of a way is one of another kind
pub way_by : {A : Type 0} (R S : A → A → Type 0) → ((a b : A) → R a b → S a b) → (a b : A) (cs : List A) → IsWay R a cs b → IsWay S a cs b
way_by R S each a b [] way = each a b way
way_by R S each a b (c ∷ cs) way = (each a c way.0, way_by R S each c b cs way.1)

-- a way between what has a database each is a way between these
pub way_through : {A : Type 0} (view : A → Database) (R : Database → Database → Type 0) (a b : A) (cs : List A) → IsWay (λ x y. R (view x) (view y)) a cs b → IsWay R (view a) (map view cs) (view b)
way_through view R a b [] way = way
way_through view R a b (c ∷ cs) way = (way.0, way_through view R c b cs way.1)

pub all_through : {A : Type 0} (view : A → Database) (P : Database → Type 0) (xs : List A) → AllByRecursion P (map view xs) → AllByRecursion (λ x. P (view x)) xs
all_through view P [] h = tt
all_through view P (x ∷ xs) h = (h.0, all_through view P xs h.1)
