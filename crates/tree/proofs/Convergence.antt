-- Writes that fit together: whatever their order, a replica takes in all revisions with their parents, and has the same leaves.
use Rattle.std.proofs.Common.{◌≡◌, ◌⊎◌, ℕ, zero, suc, ◌<◌, Bool, true, false, cond, List, [], ◌∷◌, ◌++◌, length, Option, Some, None, Ok, Err, refl, sym, ap, subst, ◌∙◌, arith, inl, inr, length-append, append-nil, append_assoc}
use Rattle.std.specs.Prelude.{IsTrue, is_some, ◌↔◌, slice_index_or}
use Rattle.std.specs.List.{Contains}
use Rattle.std.proofs.lemmas.List.Elements.{Contains-append_left, Contains-append_right, Contains-push, Contains-push_cases}
use Rattle.tree.specs.Revision.{Revision}
use Rattle.tree.specs.Write.{Write, is_whole_path, head, held_of_write, StandsIn, IsBehind, IsKnown, IsParent, IsBrought, AreWhole, AreLawfulWrites}
use Rattle.tree.specs.History.{HistoryContent, LooksAlike, is_known, parent_of, held_of, is_deleted, is_leaf, is_head_known, keeps_parents, leaves, winner, placement, content_of}
use Rattle.tree.specs.Convergence.{AreConsistent, BringOne, HaveSame, as_judged, replica_of, with_offered}
use Rattle.tree.specs.declared.entry.Held.{Held}
use Rattle.tree.specs.declared.placement.Placed.TheVariants.{Added, Known}
use Rattle.tree.specs.declared.placement.TreeFault.{TreeFault}
use Rattle.tree.proofs.Contents.{one_more_write}
use Rattle.tree.proofs.Shown.{shown, inside, is_known_writes, entry_of_known, stands_behind, whole_counts, parent_is}
use Rattle.tree.proofs.Continued.{added_goes_on, goes_on_added, lawful_front, keeps_where_one_parent, kept_parent}
use Rattle.tree.proofs.LawfulContents.{all_known, option_same, rooted}
use Rattle.tree.proofs.Leaves.{leaf_alike, leaf_is_held, leaves_same, winner_same}

-- ---- writes among writes

abbrev AreAmong : List Write → List Write → Type 0
AreAmong ws vs = (w : Write) → Contains ws w → Contains vs w

first : (w : Write) (ws : List Write) → Contains (w ∷ ws) w
first w ws = Contains-append_left (w ∷ []) ws w (Contains-push [] w)

later : (v : Write) (ws : List Write) (w : Write) → Contains ws w → Contains (v ∷ ws) w
later v ws w c = Contains-append_right (v ∷ []) ws w c

none : (w : Write) → Contains [] w → ⊥
none w c = let lt = c.1 in omega (arith, lt)

first_or_later : (v : Write) (ws : List Write) (w : Write) → Contains (v ∷ ws) w → (v ≡ w) ⊎ Contains ws w
first_or_later v ws w c = by c.0 c.1 c.2
  where
    by : (k : ℕ) → k < length (v ∷ ws) → slice_index_or (v ∷ ws) k w ≡ w → (v ≡ w) ⊎ Contains ws w
    by zero lt e = inl e
    by (suc k) lt e = inr (k, omega (arith, lt), e)

known_by : (ws : List Write) (w : Write) (r : Revision) → Contains ws w → StandsIn w.path r → IsKnown ws r
known_by [] w r c i = absurd (none w c)
known_by (v ∷ ws) w r c i = elim (first_or_later v ws w c) as (λ _. IsKnown (v ∷ ws) r) [ inl e ↦ inl (subst (λ (x : Write). StandsIn x.path r) (sym e) i) | inr k ↦ inr (known_by ws w r k i) ]

parent_by : (ws : List Write) (w : Write) (r p : Revision) → Contains ws w → IsBehind w.path r p → IsParent ws r p
parent_by [] w r p c i = absurd (none w c)
parent_by (v ∷ ws) w r p c i = elim (first_or_later v ws w c) as (λ _. IsParent (v ∷ ws) r p) [ inl e ↦ inl (subst (λ (x : Write). IsBehind x.path r p) (sym e) i) | inr k ↦ inr (parent_by ws w r p k i) ]

brought_by : (ws : List Write) (w : Write) (r : Revision) (d : Held) → Contains ws w → (head w.path ≡ Some r) × (held_of_write w ≡ d) → IsBrought ws r d
brought_by [] w r d c i = absurd (none w c)
brought_by (v ∷ ws) w r d c i = elim (first_or_later v ws w c) as (λ _. IsBrought (v ∷ ws) r d) [ inl e ↦ inl (subst (λ (x : Write). (head x.path ≡ Some r) × (held_of_write x ≡ d)) (sym e) i) | inr k ↦ inr (brought_by ws w r d k i) ]

whole_by : (ws : List Write) (w : Write) → AreWhole ws → Contains ws w → is_whole_path w.path ≡ true
whole_by [] w h c = absurd (none w c)
whole_by (v ∷ ws) w h c = elim (first_or_later v ws w c) as (λ _. is_whole_path w.path ≡ true) [ inl e ↦ ap (λ (x : Write). is_whole_path x.path) (sym e) ∙ h.0 | inr k ↦ whole_by ws w h.1 k ]

known_among : (ws vs : List Write) (r : Revision) → AreAmong ws vs → IsKnown ws r → IsKnown vs r
known_among [] vs r a k = elim k [ ]
known_among (w ∷ ws) vs r a (inl k) = known_by vs w r (a w (first w ws)) k
known_among (w ∷ ws) vs r a (inr k) = known_among ws vs r (λ v c. a v (later w ws v c)) k

parent_among : (ws vs : List Write) (r p : Revision) → AreAmong ws vs → IsParent ws r p → IsParent vs r p
parent_among [] vs r p a k = elim k [ ]
parent_among (w ∷ ws) vs r p a (inl k) = parent_by vs w r p (a w (first w ws)) k
parent_among (w ∷ ws) vs r p a (inr k) = parent_among ws vs r p (λ v c. a v (later w ws v c)) k

brought_among : (ws vs : List Write) (r : Revision) (d : Held) → AreAmong ws vs → IsBrought ws r d → IsBrought vs r d
brought_among [] vs r d a k = elim k [ ]
brought_among (w ∷ ws) vs r d a (inl k) = brought_by vs w r d (a w (first w ws)) k
brought_among (w ∷ ws) vs r d a (inr k) = brought_among ws vs r d (λ v c. a v (later w ws v c)) k

-- ---- the writes that come in

-- a write among those that fit together is added or known: none is refused
fits : (all before : List Write) (w : Write) → AreConsistent all → AreLawfulWrites before → AreAmong before all → Contains all w → (is_whole_path w.path ≡ true) × (keeps_parents (content_of before) w.path ≡ true)
fits all before w fit lawful in_all c = (
  whole,
  keeps_where_one_parent before lawful.whole w.path (whole_counts w.path whole) (λ r p q b d. fit.one_parent r p q (parent_among before all r p in_all b) (parent_by all w r q c d)),
)
  where
    whole : is_whole_path w.path ≡ true
    whole = whole_by all w fit.whole c

placed : (h : HistoryContent) (path : List Revision) (b : Bool) → is_whole_path path ≡ true → keeps_parents h path ≡ true → is_head_known h path ≡ b → placement h path ≡ cond b (Ok Known) (Ok Added)
placed h path b whole keeps is = rw (whole, keeps, is) refl

-- the writes that came in where `ws` were offered to what the writes before had brought
record CameIn (all before ws : List Write) : Type 0 where
  list : List Write
  lawful : AreLawfulWrites list
  content : with_offered (content_of before) ws ≡ content_of list
  among : AreAmong list all
  had_known : (r : Revision) → IsKnown before r → IsKnown list r
  had_parent : (r p : Revision) → IsParent before r p → IsParent list r p
  known : (r : Revision) → IsKnown ws r → IsKnown list r
  parent : (r p : Revision) → IsParent ws r p → IsParent list r p

one_came_in : (all : List Write) → AreConsistent all → (before : List Write) (w : Write) → AreLawfulWrites before → AreAmong before all → Contains all w → CameIn all before (w ∷ [])
one_came_in all fit before w lawful in_all c = by (is_head_known (content_of before) w.path) refl
  where
    judged : (is_whole_path w.path ≡ true) × (keeps_parents (content_of before) w.path ≡ true)
    judged = fits all before w fit lawful in_all c

    was : (b : Bool) → is_head_known (content_of before) w.path ≡ b → placement (content_of before) w.path ≡ cond b (Ok Known) (Ok Added)
    was b is = placed (content_of before) w.path b judged.0 judged.1 is

    stays : (v : Write) → Contains before v → Contains (before ++ w ∷ []) v
    stays v k = Contains-append_left before (w ∷ []) v k

    last : (v : Write) → Contains (w ∷ []) v → Contains (before ++ w ∷ []) v
    last v k = Contains-append_right before (w ∷ []) v k

    more : (v : Write) → Contains (before ++ w ∷ []) v → Contains all v
    more v k = elim (Contains-push_cases before w v k) as (λ _. Contains all v) [ inl i ↦ in_all v i | inr e ↦ subst (Contains all) e c ]

    old : is_head_known (content_of before) w.path ≡ true → (r : Revision) → StandsIn w.path r → IsKnown before r
    old is r i = (is_known_writes before r).0 (all_known (content_of before) w.path r (rooted before lawful) judged.1 is i)

    old_parent : is_head_known (content_of before) w.path ≡ true → (r p : Revision) → IsBehind w.path r p → IsParent before r p
    old_parent is r p b =
        let e = entry_of_known (content_of before) r ((is_known_writes before r).1 (old is r (stands_behind w.path r p b))) in
        parent_is before r p e.0 e.1 (kept_parent (content_of before) w.path r p e.0 judged.1 b e.1)

    by : (b : Bool) → is_head_known (content_of before) w.path ≡ b → CameIn all before (w ∷ [])
    by true is = record {
      list = before;
      lawful = lawful;
      content = ap (λ p. as_judged p (content_of before) w) (was true is);
      among = in_all;
      had_known = λ r k. k;
      had_parent = λ r p k. k;
      known = λ r k. elim k as (λ _. IsKnown before r) [ inl i ↦ old is r i | inr i ↦ elim i [ ] ];
      parent = λ r p k. elim k as (λ _. IsParent before r p) [ inl i ↦ old_parent is r p i | inr i ↦ elim i [ ] ];
    }
    by false is = record {
      list = before ++ w ∷ [];
      lawful = added_goes_on before w lawful (was false is);
      content = ap (λ p. as_judged p (content_of before) w) (was false is) ∙ sym (one_more_write before w);
      among = more;
      had_known = λ r k. known_among before (before ++ w ∷ []) r stays k;
      had_parent = λ r p k. parent_among before (before ++ w ∷ []) r p stays k;
      known = λ r k. known_among (w ∷ []) (before ++ w ∷ []) r last k;
      parent = λ r p k. parent_among (w ∷ []) (before ++ w ∷ []) r p last k;
    }

all_came_in : (all : List Write) → AreConsistent all → (before ws : List Write) → AreLawfulWrites before → AreAmong before all → AreAmong ws all → CameIn all before ws
all_came_in all fit before [] lawful in_all rest = record {
  list = before;
  lawful = lawful;
  content = refl;
  among = in_all;
  had_known = λ r k. k;
  had_parent = λ r p k. k;
  known = λ r k. elim k [ ];
  parent = λ r p k. elim k [ ];
}
all_came_in all fit before (w ∷ ws) lawful in_all rest =
    let one = one_came_in all fit before w lawful in_all (rest w (first w ws)) in
    let others = all_came_in all fit one.list ws one.lawful one.among (λ v c. rest v (later w ws v c)) in
    record {
      list = others.list;
      lawful = others.lawful;
      content = ap (λ h. with_offered h ws) one.content ∙ others.content;
      among = others.among;
      had_known = λ r k. others.had_known r (one.had_known r k);
      had_parent = λ r p k. others.had_parent r p (one.had_parent r p k);
      known = λ r k. elim k as (λ _. IsKnown others.list r) [ inl i ↦ others.had_known r (one.known r (inl i)) | inr i ↦ others.known r i ];
      parent = λ r p k. elim k as (λ _. IsParent others.list r p) [ inl i ↦ others.had_parent r p (one.parent r p (inl i)) | inr i ↦ others.parent r p i ];
    }

lawful_nil : AreLawfulWrites []
lawful_nil = record { whole = tt; heads_new = heads; one_parent = λ r p q b c. elim b [ ] }
  where
    heads : (before after : List Write) (w : Write) (r : Revision) → before ++ w ∷ after ≡ [] → head w.path ≡ Some r → ¬ (IsKnown before r)
    heads before after w r e h known =
        let n : length (before ++ w ∷ after) ≡ 0 = ap (λ (xs : List Write). length xs) e in
        omega (arith, n, length-append before (w ∷ after))

-- ---- the content is that of a lawful list that has all revisions and parents

-- some of the writes, in which all revisions stand with their parents, and their content
record HasAll (all : List Write) (h : HistoryContent) : Type 0 where
  list : List Write
  lawful : AreLawfulWrites list
  content : h ≡ content_of list
  among : AreAmong list all
  known : (r : Revision) → IsKnown all r → IsKnown list r
  parent : (r p : Revision) → IsParent all r p → IsParent list r p

merged_has : (ws vs : List Write) → AreConsistent ws → HaveSame ws vs → HasAll ws (replica_of vs)
merged_has ws vs fit same =
    let came = all_came_in ws fit [] vs lawful_nil (λ w c. absurd (none w c)) (λ w c. (same w).1 c) in
    record {
      list = came.list;
      lawful = came.lawful;
      content = came.content;
      among = came.among;
      known = λ r k. came.known r (known_among ws vs r (λ w c. (same w).0 c) k);
      parent = λ r p k. came.parent r p (parent_among ws vs r p (λ w c. (same w).0 c) k);
    }

itself : (ws : List Write) → HaveSame ws ws
itself ws w = (λ c. c, λ c. c)

known_of : (all : List Write) (h : HistoryContent) → HasAll all h → (r : Revision) → IsTrue (is_known h r) ↔ IsKnown all r
known_of all h a r = (
  λ t. known_among a.list all r a.among ((is_known_writes a.list r).0 (ap (λ k. is_known k r) (sym a.content) ∙ t)),
  λ k. ap (λ k. is_known k r) a.content ∙ (is_known_writes a.list r).1 (a.known r k),
)

parent_is_of : (all : List Write) (h : HistoryContent) → HasAll all h → (r p : Revision) → (parent_of h r ≡ Some p) ↔ IsParent all r p
parent_is_of all h a r p = (
  λ e. parent_among a.list all r p a.among (((shown a.list a.lawful).parent r p).0 (ap (λ k. parent_of k r) (sym a.content) ∙ e)),
  λ k. ap (λ k. parent_of k r) a.content ∙ ((shown a.list a.lawful).parent r p).1 (a.parent r p k),
)

held_by_leaf : (all : List Write) (h : HistoryContent) → HasAll all h → (r : Revision) → IsTrue (is_leaf h r) → (d : Held) × (held_of h r ≡ Some d) × IsBrought all r d
held_by_leaf all h a r l = by (held_of (content_of a.list) r) refl (leaf_is_held a.list a.lawful r (ap (λ k. is_leaf k r) (sym a.content) ∙ l))
  where
    by : (o : Option Held) → held_of (content_of a.list) r ≡ o → is_some (held_of (content_of a.list) r) ≡ true → (d : Held) × (held_of h r ≡ Some d) × IsBrought all r d
    by None is t = let z = sym (ap is_some is) ∙ t in cc
    by (Some d) is t = (d, ap (λ k. held_of k r) a.content ∙ is, brought_among a.list all r d a.among (((shown a.list a.lawful).held r d).0 is))

same_truth : (a b : Bool) → (a ≡ true → b ≡ true) → (b ≡ true → a ≡ true) → a ≡ b
same_truth true b f g = sym (f refl)
same_truth false true f g = g refl
same_truth false false f g = refl

alike : (all : List Write) → AreConsistent all → (h k : HistoryContent) → HasAll all h → HasAll all k → LooksAlike h k
alike all fit h k a b = record { known = known; parents = parents; marks = marks }
  where
    known : (r : Revision) → is_known h r ≡ is_known k r
    known r = same_truth (is_known h r) (is_known k r) (λ t. (known_of all k b r).1 ((known_of all h a r).0 t)) (λ t. (known_of all h a r).1 ((known_of all k b r).0 t))

    parents : (r : Revision) → parent_of h r ≡ parent_of k r
    parents r =
        option_same (parent_of h r) (parent_of k r)
        (λ p e. (parent_is_of all k b r p).1 ((parent_is_of all h a r p).0 e))
        (λ p e. (parent_is_of all h a r p).1 ((parent_is_of all k b r p).0 e))

    marks : (r : Revision) → IsTrue (is_leaf h r) → is_deleted (held_of h r) ≡ is_deleted (held_of k r)
    marks r l =
        let d = held_by_leaf all h a r l in
        let e = held_by_leaf all k b r (leaf_alike h k known parents r l) in
        ap is_deleted d.1 ∙ fit.one_mark r d.0 e.0 d.2 e.2 ∙ ap is_deleted (sym e.1)

-- ---- the laws

merged_alike : (ws vs : List Write) → AreConsistent ws → HaveSame ws vs → LooksAlike (replica_of ws) (replica_of vs)
merged_alike ws vs fit same = alike ws fit (replica_of ws) (replica_of vs) (merged_has ws ws fit (itself ws)) (merged_has ws vs fit same)

pub leaves_converge : (ws vs : List Write) → AreConsistent ws → HaveSame ws vs → leaves (replica_of ws) ≡ leaves (replica_of vs)
leaves_converge ws vs fit same = leaves_same (replica_of ws) (replica_of vs) (merged_alike ws vs fit same)

pub winner_converges : (ws vs : List Write) → AreConsistent ws → HaveSame ws vs → winner (replica_of ws) ≡ winner (replica_of vs)
winner_converges ws vs fit same = winner_same (replica_of ws) (replica_of vs) (merged_alike ws vs fit same)

pub leaves_held_same : (ws vs : List Write) (r : Revision) → AreConsistent ws → HaveSame ws vs → BringOne ws r → IsTrue (is_leaf (replica_of ws) r) → held_of (replica_of ws) r ≡ held_of (replica_of vs) r
leaves_held_same ws vs r fit same one l =
    let a = merged_has ws ws fit (itself ws) in
    let b = merged_has ws vs fit same in
    let looks = merged_alike ws vs fit same in
    let d = held_by_leaf ws (replica_of ws) a r l in
    let e = held_by_leaf ws (replica_of vs) b r (leaf_alike (replica_of ws) (replica_of vs) looks.known looks.parents r l) in
    d.1 ∙ ap Some (one d.0 e.0 d.2 e.2) ∙ sym e.1

pub merged_known : (ws : List Write) (r : Revision) → AreConsistent ws → IsTrue (is_known (replica_of ws) r) ↔ IsKnown ws r
merged_known ws r fit = known_of ws (replica_of ws) (merged_has ws ws fit (itself ws)) r

pub merged_parents : (ws : List Write) (r p : Revision) → AreConsistent ws → (parent_of (replica_of ws) r ≡ Some p) ↔ IsParent ws r p
merged_parents ws r p fit = parent_is_of ws (replica_of ws) (merged_has ws ws fit (itself ws)) r p

pub none_refused : (ws : List Write) (w : Write) (fault : TreeFault) → AreConsistent (ws ++ w ∷ []) → ¬ (placement (replica_of ws) w.path ≡ Err fault)
none_refused ws w fault fit e = by (is_head_known (content_of came.list) w.path) refl (sym (ap (λ h. placement h w.path) came.content) ∙ e)
  where
    came : CameIn (ws ++ w ∷ []) [] ws
    came = all_came_in (ws ++ w ∷ []) fit [] ws lawful_nil (λ v c. absurd (none v c)) (λ v c. Contains-append_left ws (w ∷ []) v c)

    judged : (is_whole_path w.path ≡ true) × (keeps_parents (content_of came.list) w.path ≡ true)
    judged = fits (ws ++ w ∷ []) came.list w fit came.lawful came.among (Contains-push ws w)

    by : (b : Bool) → is_head_known (content_of came.list) w.path ≡ b → placement (content_of came.list) w.path ≡ Err fault → ⊥
    by true is f = let z = sym (placed (content_of came.list) w.path true judged.0 judged.1 is) ∙ f in cc
    by false is f = let z = sym (placed (content_of came.list) w.path false judged.0 judged.1 is) ∙ f in cc

-- ---- lists of which each write was added

pub lawful_fits : (ws : List Write) → AreLawfulWrites ws → AreConsistent ws
lawful_fits ws lawful = record { whole = lawful.whole; one_parent = lawful.one_parent; one_mark = marks }
  where
    held : (r : Revision) (d : Held) → IsBrought ws r d → held_of (content_of ws) r ≡ Some d
    held r d b = ((shown ws lawful).held r d).1 b

    marks : (r : Revision) (d e : Held) → IsBrought ws r d → IsBrought ws r e → d.deleted ≡ e.deleted
    marks r d e b c = ap (λ (x : Held). x.deleted) (inside d e (sym (held r d b) ∙ held r e c))

lawful_offered : (before ws : List Write) → AreLawfulWrites (before ++ ws) → with_offered (content_of before) ws ≡ content_of (before ++ ws)
lawful_offered before [] lawful = ap content_of (sym (append-nil before))
lawful_offered before (w ∷ ws) lawful =
    let split = append_assoc before (w ∷ []) ws in
    let longer : AreLawfulWrites ((before ++ w ∷ []) ++ ws) = subst AreLawfulWrites (sym split) lawful in
    let added = goes_on_added before w (lawful_front (before ++ w ∷ []) ws longer) in
    ap (λ h. with_offered h ws) (ap (λ p. as_judged p (content_of before) w) added ∙ sym (one_more_write before w))
    ∙ lawful_offered (before ++ w ∷ []) ws longer ∙ ap content_of split

pub merged_lawful : (ws : List Write) → AreLawfulWrites ws → replica_of ws ≡ content_of ws
merged_lawful ws lawful = lawful_offered [] ws lawful
