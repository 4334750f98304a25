-- The leaves of a history: which revisions they are, their order, and what they depend on.
use Rattle.std.proofs.Common.{◌≡◌, ◌≢◌, ◌⊎◌, Bool, true, false, cond, not, ◌&&◌, ◌||◌, List, [], ◌∷◌, ◌++◌, map, Option, Some, None, refl, sym, ap, subst, ◌∙◌, inl, inr}
use Rattle.std.specs.Prelude.{IsTrue, is_some, option_and_then, filter, reverse, slice_get, ⊤, ◌↔◌, MatchOption}
use Rattle.std.specs.List.{list_any}
use Rattle.std.proofs.lemmas.List.{reverse-append}
use Rattle.std.proofs.lemmas.Bool.{false≢true}
use Rattle.std.specs.declared.cmp.Ordering.TheVariants.{Less, Equal, Greater}
use Rattle.std.specs.Ordering.{is_eq, eq_by_cmp, ordering_reverse}
use Rattle.std.specs.Cmp.{tied_itself, first_so, second_so}
use Rattle.std.specs.FinMap.{find, get, entries, entries_sorted, get-entries, is_sorted}
use Rattle.std.specs.FinMap.Entries.{below_all}
use Rattle.tree.specs.Revision.{Revision, revision_cmp}
use Rattle.tree.specs.Write.{Write, StandsIn, AreLawfulWrites}
use Rattle.tree.specs.History.{HistoryContent, is_known, parent_of, held_of, is_deleted, names, has_child, is_leaf, is_live, is_marked, is_leaf_in, leaves_marked, leaves, winner, IsBetter, BeatsAll, AreBestFirst, LooksAlike, content_of, Shows}
use Rattle.tree.specs.declared.entry.Held.{Held}
use Rattle.tree.specs.declared.entry.Entry.{Entry}
use Rattle.tree.proofs.Kept.{Node, revision_cmp_total, true_from_T}
use Rattle.tree.proofs.Revisions.{same, tied}
use Rattle.tree.proofs.SortedEntries.{less}
use Rattle.tree.proofs.Shown.{shown, is_known_writes, entry_of_known, inside}
use Rattle.tree.proofs.LawfulContents.{head_or_parent}

-- ---- nodes among nodes

abbrev In : List Node → Node → Type 0
In [] x = ⊥
In (e ∷ es) x = (e ≡ x) ⊎ In es x

in_front : (es fs : List Node) (x : Node) → In es x → In (es ++ fs) x
in_front [] fs x h = elim h [ ]
in_front (e ∷ es) fs x (inl h) = inl h
in_front (e ∷ es) fs x (inr h) = inr (in_front es fs x h)

in_back : (es fs : List Node) (x : Node) → In fs x → In (es ++ fs) x
in_back [] fs x h = h
in_back (e ∷ es) fs x h = inr (in_back es fs x h)

in_either : (es fs : List Node) (x : Node) → In (es ++ fs) x → In es x ⊎ In fs x
in_either [] fs x h = inr h
in_either (e ∷ es) fs x (inl h) = inl (inl h)
in_either (e ∷ es) fs x (inr h) = elim (in_either es fs x h) as (λ _. In (e ∷ es) x ⊎ In fs x) [ inl k ↦ inl (inr k) | inr k ↦ inr k ]

turned_round : (e : Node) (es : List Node) → reverse (e ∷ es) ≡ reverse es ++ e ∷ []
turned_round e es = reverse-append (e ∷ []) es

in_reverse : (es : List Node) (x : Node) → In es x → In (reverse es) x
in_reverse [] x h = elim h [ ]
in_reverse (e ∷ es) x (inl h) = subst (λ (xs : List Node). In xs x) (sym (turned_round e es)) (in_back (reverse es) (e ∷ []) x (inl h))
in_reverse (e ∷ es) x (inr h) = subst (λ (xs : List Node). In xs x) (sym (turned_round e es)) (in_front (reverse es) (e ∷ []) x (in_reverse es x h))

from_reverse : (es : List Node) (x : Node) → In (reverse es) x → In es x
from_reverse [] x h = h
from_reverse (e ∷ es) x h =
    elim (in_either (reverse es) (e ∷ []) x (subst (λ (xs : List Node). In xs x) (turned_round e es) h)) as (λ _. In (e ∷ es) x) [
      | inl k ↦ inr (from_reverse es x k)
      | inr k ↦ elim k as (λ _. In (e ∷ es) x) [ inl i ↦ inl i | inr i ↦ elim i [ ] ]
    ]

below_in : (r : Revision) (es : List Node) (x : Node) → below_all revision_cmp r es ≡ true → In es x → revision_cmp r x.0 ≡ Less
below_in r [] x h i = elim i [ ]
below_in r (e ∷ es) x h (inl i) = ap (λ (y : Node). revision_cmp r y.0) (sym i) ∙ less _ (first_so _ _ h)
below_in r (e ∷ es) x h (inr i) = below_in r es x (second_so _ _ h) i

above : (r s : Revision) → revision_cmp r s ≡ Less → revision_cmp s r ≡ Greater
above r s e = revision_cmp_total.antisymm s r ∙ ap ordering_reverse e

in_found : (es : List Node) (x : Node) → is_sorted revision_cmp es ≡ true → In es x → find revision_cmp x.0 es ≡ Some x.1
in_found [] x h i = elim i [ ]
in_found (e ∷ es) x h (inl i) = ap (λ b. cond b (Some e.1) (find revision_cmp x.0 es)) (tied x.0 e.0 (ap (λ (y : Node). y.0) (sym i))) ∙ ap (λ (y : Node). Some y.1) i
in_found (e ∷ es) x h (inr i) = ap (λ o. cond (is_eq o) (Some e.1) (find revision_cmp x.0 es)) (above e.0 x.0 (below_in e.0 es x (first_so _ _ h) i)) ∙ in_found es x (second_so _ _ h) i

found_in : (es : List Node) (r : Revision) (v : Entry) → find revision_cmp r es ≡ Some v → In es (r, v)
found_in [] r v h = cc
found_in (e ∷ es) r v h =
    elim (eq_by_cmp revision_cmp r e.0) as (λ b. eq_by_cmp revision_cmp r e.0 ≡ b → cond b (Some e.1) (find revision_cmp r es) ≡ Some v → In (e ∷ es) (r, v)) [
      | true ↦ λ t k. let key = sym (same r e.0 t) in let value = inside e.1 v k in inl (λ i. (key i, value i))
      | false ↦ λ t k. inr (found_in es r v k)
    ] refl h

sorted_entries : (h : HistoryContent) → is_sorted revision_cmp (entries h) ≡ true
sorted_entries h = true_from_T _ (entries_sorted h)

in_get : (h : HistoryContent) (x : Node) → In (entries h) x → get h x.0 ≡ Some x.1
in_get h x i = get-entries h x.0 ∙ in_found (entries h) x (sorted_entries h) i

get_in : (h : HistoryContent) (r : Revision) (e : Entry) → get h r ≡ Some e → In (entries h) (r, e)
get_in h r e g = found_in (entries h) r e (sym (get-entries h r) ∙ g)

-- ---- a leaf is childless

some_passes : (p : Node → Bool) (es : List Node) (x : Node) → In es x → p x ≡ true → list_any p es ≡ true
some_passes p [] x i t = elim i [ ]
some_passes p (e ∷ es) x (inl i) t = rw (ap p i ∙ t) refl
some_passes p (e ∷ es) x (inr i) t = elim (p e) as (λ b. (b || list_any p es) ≡ true) [ true ↦ refl | false ↦ some_passes p es x i t ]

passing : (p : Node → Bool) (es : List Node) → list_any p es ≡ true → (x : Node) × In es x × (p x ≡ true)
passing p [] h = cc
passing p (e ∷ es) h =
    elim (p e) as (λ b. p e ≡ b → (b || list_any p es) ≡ true → (x : Node) × In (e ∷ es) x × (p x ≡ true)) [
      | true ↦ λ t k. (e, inl refl, t)
      | false ↦ λ t k. let x = passing p es k in (x.0, inr x.1, x.2)
    ] refl h

names_is : (o : Option Revision) (r : Revision) → names o r ≡ true → o ≡ Some r
names_is None r e = cc
names_is (Some p) r e = ap Some (same p r e)

is_names : (o : Option Revision) (r : Revision) → o ≡ Some r → names o r ≡ true
is_names None r e = cc
is_names (Some p) r e = tied p r (inside p r e)

child_of : (h : HistoryContent) (s r : Revision) → parent_of h s ≡ Some r → has_child h r ≡ true
child_of h s r up = by (get h s) refl up
  where
    by : (o : Option Entry) → get h s ≡ o → option_and_then (λ (e : Entry). e.parent) o ≡ Some r → has_child h r ≡ true
    by None g u = cc
    by (Some e) g u = some_passes (λ (x : Node). names x.1.parent r) (entries h) (s, e) (get_in h s e g) (is_names e.parent r u)

has_child_is : (h : HistoryContent) (r : Revision) → has_child h r ≡ true → (s : Revision) × (parent_of h s ≡ Some r)
has_child_is h r k =
    let x = passing (λ (x : Node). names x.1.parent r) (entries h) k in
    (x.0.0, ap (option_and_then (λ (e : Entry). e.parent)) (in_get h x.0 x.1) ∙ names_is x.0.1.parent r x.2)

not_true : (b : Bool) → not b ≡ true → b ≡ false
not_true true e = sym e
not_true false e = refl

pub leaf_is_childless : (h : HistoryContent) (r : Revision) → IsTrue (is_leaf h r) ↔ (IsTrue (is_known h r) × ((s : Revision) → parent_of h s ≢ Some r))
leaf_is_childless h r = (there, back)
  where
    there : IsTrue (is_leaf h r) → IsTrue (is_known h r) × ((s : Revision) → parent_of h s ≢ Some r)
    there k = (first_so (is_known h r) (not (has_child h r)) k, λ s up. false≢true (sym (not_true (has_child h r) (second_so (is_known h r) (not (has_child h r)) k)) ∙ child_of h s r up))

    back : IsTrue (is_known h r) × ((s : Revision) → parent_of h s ≢ Some r) → IsTrue (is_leaf h r)
    back k = by (has_child h r) refl
      where
        by : (b : Bool) → has_child h r ≡ b → is_leaf h r ≡ true
        by true c = let s = has_child_is h r c in absurd (k.1 s.0 s.1)
        by false c = rw (k.0, c) refl

-- ---- the list has each leaf

mapped : (p : Node → Bool) (es : List Node) (r : Revision) → StandsIn (map (λ (e : Node). e.0) (filter p es)) r → (x : Node) × In es x × (p x ≡ true) × (x.0 ≡ r)
mapped p [] r h = elim h [ ]
mapped p (e ∷ es) r h =
    elim (p e) as (λ b. p e ≡ b → StandsIn (map (λ (x : Node). x.0) (cond b (e ∷ filter p es) (filter p es))) r → (x : Node) × In (e ∷ es) x × (p x ≡ true) × (x.0 ≡ r)) [
      | true ↦ λ t k. elim k as (λ _. (x : Node) × In (e ∷ es) x × (p x ≡ true) × (x.0 ≡ r)) [ inl i ↦ (e, inl refl, t, i) | inr i ↦ let x = mapped p es r i in (x.0, inr x.1, x.2, x.3) ]
      | false ↦ λ t k. let x = mapped p es r k in (x.0, inr x.1, x.2, x.3)
    ] refl h

mapped_in : (p : Node → Bool) (es : List Node) (x : Node) → In es x → p x ≡ true → StandsIn (map (λ (e : Node). e.0) (filter p es)) x.0
mapped_in p [] x i t = elim i [ ]
mapped_in p (e ∷ es) x (inl i) t =
    subst (λ b. StandsIn (map (λ (y : Node). y.0) (cond b (e ∷ filter p es) (filter p es))) x.0) (sym (ap p i ∙ t)) (inl (ap (λ (y : Node). y.0) i))
mapped_in p (e ∷ es) x (inr i) t =
    elim (p e) as (λ b. StandsIn (map (λ (y : Node). y.0) (cond b (e ∷ filter p es) (filter p es))) x.0) [ true ↦ inr (mapped_in p es x i t) | false ↦ mapped_in p es x i t ]

either_list : (xs ys : List Revision) (r : Revision) → StandsIn (xs ++ ys) r → StandsIn xs r ⊎ StandsIn ys r
either_list [] ys r h = inr h
either_list (x ∷ xs) ys r (inl h) = inl (inl h)
either_list (x ∷ xs) ys r (inr h) = elim (either_list xs ys r h) as (λ _. StandsIn (x ∷ xs) r ⊎ StandsIn ys r) [ inl k ↦ inl (inr k) | inr k ↦ inr k ]

front_list : (xs ys : List Revision) (r : Revision) → StandsIn xs r → StandsIn (xs ++ ys) r
front_list [] ys r h = elim h [ ]
front_list (x ∷ xs) ys r (inl h) = inl h
front_list (x ∷ xs) ys r (inr h) = inr (front_list xs ys r h)

back_list : (xs ys : List Revision) (r : Revision) → StandsIn ys r → StandsIn (xs ++ ys) r
back_list [] ys r h = h
back_list (x ∷ xs) ys r h = inr (back_list xs ys r h)

-- a node of the marked leaves
record MarkedLeaf (h : HistoryContent) (mark : Bool) (r : Revision) : Type 0 where
  leaf : is_leaf h r ≡ true
  marked : is_deleted (held_of h r) ≡ mark

marked_is : (mark : Bool) (d : Option Held) → is_marked mark d ≡ true → is_deleted d ≡ mark
marked_is true d e = e
marked_is false d e = not_true _ e

is_marked_so : (d : Option Held) → is_marked (is_deleted d) d ≡ true
is_marked_so d = by (is_deleted d) refl
  where
    by : (b : Bool) → is_deleted d ≡ b → is_marked b d ≡ true
    by true e = e
    by false e = ap not e

marked_leaf : (h : HistoryContent) (mark : Bool) (r : Revision) → StandsIn (leaves_marked mark h) r → MarkedLeaf h mark r
marked_leaf h mark r i =
    let x = mapped (is_leaf_in mark (entries h)) (reverse (entries h)) r i in
    let got : get h r ≡ Some x.0.1 = ap (get h) (sym x.3) ∙ in_get h x.0 (from_reverse (entries h) x.0 x.1) in
    let childless : not (has_child h r) ≡ true = ap (λ (s : Revision). not (has_child h s)) (sym x.3) ∙ second_so _ _ x.2 in
    let known : is_known h r ≡ true = ap is_some got in
    record {
      leaf = rw (known, childless) refl;
      marked = ap (λ (o : Option Entry). is_deleted (option_and_then (λ (e : Entry). e.held) o)) got ∙ marked_is mark x.0.1.held (first_so _ _ x.2);
    }

leaf_marked : (h : HistoryContent) (r : Revision) → is_leaf h r ≡ true → StandsIn (leaves_marked (is_deleted (held_of h r)) h) r
leaf_marked h r l =
    let e = entry_of_known h r (first_so _ _ l) in
    let mark : is_deleted (held_of h r) ≡ is_deleted e.0.held = ap (λ (o : Option Entry). is_deleted (option_and_then (λ (x : Entry). x.held) o)) e.1 in
    let marked : is_marked (is_deleted (held_of h r)) e.0.held ≡ true = ap (λ b. is_marked b e.0.held) mark ∙ is_marked_so e.0.held in
    let passes : is_leaf_in (is_deleted (held_of h r)) (entries h) (r, e.0) ≡ true = (λ i. marked i && second_so (is_known h r) (not (has_child h r)) l i) in
    mapped_in (is_leaf_in (is_deleted (held_of h r)) (entries h)) (reverse (entries h)) (r, e.0) (in_reverse (entries h) (r, e.0) (get_in h r e.0 e.1)) passes

pub leaves_are : (h : HistoryContent) (r : Revision) → StandsIn (leaves h) r ↔ IsTrue (is_leaf h r)
leaves_are h r = (there, λ l. back (is_deleted (held_of h r)) (leaf_marked h r l))
  where
    there : StandsIn (leaves h) r → is_leaf h r ≡ true
    there i = elim (either_list (leaves_marked false h) (leaves_marked true h) r i) as (λ _. is_leaf h r ≡ true) [
      | inl k ↦ (marked_leaf h false r k).leaf
      | inr k ↦ (marked_leaf h true r k).leaf
    ]

    back : (b : Bool) → StandsIn (leaves_marked b h) r → StandsIn (leaves h) r
    back true i = back_list (leaves_marked false h) (leaves_marked true h) r i
    back false i = front_list (leaves_marked false h) (leaves_marked true h) r i

-- ---- best first

abbrev IsAboveAll : Node → List Node → Type 0
IsAboveAll x [] = ⊤
IsAboveAll x (y ∷ ys) = (revision_cmp x.0 y.0 ≡ Greater) × IsAboveAll x ys

abbrev Fall : List Node → Type 0
Fall [] = ⊤
Fall (x ∷ xs) = IsAboveAll x xs × Fall xs

above_push : (x y : Node) (ys : List Node) → IsAboveAll x ys → revision_cmp x.0 y.0 ≡ Greater → IsAboveAll x (ys ++ y ∷ [])
above_push x y [] h k = (k, tt)
above_push x y (z ∷ ys) h k = (h.0, above_push x y ys h.1 k)

fall_push : (y : Node) (xs : List Node) → Fall xs → ((x : Node) → In xs x → revision_cmp x.0 y.0 ≡ Greater) → Fall (xs ++ y ∷ [])
fall_push y [] h k = (tt, tt)
fall_push y (x ∷ xs) h k = (above_push x y xs h.0 (k x (inl refl)), fall_push y xs h.1 (λ z i. k z (inr i)))

fall_reverse : (es : List Node) → is_sorted revision_cmp es ≡ true → Fall (reverse es)
fall_reverse [] h = tt
fall_reverse (e ∷ es) h =
    subst Fall (sym (turned_round e es))
    (fall_push e (reverse es) (fall_reverse es (second_so _ _ h)) (λ x i. above e.0 x.0 (below_in e.0 es x (first_so _ _ h) (from_reverse es x i))))

above_filter : (p : Node → Bool) (x : Node) (ys : List Node) → IsAboveAll x ys → IsAboveAll x (filter p ys)
above_filter p x [] h = tt
above_filter p x (y ∷ ys) h = elim (p y) as (λ b. IsAboveAll x (cond b (y ∷ filter p ys) (filter p ys))) [ true ↦ (h.0, above_filter p x ys h.1) | false ↦ above_filter p x ys h.1 ]

fall_filter : (p : Node → Bool) (xs : List Node) → Fall xs → Fall (filter p xs)
fall_filter p [] h = tt
fall_filter p (x ∷ xs) h = elim (p x) as (λ b. Fall (cond b (x ∷ filter p xs) (filter p xs))) [ true ↦ (above_filter p x xs h.0, fall_filter p xs h.1) | false ↦ fall_filter p xs h.1 ]

abbrev keys : List Node → List Revision
keys xs = map (λ (e : Node). e.0) xs

beats_marked : (h : HistoryContent) (mark : Bool) (x : Node) (ys : List Node) → IsAboveAll x ys → is_deleted (held_of h x.0) ≡ mark → ((r : Revision) → StandsIn (keys ys) r → is_deleted (held_of h r) ≡ mark) → BeatsAll h x.0 (keys ys)
beats_marked h mark x [] a m k = tt
beats_marked h mark x (y ∷ ys) a m k = (inr (m ∙ sym (k y.0 (inl refl)), a.0), beats_marked h mark x ys a.1 m (λ r i. k r (inr i)))

best_marked : (h : HistoryContent) (mark : Bool) (xs : List Node) → Fall xs → ((r : Revision) → StandsIn (keys xs) r → is_deleted (held_of h r) ≡ mark) → AreBestFirst h (keys xs)
best_marked h mark [] f k = tt
best_marked h mark (x ∷ xs) f k = (beats_marked h mark x xs f.0 (k x.0 (inl refl)) (λ r i. k r (inr i)), best_marked h mark xs f.1 (λ r i. k r (inr i)))

beats_join : (h : HistoryContent) (r : Revision) (xs ys : List Revision) → BeatsAll h r xs → ((s : Revision) → StandsIn ys s → IsBetter h r s) → BeatsAll h r (xs ++ ys)
beats_join h r [] [] a k = tt
beats_join h r [] (y ∷ ys) a k = (k y (inl refl), beats_join h r [] ys tt (λ s i. k s (inr i)))
beats_join h r (x ∷ xs) ys a k = (a.0, beats_join h r xs ys a.1 k)

best_join : (h : HistoryContent) (xs ys : List Revision) → AreBestFirst h xs → AreBestFirst h ys → ((r s : Revision) → StandsIn xs r → StandsIn ys s → IsBetter h r s) → AreBestFirst h (xs ++ ys)
best_join h [] ys a b k = b
best_join h (x ∷ xs) ys a b k = (beats_join h x xs ys a.0 (λ s i. k x s (inl refl) i), best_join h xs ys a.1 b (λ r s i j. k r s (inr i) j))

pub best_first : (h : HistoryContent) → AreBestFirst h (leaves h)
best_first h =
    best_join h (leaves_marked false h) (leaves_marked true h) (marked false) (marked true)
    (λ r s i j. inl (ap not (marked_leaf h false r i).marked, (marked_leaf h true s j).marked))
  where
    marked : (mark : Bool) → AreBestFirst h (leaves_marked mark h)
    marked mark =
        best_marked h mark (filter (is_leaf_in mark (entries h)) (reverse (entries h)))
        (fall_filter (is_leaf_in mark (entries h)) (reverse (entries h)) (fall_reverse (entries h) (sorted_entries h)))
        (λ r i. (marked_leaf h mark r i).marked)

-- ---- the order is strict

pub better_not_itself : (h : HistoryContent) (r : Revision) → IsBetter h r r → ⊥
better_not_itself h r (inl b) = false≢true (sym (not_true _ b.0) ∙ b.1)
better_not_itself h r (inr b) = let e : Greater ≡ Equal = sym b.1 ∙ tied_itself revision_cmp_total r in cc

pub better_not_both : (h : HistoryContent) (r s : Revision) → IsBetter h r s → IsBetter h s r → ⊥
better_not_both h r s (inl b) (inl c) = false≢true (sym (not_true _ b.0) ∙ c.1)
better_not_both h r s (inl b) (inr c) = false≢true (sym (not_true _ b.0) ∙ sym c.0 ∙ b.1)
better_not_both h r s (inr b) (inl c) = false≢true (sym (not_true _ c.0) ∙ sym b.0 ∙ c.1)
better_not_both h r s (inr b) (inr c) = let e : Greater ≡ Less = sym b.1 ∙ revision_cmp_total.antisymm r s ∙ ap ordering_reverse c.1 in cc

beaten : (h : HistoryContent) (r s : Revision) (rs : List Revision) → BeatsAll h r rs → StandsIn rs s → IsBetter h r s
beaten h r s [] b i = elim i [ ]
beaten h r s (t ∷ rs) b (inl i) = subst (IsBetter h r) i b.0
beaten h r s (t ∷ rs) b (inr i) = beaten h r s rs b.1 i

-- ---- the winner

-- no leaf, or a leaf that is better than each other
abbrev IsBestOf : HistoryContent → Option Revision → Type 0
IsBestOf h o = MatchOption o ((r : Revision) → IsTrue (is_leaf h r) → ⊥) (λ r. IsTrue (is_leaf h r) × ((s : Revision) → IsTrue (is_leaf h s) → (s ≡ r) ⊎ IsBetter h r s))

best_of : (h : HistoryContent) (rs : List Revision) → AreBestFirst h rs → ((r : Revision) → StandsIn rs r ↔ IsTrue (is_leaf h r)) → IsBestOf h (slice_get rs 0)
best_of h [] b are = λ r l. (are r).1 l
best_of h (r ∷ rs) b are =
    ((are r).0 (inl refl), λ s l. elim ((are s).1 l) as (λ _. (s ≡ r) ⊎ IsBetter h r s) [ inl i ↦ inl (sym i) | inr i ↦ inr (beaten h r s rs b.0 i) ])

pub winner_is_best : (h : HistoryContent) → MatchOption (winner h) ((r : Revision) → IsTrue (is_leaf h r) → ⊥) (λ r. IsTrue (is_leaf h r) × ((s : Revision) → IsTrue (is_leaf h s) → (s ≡ r) ⊎ IsBetter h r s))
winner_is_best h = best_of h (leaves h) (best_first h) (leaves_are h)

-- ---- the winner by the marks

-- the first of what stands here, before others
first_of : (rs ys : List Revision) (r : Revision) → StandsIn rs r → (x : Revision) × StandsIn rs x × (slice_get rs 0 ≡ Some x) × (slice_get (rs ++ ys) 0 ≡ Some x)
first_of [] ys r i = elim i [ ]
first_of (x ∷ rs) ys r i = (x, inl refl, refl, refl)

nothing : (rs : List Revision) → ((r : Revision) → StandsIn rs r → ⊥) → rs ≡ []
nothing [] k = refl
nothing (r ∷ rs) k = absurd (k r (inl refl))

live_first : (h : HistoryContent) → is_live h ≡ true → (x : Revision) × StandsIn (leaves_marked false h) x × (slice_get (leaves_marked false h) 0 ≡ Some x) × (winner h ≡ Some x)
live_first h l =
    let x = passing (is_leaf_in false (entries h)) (entries h) l in
    first_of (leaves_marked false h) (leaves_marked true h) x.0.0 (mapped_in (is_leaf_in false (entries h)) (reverse (entries h)) x.0 (in_reverse (entries h) x.0 x.1) x.2)

none_live : (h : HistoryContent) → is_live h ≡ false → leaves_marked false h ≡ []
none_live h l = nothing (leaves_marked false h) (λ r i.
    let x = mapped (is_leaf_in false (entries h)) (reverse (entries h)) r i in
    false≢true (sym l ∙ some_passes (is_leaf_in false (entries h)) (entries h) x.0 (from_reverse (entries h) x.0 x.1) x.2))

pub winner_of_live : (h : HistoryContent) → is_live h ≡ true → slice_get (leaves_marked false h) 0 ≡ winner h
winner_of_live h l = let x = live_first h l in x.2 ∙ sym x.3

pub winner_of_others : (h : HistoryContent) → is_live h ≡ false → slice_get (leaves_marked true h) 0 ≡ winner h
winner_of_others h l = ap (λ (rs : List Revision). slice_get (rs ++ leaves_marked true h) 0) (sym (none_live h l))

-- the best that is not deleted tells whether one is not
pub best_is_live : (h : HistoryContent) → is_some (slice_get (leaves_marked false h) 0) ≡ is_live h
best_is_live h = by (is_live h) refl
  where
    by : (b : Bool) → is_live h ≡ b → is_some (slice_get (leaves_marked false h) 0) ≡ is_live h
    by true l = ap is_some (live_first h l).2 ∙ sym l
    by false l = ap (λ (rs : List Revision). is_some (slice_get rs 0)) (none_live h l) ∙ sym l

-- the winner of a live history is not deleted
pub live_winner : (h : HistoryContent) → is_live h ≡ true → (r : Revision) × (winner h ≡ Some r) × (is_deleted (held_of h r) ≡ false)
live_winner h l = let x = live_first h l in (x.0, x.3, (marked_leaf h false x.0 x.1).marked)

-- some leaf is not deleted
pub live_leaf : (h : HistoryContent) → IsTrue (is_live h) ↔ ((r : Revision) × IsTrue (is_leaf h r) × (is_deleted (held_of h r) ≡ false))
live_leaf h = (there, back)
  where
    there : is_live h ≡ true → (r : Revision) × IsTrue (is_leaf h r) × (is_deleted (held_of h r) ≡ false)
    there l = let x = live_first h l in let m = marked_leaf h false x.0 x.1 in (x.0, m.leaf, m.marked)

    back : (r : Revision) × IsTrue (is_leaf h r) × (is_deleted (held_of h r) ≡ false) → is_live h ≡ true
    back x = by (is_live h) refl
      where
        stands : StandsIn (leaves_marked false h) x.0
        stands = subst (λ b. StandsIn (leaves_marked b h) x.0) x.2 (leaf_marked h x.0 x.1)

        by : (b : Bool) → is_live h ≡ b → is_live h ≡ true
        by true l = l
        by false l = absurd (subst (λ (rs : List Revision). StandsIn rs x.0) (none_live h l) stands)

first_stands : (rs : List Revision) (r : Revision) → slice_get rs 0 ≡ Some r → StandsIn rs r
first_stands [] r e = cc
first_stands (x ∷ rs) r e = inl (inside x r e)

-- the winner is deleted just where each leaf is
pub winner_mark : (h : HistoryContent) (r : Revision) → winner h ≡ Some r → is_live h ≡ not (is_deleted (held_of h r))
winner_mark h r e = by (is_live h) refl
  where
    by : (b : Bool) → is_live h ≡ b → is_live h ≡ not (is_deleted (held_of h r))
    by true l = l ∙ ap not (sym (marked_leaf h false r (first_stands (leaves_marked false h) r (winner_of_live h l ∙ e))).marked)
    by false l = l ∙ ap not (sym (marked_leaf h true r (first_stands (leaves_marked true h) r (winner_of_others h l ∙ e))).marked)

-- ---- what the leaves depend on

only_order : (h : HistoryContent) (xs ys : List Revision) → AreBestFirst h xs → AreBestFirst h ys → ((r : Revision) → StandsIn xs r → StandsIn ys r) → ((r : Revision) → StandsIn ys r → StandsIn xs r) → xs ≡ ys
only_order h [] [] a b f g = refl
only_order h [] (y ∷ ys) a b f g = elim (g y (inl refl)) [ ]
only_order h (x ∷ xs) [] a b f g = elim (f x (inl refl)) [ ]
only_order h (x ∷ xs) (y ∷ ys) a b f g = λ i. first i ∷ only_order h xs ys a.1 b.1 there back i
  where
    meet : StandsIn (y ∷ ys) x → StandsIn (x ∷ xs) y → x ≡ y
    meet (inl e) k = sym e
    meet (inr e) (inl k) = k
    meet (inr e) (inr k) = absurd (better_not_both h y x (beaten h y x ys b.0 e) (beaten h x y xs a.0 k))

    first : x ≡ y
    first = meet (f x (inl refl)) (g y (inl refl))

    later : (r : Revision) → StandsIn xs r → StandsIn (y ∷ ys) r → StandsIn ys r
    later r k (inl e) = absurd (better_not_itself h x (subst (IsBetter h x) (sym (first ∙ e)) (beaten h x r xs a.0 k)))
    later r k (inr e) = e

    earlier : (r : Revision) → StandsIn ys r → StandsIn (x ∷ xs) r → StandsIn xs r
    earlier r k (inl e) = absurd (better_not_itself h y (subst (IsBetter h y) (sym (sym first ∙ e)) (beaten h y r ys b.0 k)))
    earlier r k (inr e) = e

    there : (r : Revision) → StandsIn xs r → StandsIn ys r
    there r k = later r k (f r (inr k))

    back : (r : Revision) → StandsIn ys r → StandsIn xs r
    back r k = earlier r k (g r (inr k))

better_alike : (h k : HistoryContent) (r s : Revision) → is_deleted (held_of h r) ≡ is_deleted (held_of k r) → is_deleted (held_of h s) ≡ is_deleted (held_of k s) → IsBetter k r s → IsBetter h r s
better_alike h k r s p q (inl b) = inl (ap not p ∙ b.0, q ∙ b.1)
better_alike h k r s p q (inr b) = inr (p ∙ b.0 ∙ sym q, b.1)

beats_alike : (h k : HistoryContent) (r : Revision) (rs : List Revision) → ((s : Revision) → StandsIn (r ∷ rs) s → is_deleted (held_of h s) ≡ is_deleted (held_of k s)) → BeatsAll k r rs → BeatsAll h r rs
beats_alike h k r [] m b = tt
beats_alike h k r (s ∷ rs) m b =
    (better_alike h k r s (m r (inl refl)) (m s (inr (inl refl))) b.0, beats_alike h k r rs (λ t i. m t (elim i as (λ _. StandsIn (r ∷ s ∷ rs) t) [ inl e ↦ inl e | inr e ↦ inr (inr e) ])) b.1)

best_alike : (h k : HistoryContent) (rs : List Revision) → ((s : Revision) → StandsIn rs s → is_deleted (held_of h s) ≡ is_deleted (held_of k s)) → AreBestFirst k rs → AreBestFirst h rs
best_alike h k [] m b = tt
best_alike h k (r ∷ rs) m b = (beats_alike h k r rs m b.0, best_alike h k rs (λ s i. m s (inr i)) b.1)

pub leaf_alike : (h k : HistoryContent) → ((r : Revision) → is_known h r ≡ is_known k r) → ((r : Revision) → parent_of h r ≡ parent_of k r) → (r : Revision) → is_leaf h r ≡ true → is_leaf k r ≡ true
leaf_alike h k known parents r l =
    let c = (leaf_is_childless h r).0 l in
    (leaf_is_childless k r).1 (sym (known r) ∙ c.0, λ s up. c.1 s (parents s ∙ up))

pub leaves_same : (h k : HistoryContent) → LooksAlike h k → leaves h ≡ leaves k
leaves_same h k a =
    only_order h (leaves h) (leaves k) (best_first h)
    (best_alike h k (leaves k) (λ s i. a.marks s (back s ((leaves_are k s).0 i))) (best_first k))
    (λ r i. (leaves_are k r).1 (leaf_alike h k a.known a.parents r ((leaves_are h r).0 i)))
    (λ r i. (leaves_are h r).1 (back r ((leaves_are k r).0 i)))
  where
    back : (r : Revision) → is_leaf k r ≡ true → is_leaf h r ≡ true
    back r l = leaf_alike k h (λ s. sym (a.known s)) (λ s. sym (a.parents s)) r l

pub winner_same : (h k : HistoryContent) → LooksAlike h k → winner h ≡ winner k
winner_same h k a = ap (λ (rs : List Revision). slice_get rs 0) (leaves_same h k a)

-- ---- leaves of a lawful list of writes

pub leaf_is_held : (ws : List Write) → AreLawfulWrites ws → (r : Revision) → IsTrue (is_leaf (content_of ws) r) → IsTrue (is_some (held_of (content_of ws) r))
leaf_is_held ws lawful r l =
    let c = (leaf_is_childless (content_of ws) r).0 l in
    elim (head_or_parent ws r ((is_known_writes ws r).0 c.0)) as (λ _. is_some (held_of (content_of ws) r) ≡ true) [
      | inl b ↦ ap is_some ((shows.held r b.0).1 b.1)
      | inr b ↦ absurd (c.1 b.0 ((shows.parent b.0 r).1 b.1))
    ]
  where
    shows : Shows ws (content_of ws)
    shows = shown ws lawful
