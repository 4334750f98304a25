-- The leaves that are kept in order are those of the content, the greatest first when they are turned round.
use Rattle.std.proofs.Common.{◌≡◌, Bool, true, false, cond, not, ◌&&◌, ◌||◌, List, [], ◌∷◌, ◌++◌, map, Option, Some, None, Ordering, refl, sym, ap, ◌∙◌, append_assoc, append-nil}
use Rattle.std.specs.Prelude.{IsTrue, MatchOption, is_some, filter, reverse, slice_get}
use Rattle.std.specs.List.{AllByRecursion}
use Rattle.std.specs.List.Sorted.{IsStrictlySortedBy}
use Rattle.std.proofs.lemmas.List.{reverse-append}
use Rattle.std.proofs.lemmas.Bool.{false≢true}
use Rattle.std.specs.declared.cmp.Ordering.TheVariants.{Less, Equal, Greater}
use Rattle.std.specs.Ordering.{is_lt, is_eq, eq_by_cmp, ordering_reverse}
use Rattle.std.specs.Cmp.{first_so, second_so, tied_itself}
use Rattle.std.specs.FinMap.{find, from_sorted, get, is_sorted}
use Rattle.std.specs.FinMap.Entries.{below_all}
use Rattle.tree.specs.Revision.{Revision, revision_cmp}
use Rattle.tree.specs.History.{is_deleted, is_leaf, is_leaf_in, is_parent_in, leaves_in, leaves_marked}
use Rattle.tree.specs.Nodes.{AreKept, has, is_entry_marked, is_leaf_at, leaves_with}
use Rattle.tree.specs.declared.entry.Entry.{Entry}
use Rattle.tree.specs.declared.marked_leaves.MarkedLeaves.{MarkedLeaves}
use Rattle.tree.proofs.Kept.{Node, entry_of, nodes_of, revision_cmp_total}
use Rattle.tree.proofs.Revisions.{same, tied}
use Rattle.tree.proofs.SortedEntries.{less}

turned : (x y : Revision) (o : Ordering) → revision_cmp x y ≡ o → revision_cmp y x ≡ ordering_reverse o
turned x y o e = revision_cmp_total.antisymm y x ∙ ap ordering_reverse e

not_below_itself : (x : Revision) → revision_cmp x x ≡ Less → ⊥
not_below_itself x e = let apart : Equal ≡ Less = sym (tied_itself revision_cmp_total x) ∙ e in cc

found_above : (y r : Revision) (es : List Node) → below_all revision_cmp y es ≡ true → is_some (find revision_cmp r es) ≡ true → revision_cmp y r ≡ Less
found_above y r [] h f = cc
found_above y r (e ∷ es) h f = by (found_above y r es (second_so _ _ h)) (eq_by_cmp revision_cmp r e.0) refl f
  where
    by : (is_some (find revision_cmp r es) ≡ true → revision_cmp y r ≡ Less) → (b : Bool) → eq_by_cmp revision_cmp r e.0 ≡ b → is_some (cond b (Some e.1) (find revision_cmp r es)) ≡ true → revision_cmp y r ≡ Less
    by more true t g = ap (revision_cmp y) (same r e.0 t) ∙ less _ (first_so _ _ h)
    by more false t g = more g

none_found : (r : Revision) (es : List Node) → below_all revision_cmp r es ≡ true → find revision_cmp r es ≡ None
none_found r es h = by (find revision_cmp r es) refl
  where
    by : (o : Option Entry) → find revision_cmp r es ≡ o → find revision_cmp r es ≡ None
    by None t = t
    by (Some x) t = absurd (not_below_itself r (found_above r r es h (ap is_some t)))

has_above : (y r : Revision) (xs : List Revision) → AllByRecursion (λ x. revision_cmp y x ≡ Less) xs → has xs r ≡ true → revision_cmp y r ≡ Less
has_above y r [] a h = cc
has_above y r (x ∷ xs) a h = by (has_above y r xs a.1) (eq_by_cmp revision_cmp r x) refl h
  where
    by : (has xs r ≡ true → revision_cmp y r ≡ Less) → (b : Bool) → eq_by_cmp revision_cmp r x ≡ b → (b || has xs r) ≡ true → revision_cmp y r ≡ Less
    by more true t g = ap (revision_cmp y) (same r x t) ∙ a.0
    by more false t g = more g

-- the revisions of nodes, in order
only_keys : (xs : List Revision) (es : List Node) → IsStrictlySortedBy revision_cmp xs → is_sorted revision_cmp es ≡ true → ((r : Revision) → has xs r ≡ is_some (find revision_cmp r es)) → xs ≡ map (λ e. e.0) es
unfolding IsStrictlySortedBy
only_keys [] [] s h f = refl
only_keys [] (e ∷ es) s h f = absurd (false≢true (f e.0 ∙ ap (λ b. is_some (cond b (Some e.1) (find revision_cmp e.0 es))) (tied e.0 e.0 refl)))
only_keys (x ∷ xs) [] s h f = absurd (false≢true (sym (f x) ∙ ap (λ b. b || has xs x) (tied x x refl)))
only_keys (x ∷ xs) (e ∷ es) s h f = by (only_keys xs es s.1 (second_so _ _ h)) (revision_cmp x e.0) refl
  where
    there : is_some (find revision_cmp x (e ∷ es)) ≡ true
    there = sym (f x) ∙ ap (λ b. b || has xs x) (tied x x refl)

    here : has (x ∷ xs) e.0 ≡ true
    here = f e.0 ∙ ap (λ b. is_some (cond b (Some e.1) (find revision_cmp e.0 es))) (tied e.0 e.0 refl)

    by : (((r : Revision) → has xs r ≡ is_some (find revision_cmp r es)) → xs ≡ map (λ n. n.0) es) → (o : Ordering) → revision_cmp x e.0 ≡ o → (x ∷ xs) ≡ map (λ n. n.0) (e ∷ es)
    by rest Less t =
        let above : revision_cmp e.0 x ≡ Less = found_above e.0 x es (first_so _ _ h) (sym (ap (λ o. is_some (cond (is_eq o) (Some e.1) (find revision_cmp x es))) t) ∙ there) in
        let apart : Less ≡ Greater = sym above ∙ turned x e.0 Less t in
        cc
    by rest Greater t =
        let above : revision_cmp x e.0 ≡ Less = has_above x e.0 xs s.0 (sym (ap (λ o. is_eq o || has xs e.0) (turned x e.0 Greater t)) ∙ here) in
        let apart : Less ≡ Greater = sym above ∙ t in
        cc
    by rest Equal t = (λ i. key i ∷ rest tails i)
      where
        key : x ≡ e.0
        key = same x e.0 (ap is_eq t)

        tails : (r : Revision) → has xs r ≡ is_some (find revision_cmp r es)
        tails r = at (eq_by_cmp revision_cmp r x) refl
          where
            no_key : r ≡ x → (b : Bool) → has xs r ≡ b → has xs r ≡ false
            no_key k true q = absurd (not_below_itself x (ap (revision_cmp x) (sym k) ∙ has_above x r xs s.0 q))
            no_key k false q = q

            no_node : r ≡ x → (b : Bool) → is_some (find revision_cmp r es) ≡ b → is_some (find revision_cmp r es) ≡ false
            no_node k true q = absurd (not_below_itself e.0 (ap (revision_cmp e.0) (sym (k ∙ key)) ∙ found_above e.0 r es (first_so _ _ h) q))
            no_node k false q = q

            at : (b : Bool) → eq_by_cmp revision_cmp r x ≡ b → has xs r ≡ is_some (find revision_cmp r es)
            at true q = let k = same r x q in no_key k (has xs r) refl ∙ sym (no_node k (is_some (find revision_cmp r es)) refl)
            at false q =
                sym (ap (λ b. b || has xs r) q) ∙ f r
                ∙ ap (λ b. is_some (cond b (Some e.1) (find revision_cmp r es))) (ap (eq_by_cmp revision_cmp r) (sym key) ∙ q)

-- ---- some of the nodes

below_filter : (p : Node → Bool) (r : Revision) (es : List Node) → below_all revision_cmp r es ≡ true → below_all revision_cmp r (filter p es) ≡ true
below_filter p r [] h = refl
below_filter p r (e ∷ es) h = by (p e) (below_filter p r es (second_so _ _ h))
  where
    by : (b : Bool) → below_all revision_cmp r (filter p es) ≡ true → below_all revision_cmp r (cond b (e ∷ filter p es) (filter p es)) ≡ true
    by true k = (λ i. first_so (is_lt (revision_cmp r e.0)) (below_all revision_cmp r es) h i && k i)
    by false k = k

sorted_filter : (p : Node → Bool) (es : List Node) → is_sorted revision_cmp es ≡ true → is_sorted revision_cmp (filter p es) ≡ true
sorted_filter p [] h = refl
sorted_filter p (e ∷ es) h = by (p e) (below_filter p e.0 es (first_so _ _ h)) (sorted_filter p es (second_so _ _ h))
  where
    by : (b : Bool) → below_all revision_cmp e.0 (filter p es) ≡ true → is_sorted revision_cmp (filter p es) ≡ true → is_sorted revision_cmp (cond b (e ∷ filter p es) (filter p es)) ≡ true
    by true l k = (λ i. l i && k i)
    by false l k = k

abbrev passes : (Node → Bool) → Revision → Option Entry → Bool
passes p r None = false
passes p r (Some e) = p (r, e)

find-filter : (p : Node → Bool) (r : Revision) (es : List Node) → is_sorted revision_cmp es ≡ true → is_some (find revision_cmp r (filter p es)) ≡ passes p r (find revision_cmp r es)
find-filter p r [] h = refl
find-filter p r (e ∷ es) h = by (find-filter p r es (second_so _ _ h)) (eq_by_cmp revision_cmp r e.0) refl (p e) refl
  where
    by : is_some (find revision_cmp r (filter p es)) ≡ passes p r (find revision_cmp r es) → (b : Bool) → eq_by_cmp revision_cmp r e.0 ≡ b → (c : Bool) → p e ≡ c
        → is_some (find revision_cmp r (cond c (e ∷ filter p es) (filter p es))) ≡ passes p r (cond b (Some e.1) (find revision_cmp r es))
    by rest true t true q = ap (λ b. is_some (cond b (Some e.1) (find revision_cmp r (filter p es)))) t ∙ sym (ap (λ s. p (s, e.1)) (same r e.0 t) ∙ q)
    by rest true t false q =
        rest ∙ ap (passes p r) (ap (λ s. find revision_cmp s es) (same r e.0 t) ∙ none_found e.0 es (first_so _ _ h)) ∙ sym (ap (λ s. p (s, e.1)) (same r e.0 t) ∙ q)
    by rest false t true q = ap (λ b. is_some (cond b (Some e.1) (find revision_cmp r (filter p es)))) t ∙ rest
    by rest false t false q = rest

-- ---- turned round

turned_round : {X : Type 0} (x : X) (xs : List X) → reverse (x ∷ xs) ≡ reverse xs ++ x ∷ []
turned_round x xs = reverse-append (x ∷ []) xs

filter-append : (p : Node → Bool) (es fs : List Node) → filter p (es ++ fs) ≡ filter p es ++ filter p fs
filter-append p [] fs = refl
filter-append p (e ∷ es) fs = by (p e) (filter-append p es fs)
  where
    by : (b : Bool) → filter p (es ++ fs) ≡ filter p es ++ filter p fs → cond b (e ∷ filter p (es ++ fs)) (filter p (es ++ fs)) ≡ cond b (e ∷ filter p es) (filter p es) ++ filter p fs
    by true k = ap (λ l. e ∷ l) k
    by false k = k

keys-append : (es fs : List Node) → map (λ e. e.0) (es ++ fs) ≡ map (λ e. e.0) es ++ map (λ e. e.0) fs
keys-append [] fs = refl
keys-append (e ∷ es) fs = ap (λ l. e.0 ∷ l) (keys-append es fs)

picked_round : (p : Node → Bool) (es : List Node) → reverse (map (λ e. e.0) (filter p es)) ≡ map (λ e. e.0) (filter p (reverse es))
picked_round p [] = refl
picked_round p (e ∷ es) = by (picked_round p es) (p e) refl ∙ sym (ap (λ l. map (λ n. n.0) (filter p l)) (turned_round e es) ∙ ap (λ l. map (λ n. n.0) l) (filter-append p (reverse es) (e ∷ [])) ∙ keys-append (filter p (reverse es)) (filter p (e ∷ [])))
  where
    by : reverse (map (λ n. n.0) (filter p es)) ≡ map (λ n. n.0) (filter p (reverse es)) → (b : Bool) → p e ≡ b → reverse (map (λ n. n.0) (cond (p e) (e ∷ filter p es) (filter p es))) ≡ map (λ n. n.0) (filter p (reverse es)) ++ map (λ n. n.0) (cond (p e) (e ∷ []) [])
    by rest true t =
        ap (λ b. reverse (map (λ n. n.0) (cond b (e ∷ filter p es) (filter p es)))) t ∙ turned_round e.0 (map (λ n. n.0) (filter p es))
        ∙ ap (λ l. l ++ e.0 ∷ []) rest ∙ ap (λ b. map (λ n. n.0) (filter p (reverse es)) ++ map (λ n. n.0) (cond b (e ∷ []) [])) (sym t)
    by rest false t =
        ap (λ b. reverse (map (λ n. n.0) (cond b (e ∷ filter p es) (filter p es)))) t ∙ rest ∙ sym (append-nil (map (λ n. n.0) (filter p (reverse es))))
        ∙ ap (λ b. map (λ n. n.0) (filter p (reverse es)) ++ map (λ n. n.0) (cond b (e ∷ []) [])) (sym t)

-- ---- the leaves

pub leaf_list : (mark : Bool) (keys : List Revision) (es : List Node) → IsStrictlySortedBy revision_cmp keys → IsTrue (is_sorted revision_cmp es) → ((r : Revision) → has keys r ≡ is_leaf_at mark es r) → reverse keys ≡ leaves_in mark es
leaf_list mark keys es s h are =
    ap reverse (only_keys keys (filter (is_leaf_in mark es) es) s (sorted_filter (is_leaf_in mark es) es h) (λ r. are r ∙ by r (find revision_cmp r es) ∙ sym (find-filter (is_leaf_in mark es) r es h)))
    ∙ picked_round (is_leaf_in mark es) es
  where
    by : (r : Revision) (o : Option Entry) → (is_entry_marked mark o && not (is_parent_in es r)) ≡ passes (is_leaf_in mark es) r o
    by r None = refl
    by r (Some e) = refl

-- one of either mark is a leaf
pub either_mark : (es : List Node) (r : Revision) → (is_leaf_at false es r || is_leaf_at true es r) ≡ (is_some (find revision_cmp r es) && not (is_parent_in es r))
either_mark es r = by (find revision_cmp r es)
  where
    either : (d p : Bool) → ((not d && not p) || (d && not p)) ≡ not p
    either true p = refl
    either false true = refl
    either false false = refl

    by : (o : Option Entry) → ((is_entry_marked false o && not (is_parent_in es r)) || (is_entry_marked true o && not (is_parent_in es r))) ≡ (is_some o && not (is_parent_in es r))
    by None = refl
    by (Some e) = either (is_deleted e.held) (is_parent_in es r)

pub kept_list : (mark : Bool) (keys : List Revision) (es : List Node) (leaves : MarkedLeaves) (awaited : List Revision) → AreKept es leaves awaited → keys ≡ leaves_with leaves mark → IsStrictlySortedBy revision_cmp keys → reverse keys ≡ leaves_marked mark (from_sorted {R = revision_cmp} es)
kept_list mark keys es leaves awaited k is s =
    leaf_list mark keys es s k.in_order (λ r. ap (λ ks. has ks r) is ∙ k.ends mark r) ∙ ap (leaves_in mark) (sym (nodes_of es k.in_order))

pub kept_leaf : (es : List Node) (leaves : MarkedLeaves) (awaited : List Revision) (r : Revision) → AreKept es leaves awaited → (has (leaves_with leaves false) r || has (leaves_with leaves true) r) ≡ is_leaf (from_sorted {R = revision_cmp} es) r
kept_leaf es leaves awaited r k =
    (λ i. k.ends false r i || k.ends true r i) ∙ either_mark es r
    ∙ ap (λ o. is_some o && not (is_parent_in es r)) (sym (entry_of es r k.in_order))
    ∙ ap (λ ns. is_some (get (from_sorted {R = revision_cmp} es) r) && not (is_parent_in ns r)) (sym (nodes_of es k.in_order))

-- the last of a list is the first of it turned round
pub last_first : (keys : List Revision) (o : Option Revision) (rest : List Revision) → MatchOption o (keys ≡ []) (λ r. keys ≡ rest ++ r ∷ []) → o ≡ slice_get (reverse keys) 0
last_first keys None rest e = sym (ap (λ ks. slice_get (reverse ks) 0) e)
last_first keys (Some r) rest e = sym (ap (λ ks. slice_get (reverse ks) 0) e ∙ ap (λ ks. slice_get ks 0) (reverse-append rest (r ∷ [])))

-- one more of a list that is turned round
pub one_round : (out after keys rest : List Revision) (r : Revision) (all : List Revision) → keys ≡ rest ++ r ∷ [] → after ≡ out ++ r ∷ [] → out ++ reverse keys ≡ all → after ++ reverse rest ≡ all
one_round out after keys rest r all split pushed so =
    ap (λ l. l ++ reverse rest) pushed ∙ append_assoc out (r ∷ []) (reverse rest)
    ∙ ap (λ l. out ++ l) (sym (reverse-append rest (r ∷ []))) ∙ ap (λ l. out ++ reverse l) (sym split) ∙ so
