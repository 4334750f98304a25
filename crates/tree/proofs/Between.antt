-- Between two nodes of a path: one more comes in, and at the end the leaves and what is awaited are settled.
use Rattle.std.proofs.Common.{◌≡◌, length-append, ℕ, ◌+◌, ◌<◌, ◌≤◌, length, drop, get_or, append-nil, append_assoc, arith, Bool, true, false, cond, not, ◌&&◌, ◌||◌, List, [], ◌∷◌, ◌++◌, Option, Some, None, refl, sym, ap, subst, ◌∙◌}
use Rattle.std.specs.Prelude.{is_some, IsTrue, OnErr, Result, Ok, Err}
use Rattle.std.specs.Ordering.{eq_by_cmp}
use Rattle.std.specs.Cmp.{eq_by_cmp_equiv}
use Rattle.std.specs.FinMap.{find, put, is_sorted}
use Rattle.std.specs.FinMap.Entries.{find-put}
use Rattle.std.proofs.lemmas.Bool.{false≢true}
use Rattle.std.proofs.lemmas.List.{drop_all, drop_more}
use Rattle.std.proofs.lemmas.List.Folds.{list_any-append}
use Rattle.tree.specs.Revision.{Revision, revision_cmp}
use Rattle.tree.specs.History.{is_deleted, is_marked, is_parent_in, names}
use Rattle.tree.specs.Nodes.{Insertion, AddsLeaf, AreKept, AreUnsettled, Awaits, CanGoBack, HasSameLeaves, IsBetween, Loses, LosesLeaves, has, insertion_of, insertions_in, insertions_of, is_awaited, is_entry_marked, is_followed, is_leaf_at, is_mark, is_new, is_new_leaf, leaves_with, next_of, nodes_before, nodes_with_new}
use Rattle.tree.specs.declared.entry.Held.{Held}
use Rattle.tree.specs.declared.entry.Entry.{Entry}
use Rattle.tree.specs.declared.marked_leaves.MarkedLeaves.{MarkedLeaves}
use Rattle.tree.proofs.Insertions.{nodes_before-append, parents-put, remove_entry-put}
use Rattle.tree.proofs.Kept.{Node, revision_cmp_total, sorted_put}
use Rattle.tree.proofs.Revisions.{same, tied}

-- ---- Bool

and-true : (a : Bool) → (a && true) ≡ a
and-true true = refl
and-true false = refl

and-false : (a : Bool) → (a && false) ≡ false
and-false true = refl
and-false false = refl

or-false : (a : Bool) → (a || false) ≡ a
or-false true = refl
or-false false = refl

-- ---- at the start

pub start : (nodes : List Node) (leaves : MarkedLeaves) (awaited : List Revision) (next : Option Revision) → AreKept nodes leaves awaited → IsBetween nodes nodes leaves awaited [] false next
start nodes leaves awaited next k = record {
  back = record { before = refl; ends = λ mark r. and-true (has (leaves_with leaves mark) r) ∙ k.ends mark r; missing = k.missing };
  in_order = k.in_order;
  known = λ r. sym (or-false (is_some (find revision_cmp r nodes)));
  ends = λ mark r. and-true (has (leaves_with leaves mark) r) ∙ k.ends mark r;
  parents = λ r n. sym (and-true (is_parent_in nodes r)) ∙ ap (λ o. is_parent_in nodes r && not (is_some o)) (sym n) ∙ sym (k.missing r) ∙ sym (or-false (has awaited r));
  unknown = λ r n. refl;
}

-- ---- a node that comes in

module _ (old nodes new : List Node) (leaves after : MarkedLeaves) (awaited : List Revision) (is : List Insertion) (is_open : Bool) (r : Revision) (e : Entry)
    (b : IsBetween old nodes leaves awaited is is_open (Some r)) (n : find revision_cmp r nodes ≡ None) (put_in : new ≡ put revision_cmp r e nodes)
    (adds : AddsLeaf (is_new_leaf nodes awaited r is_open) (is_deleted e.held) r leaves after) where
  abbrev i : Insertion
  i = insertion_of r e

  new_is : (s : Revision) → is_new (is ++ i ∷ []) s ≡ (is_new is s || eq_by_cmp revision_cmp r s)
  new_is s = list_any-append (λ (j : Insertion). eq_by_cmp revision_cmp j.rev s) is (i ∷ []) ∙ ap (λ c. is_new is s || c) (or-false (eq_by_cmp revision_cmp r s))

  followed_is : (s : Revision) → is_followed (is ++ i ∷ []) s ≡ (is_followed is s || names e.parent s)
  followed_is s = list_any-append (λ (j : Insertion). names j.parent s) is (i ∷ []) ∙ ap (λ c. is_followed is s || c) (or-false (names e.parent s))

  found : (s : Revision) → find revision_cmp s new ≡ cond (eq_by_cmp revision_cmp r s) (Some e) (find revision_cmp s nodes)
  found s = ap (find revision_cmp s) put_in ∙ find-put revision_cmp revision_cmp_total s r e nodes ∙ ap (λ c. cond c (Some e) (find revision_cmp s nodes)) ((eq_by_cmp_equiv revision_cmp_total).symm s r)

  parent_is : (s : Revision) → is_parent_in new s ≡ (names e.parent s || is_parent_in nodes s)
  parent_is s = ap (λ es. is_parent_in es s) put_in ∙ parents-put s r e nodes n

  unknown_before : (s : Revision) → find revision_cmp s new ≡ None → (eq_by_cmp revision_cmp r s ≡ false) × (find revision_cmp s nodes ≡ None)
  unknown_before s m = by (eq_by_cmp revision_cmp r s) refl
    where
      by : (c : Bool) → eq_by_cmp revision_cmp r s ≡ c → (eq_by_cmp revision_cmp r s ≡ false) × (find revision_cmp s nodes ≡ None)
      by true t = absurd (false≢true (ap is_some (sym m ∙ found s ∙ ap (λ c. cond c (Some e) (find revision_cmp s nodes)) t)))
      by false t = (t, sym (ap (λ c. cond c (Some e) (find revision_cmp s nodes)) t) ∙ sym (found s) ∙ m)

  not_old : find revision_cmp r old ≡ None
  not_old = by (find revision_cmp r old) refl
    where
      by : (o : Option Entry) → find revision_cmp r old ≡ o → find revision_cmp r old ≡ None
      by None t = t
      by (Some x) t = absurd (false≢true (sym (ap is_some n) ∙ b.known r ∙ ap (λ o. is_some o || is_new is r) t))

  not_new : is_new is r ≡ false
  not_new = sym (ap (λ o. is_some o || is_new is r) not_old) ∙ sym (b.known r) ∙ ap is_some n

  -- it is among no leaves yet
  not_there : (mark : Bool) → has (leaves_with leaves mark) r ≡ false
  not_there mark = sym (and-true (has (leaves_with leaves mark) r)) ∙ ap (λ c. has (leaves_with leaves mark) r && not c) (sym not_new) ∙ b.back.ends mark r ∙ ap (λ o. is_entry_marked mark o && not (is_parent_in old r)) not_old

  adds_here : (mark : Bool) → has (leaves_with after mark) r ≡ ((is_new_leaf nodes awaited r is_open && is_mark mark (is_deleted e.held) && eq_by_cmp revision_cmp r r) || false)
  adds_here mark = adds mark r ∙ ap (λ c. (is_new_leaf nodes awaited r is_open && is_mark mark (is_deleted e.held) && eq_by_cmp revision_cmp r r) || c) (not_there mark)

  adds_else : (mark : Bool) (s : Revision) → eq_by_cmp revision_cmp r s ≡ false → has (leaves_with after mark) s ≡ has (leaves_with leaves mark) s
  adds_else mark s t = adds mark s ∙ ap (λ c. (is_new_leaf nodes awaited r is_open && is_mark mark (is_deleted e.held) && c) || has (leaves_with leaves mark) s) t ∙ none (is_new_leaf nodes awaited r is_open) (is_mark mark (is_deleted e.held)) (has (leaves_with leaves mark) s)
    where
      none : (a c d : Bool) → ((a && c && false) || d) ≡ d
      none true true d = refl
      none true false d = refl
      none false c d = refl

  is_mark_is : (mark : Bool) (d : Option Held) → is_mark mark (is_deleted d) ≡ is_marked mark d
  is_mark_is true d = refl
  is_mark_is false d = refl

  followed_here : is_followed is r ≡ is_open
  followed_here = b.unknown r n ∙ ap (λ c. is_open && c) (tied r r refl) ∙ and-true is_open

  pub more : IsBetween old new after awaited (is ++ i ∷ []) true e.parent
  more = record {
    back = record { before = before; ends = back_ends; missing = b.back.missing };
    in_order = subst (λ es. IsTrue (is_sorted revision_cmp es)) (sym put_in) (sorted_put nodes r e b.in_order);
    known = known;
    ends = ends;
    parents = parents;
    unknown = unknown;
  }
    where
      before : nodes_before new (is ++ i ∷ []) ≡ old
      before = nodes_before-append new is i ∙ ap (λ es. nodes_before es is) (ap (λ es. nodes_before es (i ∷ [])) put_in ∙ remove_entry-put nodes r e n) ∙ b.back.before

      back_ends : (mark : Bool) (s : Revision) → (has (leaves_with after mark) s && not (is_new (is ++ i ∷ []) s)) ≡ is_leaf_at mark old s
      back_ends mark s = by (eq_by_cmp revision_cmp r s) refl
        where
          by : (c : Bool) → eq_by_cmp revision_cmp r s ≡ c → (has (leaves_with after mark) s && not (is_new (is ++ i ∷ []) s)) ≡ is_leaf_at mark old s
          by true t =
              ap (λ c. has (leaves_with after mark) s && not c) (new_is s ∙ ap (λ c. is_new is s || c) t) ∙ gone (has (leaves_with after mark) s) (is_new is s)
              ∙ sym (ap (λ o. is_entry_marked mark o && not (is_parent_in old s)) (ap (λ q. find revision_cmp q old) (sym (same r s t)) ∙ not_old))
            where
              gone : (a c : Bool) → (a && not (c || true)) ≡ false
              gone true true = refl
              gone true false = refl
              gone false c = refl
          by false t =
              ap (λ c. c && not (is_new (is ++ i ∷ []) s)) (adds_else mark s t)
              ∙ ap (λ c. has (leaves_with leaves mark) s && not c) (new_is s ∙ ap (λ c. is_new is s || c) t ∙ or-false (is_new is s)) ∙ b.back.ends mark s

      known : (s : Revision) → is_some (find revision_cmp s new) ≡ (is_some (find revision_cmp s old) || is_new (is ++ i ∷ []) s)
      known s = ap is_some (found s) ∙ by (eq_by_cmp revision_cmp r s) (is_some (find revision_cmp s old)) (is_new is s) (b.known s) ∙ ap (λ c. is_some (find revision_cmp s old) || c) (sym (new_is s))
        where
          by : (c o j : Bool) → is_some (find revision_cmp s nodes) ≡ (o || j) → is_some (cond c (Some e) (find revision_cmp s nodes)) ≡ (o || (j || c))
          by true true j k = refl
          by true false true k = refl
          by true false false k = refl
          by false o j k = k ∙ ap (λ c. o || c) (sym (or-false j))

      ends : (mark : Bool) (s : Revision) → (has (leaves_with after mark) s && not (is_followed (is ++ i ∷ []) s)) ≡ is_leaf_at mark new s
      ends mark s = by (eq_by_cmp revision_cmp r s) refl
        where
          here : (has (leaves_with after mark) r && not (is_followed (is ++ i ∷ []) r)) ≡ is_leaf_at mark new r
          here =
              ap (λ c. c && not (is_followed (is ++ i ∷ []) r)) (adds_here mark ∙ ap (λ c. (is_new_leaf nodes awaited r is_open && is_mark mark (is_deleted e.held) && c) || false) (tied r r refl))
              ∙ ap (λ o. ((not (is_some o) && not is_open && not (has awaited r)) && is_mark mark (is_deleted e.held) && true || false) && not (is_followed (is ++ i ∷ []) r)) n
              ∙ ap (λ c. ((true && not is_open && not (has awaited r)) && is_mark mark (is_deleted e.held) && true || false) && not c) (followed_is r ∙ ap (λ c. c || names e.parent r) followed_here)
              ∙ alone is_open (has awaited r) (is_mark mark (is_deleted e.held)) (names e.parent r)
              ∙ ap (λ c. c && not (names e.parent r || (has awaited r || is_open))) (is_mark_is mark e.held)
              ∙ ap (λ c. is_marked mark e.held && not (names e.parent r || (has awaited r || c))) (sym followed_here)
              ∙ ap (λ c. is_marked mark e.held && not (names e.parent r || c)) (sym (b.parents r n))
              ∙ ap (λ c. is_marked mark e.held && not c) (sym (parent_is r))
              ∙ ap (λ o. is_entry_marked mark o && not (is_parent_in new r)) (sym (found r ∙ ap (λ c. cond c (Some e) (find revision_cmp r nodes)) (tied r r refl)))
            where
              alone : (o a m p : Bool) → (((true && not o && not a) && m && true || false) && not (o || p)) ≡ (m && not (p || (a || o)))
              alone true a true true = refl
              alone true true true false = refl
              alone true false true false = refl
              alone true a false p = refl
              alone false true true true = refl
              alone false true true false = refl
              alone false true false p = refl
              alone false false true true = refl
              alone false false true false = refl
              alone false false false p = refl

          by : (c : Bool) → eq_by_cmp revision_cmp r s ≡ c → (has (leaves_with after mark) s && not (is_followed (is ++ i ∷ []) s)) ≡ is_leaf_at mark new s
          by true t = subst (λ q. (has (leaves_with after mark) q && not (is_followed (is ++ i ∷ []) q)) ≡ is_leaf_at mark new q) (same r s t) here
          by false t =
              ap (λ c. c && not (is_followed (is ++ i ∷ []) s)) (adds_else mark s t)
              ∙ ap (λ c. has (leaves_with leaves mark) s && not c) (followed_is s)
              ∙ split (has (leaves_with leaves mark) s) (is_followed is s) (names e.parent s)
              ∙ ap (λ c. c && not (names e.parent s)) (b.ends mark s)
              ∙ joined (is_entry_marked mark (find revision_cmp s nodes)) (is_parent_in nodes s) (names e.parent s)
              ∙ ap (λ o. is_entry_marked mark o && not (names e.parent s || is_parent_in nodes s)) (sym (found s ∙ ap (λ c. cond c (Some e) (find revision_cmp s nodes)) t))
              ∙ ap (λ c. is_entry_marked mark (find revision_cmp s new) && not c) (sym (parent_is s))
            where
              split : (a c d : Bool) → (a && not (c || d)) ≡ ((a && not c) && not d)
              split true true d = refl
              split true false d = refl
              split false c d = refl

              joined : (a c d : Bool) → ((a && not c) && not d) ≡ (a && not (d || c))
              joined true true true = refl
              joined true true false = refl
              joined true false true = refl
              joined true false false = refl
              joined false c d = refl

      parents : (s : Revision) → find revision_cmp s new ≡ None → is_parent_in new s ≡ (has awaited s || is_followed (is ++ i ∷ []) s)
      parents s m =
          parent_is s ∙ ap (λ c. names e.parent s || c) (b.parents s (unknown_before s m).1)
          ∙ turned (names e.parent s) (has awaited s) (is_followed is s) ∙ ap (λ c. has awaited s || c) (sym (followed_is s))
        where
          turned : (a c d : Bool) → (a || (c || d)) ≡ (c || (d || a))
          turned true true d = refl
          turned true false true = refl
          turned true false false = refl
          turned false c true = refl
          turned false true false = refl
          turned false false false = refl

      unknown : (s : Revision) → find revision_cmp s new ≡ None → is_followed (is ++ i ∷ []) s ≡ (true && names e.parent s)
      unknown s m =
          let u = unknown_before s m in
          followed_is s ∙ ap (λ c. c || names e.parent s) (b.unknown s u.1 ∙ ap (λ c. is_open && c) u.0 ∙ and-false is_open)

-- ---- a node that comes in, or is known

same_back : (old nodes : List Node) (leaves after : MarkedLeaves) (awaited : List Revision) (is : List Insertion) → HasSameLeaves leaves after → CanGoBack old nodes leaves awaited is → CanGoBack old nodes after awaited is
same_back old nodes leaves after awaited is alike b = record { before = b.before; ends = λ mark r. ap (λ c. c && not (is_new is r)) (alike mark r) ∙ b.ends mark r; missing = b.missing }

-- nothing came in
pub back_still : (old nodes new : List Node) (leaves after : MarkedLeaves) (awaited : List Revision) (is : List Insertion) (is_open : Bool) (next : Option Revision)
    → new ≡ nodes → HasSameLeaves leaves after → IsBetween old nodes leaves awaited is is_open next → CanGoBack old new after awaited is
back_still old nodes new leaves after awaited is is_open next same_nodes alike b = subst (λ es. CanGoBack old es after awaited is) (sym same_nodes) (same_back old nodes leaves after awaited is alike b.back)

module _ (old nodes new : List Node) (leaves after : MarkedLeaves) (awaited : List Revision) (is : List Insertion) (is_open : Bool) (r : Revision) (e : Entry)
    (b : IsBetween old nodes leaves awaited is is_open (Some r)) (put_in : new ≡ nodes_with_new nodes r e)
    (adds : AddsLeaf (is_new_leaf nodes awaited r is_open) (is_deleted e.held) r leaves after) where
  same_leaves : is_some (find revision_cmp r nodes) ≡ true → HasSameLeaves leaves after
  same_leaves known mark s = adds mark s ∙ ap (λ c. ((not c && not is_open && not (has awaited r)) && is_mark mark (is_deleted e.held) && eq_by_cmp revision_cmp r s) || has (leaves_with leaves mark) s) known

  passed : is_some (find revision_cmp r nodes) ≡ true → IsBetween old nodes after awaited is false e.parent
  passed known = record {
    back = same_back old nodes leaves after awaited is (same_leaves known) b.back;
    in_order = b.in_order;
    known = b.known;
    ends = λ mark s. ap (λ c. c && not (is_followed is s)) (same_leaves known mark s) ∙ b.ends mark s;
    parents = b.parents;
    unknown = unknown;
  }
    where
      unknown : (s : Revision) → find revision_cmp s nodes ≡ None → is_followed is s ≡ false
      unknown s m = b.unknown s m ∙ by (eq_by_cmp revision_cmp r s) refl
        where
          by : (c : Bool) → eq_by_cmp revision_cmp r s ≡ c → (is_open && eq_by_cmp revision_cmp r s) ≡ false
          by true t = absurd (false≢true (sym (ap is_some m) ∙ ap (λ q. is_some (find revision_cmp q nodes)) (sym (same r s t)) ∙ known))
          by false t = ap (λ c. is_open && c) t ∙ and-false is_open

  one_more : IsBetween old new after awaited (is ++ insertions_of (not (is_some (find revision_cmp r nodes))) r e.parent) (not (is_some (find revision_cmp r nodes))) e.parent
  one_more = by (find revision_cmp r nodes) refl
    where
      by : (f : Option Entry) → find revision_cmp r nodes ≡ f → IsBetween old new after awaited (is ++ insertions_of (not (is_some (find revision_cmp r nodes))) r e.parent) (not (is_some (find revision_cmp r nodes))) e.parent
      by (Some x) t =
          let known : is_some (find revision_cmp r nodes) ≡ true = ap is_some t in
          let still : new ≡ nodes = put_in ∙ ap (λ c. cond c nodes (put revision_cmp r e nodes)) known in
          subst (λ c. IsBetween old new after awaited (is ++ insertions_of (not c) r e.parent) (not c) e.parent) (sym known)
          (subst (λ es. IsBetween old es after awaited (is ++ []) false e.parent) (sym still)
          (subst (λ js. IsBetween old nodes after awaited js false e.parent) (sym (append-nil is)) (passed known)))
      by None t =
          let known : is_some (find revision_cmp r nodes) ≡ false = ap is_some t in
          subst (λ c. IsBetween old new after awaited (is ++ insertions_of (not c) r e.parent) (not c) e.parent) (sym known)
          (more old nodes new leaves after awaited is is_open r e b t (put_in ∙ ap (λ c. cond c nodes (put revision_cmp r e nodes)) known) adds)

-- the same, in the words of a loop
pub step : (old nodes new : List Node) (leaves after : MarkedLeaves) (awaited : List Revision) (is js : List Insertion) (is_open came_in : Bool) (r : Revision) (e : Entry) (next : Option Revision)
    → next ≡ Some r → new ≡ nodes_with_new nodes r e → came_in ≡ not (is_some (find revision_cmp r nodes)) → AddsLeaf (is_new_leaf nodes awaited r is_open) (is_deleted e.held) r leaves after
    → js ≡ is ++ insertions_of came_in r e.parent
    → IsBetween old nodes leaves awaited is is_open next → IsBetween old new after awaited js came_in e.parent
step old nodes new leaves after awaited is js is_open came_in r e next up put_in told adds pushed b =
    subst (λ ks. IsBetween old new after awaited ks came_in e.parent) (sym pushed)
    (subst (λ c. IsBetween old new after awaited (is ++ insertions_of c r e.parent) c e.parent) (sym told)
    (one_more old nodes new leaves after awaited is is_open r e (subst (IsBetween old nodes leaves awaited is is_open) up b) put_in adds))

-- ---- at the end

-- what is awaited, with the last parent
pub unsettled : (old nodes : List Node) (leaves : MarkedLeaves) (awaited now : List Revision) (is : List Insertion) (is_open : Bool) (parent : Option Revision)
    → ((r : Revision) → has now r ≡ (has awaited r || (is_open && names parent r && not (is_some (find revision_cmp r nodes)))))
    → IsBetween old nodes leaves awaited is is_open parent → AreUnsettled nodes leaves now is
unsettled old nodes leaves awaited now is is_open parent awaits b = record { in_order = b.in_order; ends = b.ends; missing = missing }
  where
    missing : (r : Revision) → (has now r && not (is_new is r)) ≡ is_awaited nodes r
    missing r = by (find revision_cmp r nodes) refl
      where
        gone : (a c d j : Bool) → (false ≡ (d || j)) → ((a || (c && true)) && not j) ≡ (a || c)
        gone a c true j k = absurd (false≢true k)
        gone a c false true k = absurd (false≢true k)
        gone true c false false k = refl
        gone false true false false k = refl
        gone false false false false k = refl

        kept : (a c d j : Bool) → (true ≡ (d || j)) → (d ≡ true → a ≡ false) → ((a || (c && false)) && not j) ≡ false
        kept true c true j k l = absurd (false≢true (sym (l refl)))
        kept true c false true k l = refl
        kept true c false false k l = absurd (false≢true (sym k))
        kept false true d j k l = refl
        kept false false d j k l = refl

        turned : (a c d : Bool) → (a && c && d) ≡ ((a && c) && d)
        turned true c d = refl
        turned false c d = refl

        now_is : has now r ≡ (has awaited r || ((is_open && names parent r) && not (is_some (find revision_cmp r nodes))))
        now_is = awaits r ∙ ap (λ c. has awaited r || c) (turned is_open (names parent r) (not (is_some (find revision_cmp r nodes))))

        was_known : is_some (find revision_cmp r old) ≡ true → has awaited r ≡ false
        was_known k = b.back.missing r ∙ ap (λ c. is_parent_in old r && not c) k ∙ and-false (is_parent_in old r)

        by : (f : Option Entry) → find revision_cmp r nodes ≡ f → (has now r && not (is_new is r)) ≡ is_awaited nodes r
        by None t =
            ap (λ c. c && not (is_new is r)) (now_is ∙ ap (λ f. has awaited r || ((is_open && names parent r) && not (is_some f))) t)
            ∙ gone (has awaited r) (is_open && names parent r) (is_some (find revision_cmp r old)) (is_new is r) (sym (ap is_some t) ∙ b.known r)
            ∙ ap (λ c. has awaited r || c) (sym (b.unknown r t)) ∙ sym (b.parents r t)
            ∙ sym (and-true (is_parent_in nodes r)) ∙ ap (λ f. is_parent_in nodes r && not (is_some f)) (sym t)
        by (Some x) t =
            ap (λ c. c && not (is_new is r)) (now_is ∙ ap (λ f. has awaited r || ((is_open && names parent r) && not (is_some f))) t)
            ∙ kept (has awaited r) (is_open && names parent r) (is_some (find revision_cmp r old)) (is_new is r) (sym (ap is_some t) ∙ b.known r) was_known
            ∙ sym (and-false (is_parent_in nodes r)) ∙ ap (λ f. is_parent_in nodes r && not (is_some f)) (sym t)

pub unsettled_open : (old nodes : List Node) (leaves : MarkedLeaves) (awaited now : List Revision) (is : List Insertion) (is_open : Bool) (parent : Option Revision)
    → is_open ≡ true → Awaits nodes parent awaited now → IsBetween old nodes leaves awaited is is_open parent → AreUnsettled nodes leaves now is
unsettled_open old nodes leaves awaited now is is_open parent so awaits b =
    unsettled old nodes leaves awaited now is is_open parent (λ r. awaits r ∙ ap (λ c. has awaited r || (c && names parent r && not (is_some (find revision_cmp r nodes)))) (sym so)) b

pub unsettled_closed : (old nodes : List Node) (leaves : MarkedLeaves) (awaited : List Revision) (is : List Insertion) (is_open : Bool) (parent : Option Revision)
    → is_open ≡ false → IsBetween old nodes leaves awaited is is_open parent → AreUnsettled nodes leaves awaited is
unsettled_closed old nodes leaves awaited is is_open parent so b =
    unsettled old nodes leaves awaited awaited is is_open parent (λ r. sym (or-false (has awaited r)) ∙ ap (λ c. has awaited r || (c && names parent r && not (is_some (find revision_cmp r nodes)))) (sym so)) b

pub settled : (nodes : List Node) (leaves after : MarkedLeaves) (awaited now : List Revision) (is : List Insertion)
    → LosesLeaves (is_followed is) leaves after → Loses (is_new is) awaited now → AreUnsettled nodes leaves awaited is → AreKept nodes after now
settled nodes leaves after awaited now is lost came u = record { in_order = u.in_order; ends = λ mark r. lost mark r ∙ u.ends mark r; missing = λ r. came r ∙ u.missing r }

pub gone_back : (old nodes restored : List Node) (leaves after : MarkedLeaves) (awaited : List Revision) (is : List Insertion)
    → IsTrue (is_sorted revision_cmp old) → restored ≡ nodes_before nodes is → LosesLeaves (is_new is) leaves after → CanGoBack old nodes leaves awaited is → AreKept restored after awaited
gone_back old nodes restored leaves after awaited is h taken lost b =
    subst (λ es. AreKept es after awaited) (sym (taken ∙ b.before)) (record { in_order = h; ends = λ mark r. lost mark r ∙ b.ends mark r; missing = b.missing })

pub one_gone : (is_gone : Revision → Bool) (leaves after : MarkedLeaves) → LosesLeaves is_gone leaves after → LosesLeaves (λ r. is_gone r || false) leaves after
one_gone is_gone leaves after lost mark r = lost mark r ∙ ap (λ c. has (leaves_with leaves mark) r && not c) (sym (or-false (is_gone r)))

pub one_lost : (is_gone : Revision → Bool) (old new : List Revision) → Loses is_gone old new → Loses (λ r. is_gone r || false) old new
one_lost is_gone old new lost r = lost r ∙ ap (λ c. has old r && not c) (sym (or-false (is_gone r)))

-- ---- one more is lost

pub lost_next : (now before gone rest all : Bool) → now ≡ (before && not gone) → (before && not (gone || rest)) ≡ all → (now && not rest) ≡ all
lost_next now before gone rest all is so = ap (λ c. c && not rest) is ∙ split before gone rest ∙ so
  where
    split : (a c d : Bool) → ((a && not c) && not d) ≡ (a && not (c || d))
    split true true d = refl
    split true false d = refl
    split false c d = refl

pub lost_last : (now before gone rest both all : Bool) → now ≡ (before && not gone) → both ≡ (rest || (gone || false)) → (before && not both) ≡ all → (now && not rest) ≡ all
lost_last now before gone rest both all is split so = lost_next now before gone rest all is (ap (λ c. before && not c) (turned gone rest ∙ sym split) ∙ so)
  where
    turned : (a c : Bool) → (a || c) ≡ (c || (a || false))
    turned true true = refl
    turned true false = refl
    turned false true = refl
    turned false false = refl

-- ---- those of a path that came in

-- one more is noted
pub insertions_in-push : (bs : List Bool) (path rest : List Revision) (b : Bool) (r : Revision) (parent : Option Revision) → drop (length bs) path ≡ r ∷ rest → insertions_in (bs ++ b ∷ []) path parent ≡ insertions_in bs path parent ++ insertions_of b r (next_of rest parent)
insertions_in-push [] path rest b r parent e = ap (λ (p : List Revision). insertions_in (b ∷ []) p parent) e ∙ append-nil (insertions_of b r (next_of rest parent))
insertions_in-push (c ∷ bs) [] rest b r parent e = cc
insertions_in-push (c ∷ bs) (s ∷ path) rest b r parent e =
    ap (λ is. insertions_of c s (next_of path parent) ++ is) (insertions_in-push bs path rest b r parent e)
    ∙ sym (append_assoc (insertions_of c s (next_of path parent)) (insertions_in bs path parent) (insertions_of b r (next_of rest parent)))

pub pushed : (bs cs : List Bool) (path : List Revision) (n : ℕ) (b : Bool) (r : Revision) (parent next : Option Revision) → length bs ≡ n → n < length path → r ≡ get_or path n r → next ≡ next_of (drop (n + 1) path) parent → cs ≡ bs ++ b ∷ []
    → insertions_in cs path parent ≡ insertions_in bs path parent ++ insertions_of b r next
pushed bs cs path n b r parent next len lt at up more =
    ap (λ (ds : List Bool). insertions_in ds path parent) more
    ∙ insertions_in-push bs path (drop (n + 1) path) b r parent (ap (λ k. drop k path) len ∙ drop_more path n r lt ∙ ap (λ s. s ∷ drop (n + 1) path) (sym at))
    ∙ ap (λ o. insertions_in bs path parent ++ insertions_of b r o) (sym up)

-- one less is left
insertions_rest : (bs : List Bool) (path : List Revision) (n : ℕ) (r : Revision) (parent next : Option Revision) → length bs ≡ length path → n < length path → r ≡ get_or path n r → next ≡ next_of (drop (n + 1) path) parent
    → insertions_in (drop n bs) (drop n path) parent ≡ insertions_of (get_or bs n false) r next ++ insertions_in (drop (n + 1) bs) (drop (n + 1) path) parent
insertions_rest bs path n r parent next len lt at up =
    let within : n < length bs = omega (arith, len) in
    let flags : drop n bs ≡ get_or bs n false ∷ drop (n + 1) bs = drop_more bs n false within in
    let revs : drop n path ≡ r ∷ drop (n + 1) path = drop_more path n r lt ∙ ap (λ s. s ∷ drop (n + 1) path) (sym at) in
    (λ i. insertions_in (flags i) (revs i) parent) ∙ ap (λ o. insertions_of (get_or bs n false) r o ++ insertions_in (drop (n + 1) bs) (drop (n + 1) path) parent) (sym up)

pub rest_came : (bs : List Bool) (path : List Revision) (n : ℕ) (r : Revision) (parent next : Option Revision) → length bs ≡ length path → n < length path → r ≡ get_or path n r → next ≡ next_of (drop (n + 1) path) parent → get_or bs n false ≡ true
    → insertions_in (drop n bs) (drop n path) parent ≡ (record { rev = r; parent = next }) ∷ insertions_in (drop (n + 1) bs) (drop (n + 1) path) parent
rest_came bs path n r parent next len lt at up so =
    insertions_rest bs path n r parent next len lt at up ∙ ap (λ c. insertions_of c r next ++ insertions_in (drop (n + 1) bs) (drop (n + 1) path) parent) so

pub rest_skipped : (bs : List Bool) (path : List Revision) (n : ℕ) (r : Revision) (parent : Option Revision) → length bs ≡ length path → n < length path → r ≡ get_or path n r → get_or bs n false ≡ false
    → insertions_in (drop n bs) (drop n path) parent ≡ insertions_in (drop (n + 1) bs) (drop (n + 1) path) parent
rest_skipped bs path n r parent len lt at so =
    insertions_rest bs path n r parent (next_of (drop (n + 1) path) parent) len lt at refl
    ∙ ap (λ c. insertions_of c r (next_of (drop (n + 1) path) parent) ++ insertions_in (drop (n + 1) bs) (drop (n + 1) path) parent) so

pub new_last : (all rest : List Insertion) (i : Insertion) (r : Revision) → all ≡ rest ++ i ∷ [] → is_new all r ≡ (is_new rest r || (eq_by_cmp revision_cmp i.rev r || false))
new_last all rest i r split = ap (λ js. is_new js r) split ∙ list_any-append (λ (j : Insertion). eq_by_cmp revision_cmp j.rev r) rest (i ∷ [])

-- nothing is left
pub none_left : (a : Bool) (is_one : List Insertion → Bool) (bs : List Bool) (path : List Revision) (parent : Option Revision) (n : ℕ) (all : Bool) → length bs ≡ length path → length path ≤ n → is_one [] ≡ false → (a && not (is_one (insertions_in (drop n bs) (drop n path) parent))) ≡ all → a ≡ all
none_left a is_one bs path parent n all len le empty so =
    let past : length bs ≤ n = omega (arith, len) in
    sym (ap (λ (cs : List Bool). a && not (is_one (insertions_in cs (drop n path) parent))) (drop_all n bs past) ∙ ap (λ c. a && not c) empty ∙ and-true a) ∙ so

-- the next of a path
pub next_is : (path : List Revision) (n : ℕ) (r : Revision) (parent : Option Revision) → n < length path → r ≡ get_or path n r → next_of (drop n path) parent ≡ Some r
next_is path n r parent lt at = ap (λ p. next_of p parent) (drop_more path n r lt) ∙ ap Some (sym at)

pub next_at_end : (path : List Revision) (n : ℕ) (parent : Option Revision) → length path ≤ n → next_of (drop n path) parent ≡ parent
next_at_end path n parent le = ap (λ p. next_of p parent) (drop_all n path le)

-- ---- what the sets answer, in these words

pub with_one : (b c d : Bool) → d ≡ cond b true c → d ≡ (b || c)
with_one true c d e = e
with_one false c d e = e

pub without_one : (b c d : Bool) → d ≡ cond b false c → d ≡ (c && not b)
without_one true c d e = e ∙ sym (and-false c)
without_one false c d e = e ∙ sym (and-true c)

pub awaits_new : (nodes : List Node) (old new : List Revision) (p : Revision) (o : Option Revision) → o ≡ Some p → find revision_cmp p nodes ≡ None → ((r : Revision) → has new r ≡ cond (eq_by_cmp revision_cmp p r) true (has old r)) → Awaits nodes o old new
awaits_new nodes old new p o is n put_in r =
    put_in r ∙ by (eq_by_cmp revision_cmp p r) refl (has old r) ∙ ap (λ q. has old r || (names q r && not (is_some (find revision_cmp r nodes)))) (sym is)
  where
    by : (b : Bool) → eq_by_cmp revision_cmp p r ≡ b → (c : Bool) → cond (eq_by_cmp revision_cmp p r) true c ≡ (c || (eq_by_cmp revision_cmp p r && not (is_some (find revision_cmp r nodes))))
    by true t c =
        ap (λ b. cond b true c) t ∙ sym (or-true c) ∙ ap (λ f. c || (true && not (is_some f))) (sym (ap (λ q. find revision_cmp q nodes) (sym (same p r t)) ∙ n))
        ∙ ap (λ b. c || (b && not (is_some (find revision_cmp r nodes)))) (sym t)
      where
        or-true : (a : Bool) → (a || true) ≡ true
        or-true true = refl
        or-true false = refl
    by false t c = ap (λ b. cond b true c) t ∙ sym (or-false c) ∙ ap (λ b. c || (b && not (is_some (find revision_cmp r nodes)))) (sym t)

pub awaits_known : (nodes : List Node) (old : List Revision) (p : Revision) (o : Option Revision) → o ≡ Some p → is_some (find revision_cmp p nodes) ≡ true → Awaits nodes o old old
awaits_known nodes old p o is known r =
    sym (or-false (has old r)) ∙ ap (λ c. has old r || c) (sym (by (eq_by_cmp revision_cmp p r) refl)) ∙ ap (λ q. has old r || (names q r && not (is_some (find revision_cmp r nodes)))) (sym is)
  where
    by : (b : Bool) → eq_by_cmp revision_cmp p r ≡ b → (eq_by_cmp revision_cmp p r && not (is_some (find revision_cmp r nodes))) ≡ false
    by true t = ap (λ b. b && not (is_some (find revision_cmp r nodes))) t ∙ ap (λ q. not (is_some (find revision_cmp q nodes))) (sym (same p r t)) ∙ ap not known
    by false t = ap (λ b. b && not (is_some (find revision_cmp r nodes))) t

-- ---- one alone

-- between the only node and its parent
pub came : (nodes new : List Node) (leaves after : MarkedLeaves) (awaited : List Revision) (r : Revision) (e : Entry) (came_in : Bool) → AreKept nodes leaves awaited
    → new ≡ nodes_with_new nodes r e → came_in ≡ not (is_some (find revision_cmp r nodes)) → AddsLeaf (is_new_leaf nodes awaited r false) (is_deleted e.held) r leaves after → came_in ≡ true → IsBetween nodes new after awaited (insertion_of r e ∷ []) true e.parent
came nodes new leaves after awaited r e came_in k put_in told adds so =
    step nodes nodes new leaves after awaited [] (insertion_of r e ∷ []) false true r e (Some r) refl put_in (sym so ∙ told) adds refl (start nodes leaves awaited (Some r) k)

-- what is left after an error
pub on_err : {X Y : Type 0} (result : Result X Y) (P : Type 0) → P → OnErr result P
on_err (Ok x) P p = tt
on_err (Err y) P p = p

-- one less that came in, or did not
pub popped : (cs bs : List Bool) (path : List Revision) (n : ℕ) (b : Bool) (r : Revision) (parent : Option Revision) → length bs ≡ n → n < length path → r ≡ get_or path n r → b ≡ true → cs ≡ bs ++ b ∷ []
    → insertions_in cs path parent ≡ insertions_in bs path parent ++ (record { rev = r; parent = next_of (drop (n + 1) path) parent }) ∷ []
popped cs bs path n b r parent len lt at so split =
    pushed bs cs path n b r parent (next_of (drop (n + 1) path) parent) len lt at refl split
    ∙ ap (λ c. insertions_in bs path parent ++ insertions_of c r (next_of (drop (n + 1) path) parent)) so

insertions_in-false : (bs : List Bool) (path : List Revision) (parent : Option Revision) → insertions_in (bs ++ false ∷ []) path parent ≡ insertions_in bs path parent
insertions_in-false [] [] parent = refl
insertions_in-false [] (r ∷ rest) parent = refl
insertions_in-false (c ∷ bs) [] parent = refl
insertions_in-false (c ∷ bs) (r ∷ rest) parent = ap (λ is. insertions_of c r (next_of rest parent) ++ is) (insertions_in-false bs rest parent)

pub skipped : (cs bs : List Bool) (path : List Revision) (b : Bool) (parent : Option Revision) → b ≡ false → cs ≡ bs ++ b ∷ [] → insertions_in cs path parent ≡ insertions_in bs path parent
skipped cs bs path b parent so split =
    ap (λ (ds : List Bool). insertions_in ds path parent) split ∙ ap (λ c. insertions_in (bs ++ c ∷ []) path parent) so ∙ insertions_in-false bs path parent

pub shorter : (cs bs : List Bool) (b : Bool) → cs ≡ bs ++ b ∷ [] → length cs ≡ length bs + 1
shorter cs bs b split = let a : length cs ≡ length (bs ++ b ∷ []) = ap (λ (ds : List Bool). length ds) split in let d = length-append bs (b ∷ []) in omega arith
