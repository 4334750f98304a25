-- One more write after a lawful list: which writes go on lawfully, and what the content then shows.
use Rattle.std.proofs.Common.{◌≡◌, ◌⊎◌, suc, ◌≤◌, Bool, true, false, cond, not, eqb, eqb-true, List, [], ◌∷◌, ◌++◌, length, Option, Some, None, Ok, Err, refl, sym, ap, subst, ◌∙◌, arith, inl, inr, length-append, append_assoc}
use Rattle.std.proofs.lemmas.Bool.{false≢true}
use Rattle.std.specs.FinMap.{get}
use Rattle.tree.specs.Revision.{Revision}
use Rattle.tree.specs.Write.{Write, is_whole_path, counts_down, head, IsBehind, IsKnown, IsParent, AreWhole, AreLawfulWrites}
use Rattle.tree.specs.History.{HistoryContent, is_known, same_parent, agrees, keeps_parents, is_head_known, placement, content_of, with_write, IsWithWrite}
use Rattle.tree.specs.declared.entry.Entry.{Entry}
use Rattle.tree.specs.declared.placement.Placed.{Placed}
use Rattle.tree.specs.declared.placement.Placed.TheVariants.{Added, Known}
use Rattle.tree.specs.declared.placement.TreeFault.TheVariants.{BadPath, OtherParent}
use Rattle.tree.proofs.Revisions.{same, tied}
use Rattle.tree.proofs.RevisionText.{parts}
use Rattle.tree.proofs.Contents.{one_more_write}
use Rattle.tree.proofs.Shown.{is_known_writes, parent_below, parent_is, root_number, entry_of_known, whole_counts}

-- ---- lists with one more at the end

pub whole_more : (ws : List Write) (w : Write) → AreWhole ws → is_whole_path w.path ≡ true → AreWhole (ws ++ w ∷ [])
whole_more [] w h k = (k, tt)
whole_more (v ∷ ws) w h k = (h.0, whole_more ws w h.1 k)

whole_front : (ws vs : List Write) → AreWhole (ws ++ vs) → AreWhole ws
whole_front [] vs h = tt
whole_front (w ∷ ws) vs h = (h.0, whole_front ws vs h.1)

whole_last : (ws : List Write) (w : Write) → AreWhole (ws ++ w ∷ []) → is_whole_path w.path ≡ true
whole_last [] w h = h.0
whole_last (v ∷ ws) w h = whole_last ws w h.1

parent_more : (ws : List Write) (w : Write) (r p : Revision) → IsParent (ws ++ w ∷ []) r p → IsParent ws r p ⊎ IsBehind w.path r p
parent_more [] w r p (inl b) = inr b
parent_more [] w r p (inr b) = elim b [ ]
parent_more (v ∷ ws) w r p (inl b) = inl (inl b)
parent_more (v ∷ ws) w r p (inr b) = elim (parent_more ws w r p b) as (λ _. IsParent (v ∷ ws) r p ⊎ IsBehind w.path r p) [ inl k ↦ inl (inr k) | inr k ↦ inr k ]

parent_kept : (ws vs : List Write) (r p : Revision) → IsParent ws r p → IsParent (ws ++ vs) r p
parent_kept [] vs r p b = elim b [ ]
parent_kept (w ∷ ws) vs r p (inl b) = inl b
parent_kept (w ∷ ws) vs r p (inr b) = inr (parent_kept ws vs r p b)

parent_last : (ws : List Write) (w : Write) (r p : Revision) → IsBehind w.path r p → IsParent (ws ++ w ∷ []) r p
parent_last [] w r p b = inl b
parent_last (v ∷ ws) w r p b = inr (parent_last ws w r p b)

-- where a write stands in a list with one more at its end: last, or before
split_last : (before after ws : List Write) (v w : Write) → before ++ v ∷ after ≡ ws ++ w ∷ [] → ((before ≡ ws) × (v ≡ w)) ⊎ ((rest : List Write) × (before ++ v ∷ rest ≡ ws))
split_last [] after [] v w e = inl (refl, cc)
split_last [] after (x ∷ ws) v w e = let h : v ≡ x = cc in inr (ws, ap (λ y. y ∷ ws) h)
split_last (b ∷ before) after [] v w e =
    let t : before ++ v ∷ after ≡ [] = cc in
    let n : length (before ++ v ∷ after) ≡ 0 = ap (λ xs. length xs) t in
    absurd (omega (arith, n, length-append before (v ∷ after)))
split_last (b ∷ before) after (x ∷ ws) v w e =
    let h : b ≡ x = cc in
    let t : before ++ v ∷ after ≡ ws ++ w ∷ [] = cc in
    elim (split_last before after ws v w t) as (λ _. ((b ∷ before ≡ x ∷ ws) × (v ≡ w)) ⊎ ((rest : List Write) × ((b ∷ before) ++ v ∷ rest ≡ x ∷ ws))) [
      | inl k ↦ inl ((λ i. h i ∷ k.0 i), k.1)
      | inr k ↦ inr (k.0, λ i. h i ∷ k.1 i)
    ]

-- ---- one path

first_number : (s : Revision) (path : List Revision) → counts_down (s ∷ path) ≡ true → s.number ≡ suc (length path)
first_number s path w = eqb-true s.number (suc (length path)) (parts (eqb s.number (suc (length path))) (counts_down path) w).0

rest_counts : (s : Revision) (path : List Revision) → counts_down (s ∷ path) ≡ true → counts_down path ≡ true
rest_counts s path w = (parts (eqb s.number (suc (length path))) (counts_down path) w).1

-- a revision stands once in a whole path, so one revision is behind it
low_in_path : (path : List Revision) (r p : Revision) → counts_down path ≡ true → IsBehind path r p → r.number ≤ length path
low_in_path [] r p w b = elim b [ ]
low_in_path (s ∷ path) r p w (inl b) = let n : s.number ≡ suc (length path) = first_number s path w in let m = ap (λ (x : Revision). x.number) b.0 in omega (arith, n, m)
low_in_path (s ∷ path) r p w (inr b) = let n : r.number ≤ length path = low_in_path path r p (rest_counts s path w) b in omega (arith, n)

once : (path : List Revision) (r p q : Revision) → counts_down path ≡ true → IsBehind path r p → IsBehind path r q → p ≡ q
once [] r p q w b c = elim b [ ]
once (s ∷ path) r p q w (inl b) (inl c) = let e : Some p ≡ Some q = sym b.1 ∙ c.1 in cc
once (s ∷ path) r p q w (inl b) (inr c) =
    let n = first_number s path w in
    let m = ap (λ (x : Revision). x.number) b.0 in
    let l : r.number ≤ length path = low_in_path path r q (rest_counts s path w) c in
    absurd (omega (arith, n, m, l))
once (s ∷ path) r p q w (inr b) (inl c) =
    let n = first_number s path w in
    let m = ap (λ (x : Revision). x.number) c.0 in
    let l : r.number ≤ length path = low_in_path path r p (rest_counts s path w) b in
    absurd (omega (arith, n, m, l))
once (s ∷ path) r p q w (inr b) (inr c) = once path r p q (rest_counts s path w) b c

pub same_parent_is : (o p : Option Revision) → same_parent o p ≡ true → o ≡ p
same_parent_is None None e = refl
same_parent_is None (Some q) e = cc
same_parent_is (Some p) None e = cc
same_parent_is (Some p) (Some q) e = ap Some (same p q e)

is_same_parent : (o p : Option Revision) → o ≡ p → same_parent o p ≡ true
is_same_parent None None e = refl
is_same_parent None (Some q) e = cc
is_same_parent (Some p) None e = cc
is_same_parent (Some p) (Some q) e = let i : p ≡ q = cc in tied p q i

-- what a path that keeps parents says of a known revision
pub kept_parent : (h : HistoryContent) (path : List Revision) (r p : Revision) (e : Entry) → keeps_parents h path ≡ true → IsBehind path r p → get h r ≡ Some e → e.parent ≡ Some p
kept_parent h [] r p e k b g = elim b [ ]
kept_parent h (s ∷ path) r p e k (inl b) g =
    let a = (parts _ _ k).0 in
    let there : get h s ≡ Some e = ap (get h) b.0 ∙ g in
    same_parent_is e.parent (head path) (ap (λ o. agrees o (head path)) (sym there) ∙ a) ∙ b.1
kept_parent h (s ∷ path) r p e k (inr b) g = kept_parent h path r p e (parts _ _ k).1 b g

-- ---- what is added goes on lawfully

-- what `Added` means
pub record IsAdded (h : HistoryContent) (path : List Revision) : Type 0 where
  pub whole : is_whole_path path ≡ true
  pub keeps : keeps_parents h path ≡ true
  pub new : is_head_known h path ≡ false

pub added_is : (h : HistoryContent) (path : List Revision) → placement h path ≡ Ok Added → IsAdded h path
added_is h path e = by (is_whole_path path) (keeps_parents h path) (is_head_known h path) refl refl refl e
  where
    by : (a b c : Bool) → is_whole_path path ≡ a → keeps_parents h path ≡ b → is_head_known h path ≡ c → cond (not a) (Err BadPath) (cond (not b) (Err OtherParent) (cond c (Ok Known) (Ok Added))) ≡ Ok Added → IsAdded h path
    by true true true x y z e = cc
    by true true false x y z e = record { whole = x; keeps = y; new = z }
    by true false c x y z e = cc
    by false b c x y z e = cc

pub keeps_where_placed : (h : HistoryContent) (path : List Revision) (p : Placed) → placement h path ≡ Ok p → keeps_parents h path ≡ true
keeps_where_placed h path p e = by (is_whole_path path) (keeps_parents h path) refl refl e
  where
    by : (a b : Bool) → is_whole_path path ≡ a → keeps_parents h path ≡ b → cond (not a) (Err BadPath) (cond (not b) (Err OtherParent) (cond (is_head_known h path) (Ok Known) (Ok Added))) ≡ Ok p → keeps_parents h path ≡ true
    by true true x y z = y
    by true false x y z = cc
    by false b x y z = cc

is_added : (h : HistoryContent) (path : List Revision) → IsAdded h path → placement h path ≡ Ok Added
is_added h path a = rw (a.whole, a.keeps, a.new) refl

new_head : (h : HistoryContent) (path : List Revision) (r : Revision) → head path ≡ Some r → is_head_known h path ≡ is_known h r
new_head h [] r e = cc
new_head h (s ∷ path) r e = let i : s ≡ r = cc in ap (is_known h) i

pub added_goes_on : (ws : List Write) (w : Write) → AreLawfulWrites ws → placement (content_of ws) w.path ≡ Ok Added → AreLawfulWrites (ws ++ w ∷ [])
added_goes_on ws w lawful e = record { whole = whole_more ws w lawful.whole a.whole; heads_new = heads; one_parent = one }
  where
    a : IsAdded (content_of ws) w.path
    a = added_is (content_of ws) w.path e

    heads : (before after : List Write) (v : Write) (r : Revision) → before ++ v ∷ after ≡ ws ++ w ∷ [] → head v.path ≡ Some r → ¬ (IsKnown before r)
    heads before after v r s h known =
        elim (split_last before after ws v w s) as (λ _. ⊥) [
          | inl k ↦
              let head_w : head w.path ≡ Some r = ap (λ (x : Write). head x.path) (sym k.1) ∙ h in
              let known_ws : IsKnown ws r = subst (λ (xs : List Write). IsKnown xs r) k.0 known in
              false≢true (sym a.new ∙ new_head (content_of ws) w.path r head_w ∙ (is_known_writes ws r).1 known_ws)
          | inr k ↦ lawful.heads_new before k.0 v r k.1 h known
        ]

    mixed : (r p q : Revision) → IsParent ws r p → IsBehind w.path r q → p ≡ q
    mixed r p q b c =
        let known = (is_known_writes ws r).1 (parent_below ws r p lawful.whole b).child_known in
        let g = entry_of_known (content_of ws) r known in
        let up = kept_parent (content_of ws) w.path r q g.0 a.keeps c g.1 in
        lawful.one_parent r p q b (parent_is ws r q g.0 g.1 up)

    both : (r p q : Revision) → IsParent ws r p ⊎ IsBehind w.path r p → IsParent ws r q ⊎ IsBehind w.path r q → p ≡ q
    both r p q (inl b) (inl c) = lawful.one_parent r p q b c
    both r p q (inl b) (inr c) = mixed r p q b c
    both r p q (inr b) (inl c) = sym (mixed r q p c b)
    both r p q (inr b) (inr c) = once w.path r p q (whole_counts w.path a.whole) b c

    one : (r p q : Revision) → IsParent (ws ++ w ∷ []) r p → IsParent (ws ++ w ∷ []) r q → p ≡ q
    one r p q b c = both r p q (parent_more ws w r p b) (parent_more ws w r q c)

-- ---- and what goes on lawfully is added

-- a path keeps parents where no revision of it has another one among the writes
module _ (ws : List Write) (whole : AreWhole ws) where
  agreed : (r : Revision) (next : Option Revision) → ((p q : Revision) → IsParent ws r p → next ≡ Some q → p ≡ q) → ((p : Revision) → next ≡ Some p → (2 ≤ r.number)) → (next ≡ None → r.number ≡ 1) → (e : Entry) → get (content_of ws) r ≡ Some e → (o : Option Revision) → e.parent ≡ o → o ≡ next
  agreed r None one high low e g None is = refl
  agreed r None one high low e g (Some q) is =
      let b = parent_below ws r q whole (parent_is ws r q e g is) in
      let n = low refl in
      absurd (omega (arith, n, b.number, b.positive))
  agreed r (Some p) one high low e g None is =
      let n = root_number ws r e whole g is in
      let m = high p refl in
      absurd (omega (arith, n, m))
  agreed r (Some p) one high low e g (Some q) is = ap Some (one q p (parent_is ws r q e g is) refl)

  step : (r : Revision) (rest : List Revision) (o : Option Entry) → get (content_of ws) r ≡ o → counts_down (r ∷ rest) ≡ true → ((p q : Revision) → IsParent ws r p → head rest ≡ Some q → p ≡ q) → agrees o (head rest) ≡ true
  step r rest None g c one = refl
  step r rest (Some e) g c one =
      let n = eqb-true r.number (suc (length rest)) (parts _ _ c).0 in
      is_same_parent e.parent (head rest) (agreed r (head rest) one (λ p h. high rest p h n) (λ h. low rest h n) e g e.parent refl)
    where
      high : (rest : List Revision) (p : Revision) → head rest ≡ Some p → r.number ≡ suc (length rest) → 2 ≤ r.number
      high [] p h n = cc
      high (s ∷ rest) p h n = omega (arith, n)

      low : (rest : List Revision) → head rest ≡ None → r.number ≡ suc (length rest) → r.number ≡ 1
      low [] h n = n
      low (s ∷ rest) h n = cc

  pub keeps_where_one_parent : (path : List Revision) → counts_down path ≡ true → ((r p q : Revision) → IsParent ws r p → IsBehind path r q → p ≡ q) → keeps_parents (content_of ws) path ≡ true
  keeps_where_one_parent [] c one = refl
  keeps_where_one_parent (r ∷ path) c one =
      let a = step r path (get (content_of ws) r) refl c (λ p q b h. one r p q b (inl (refl, h))) in
      let b = keeps_where_one_parent path (parts _ _ c).1 (λ s p q k i. one s p q k (inr i)) in
      rw (a, b) refl

pub lawful_front : (ws vs : List Write) → AreLawfulWrites (ws ++ vs) → AreLawfulWrites ws
lawful_front ws vs lawful = record { whole = whole_front ws vs lawful.whole; heads_new = heads; one_parent = λ r p q b c. lawful.one_parent r p q (parent_kept ws vs r p b) (parent_kept ws vs r q c) }
  where
    heads : (before after : List Write) (v : Write) (r : Revision) → before ++ v ∷ after ≡ ws → head v.path ≡ Some r → ¬ (IsKnown before r)
    heads before after v r s h = lawful.heads_new before (after ++ vs) v r (sym (append_assoc before (v ∷ after) vs) ∙ ap (λ xs. xs ++ vs) s) h

pub goes_on_added : (ws : List Write) (w : Write) → AreLawfulWrites (ws ++ w ∷ []) → placement (content_of ws) w.path ≡ Ok Added
goes_on_added ws w lawful = is_added (content_of ws) w.path (record { whole = whole; keeps = keeps_where_one_parent ws front.whole w.path (whole_counts w.path whole) (λ r p q b c. lawful.one_parent r p q (parent_kept ws (w ∷ []) r p b) (parent_last ws w r q c)); new = new })
  where
    front : AreLawfulWrites ws
    front = lawful_front ws (w ∷ []) lawful

    whole : is_whole_path w.path ≡ true
    whole = whole_last ws w lawful.whole

    new_at : (path : List Revision) (o : Option Revision) → head path ≡ o → head w.path ≡ o → is_head_known (content_of ws) path ≡ false
    new_at [] o h k = refl
    new_at (r ∷ path) o h k = by (is_known (content_of ws) r) refl
      where
        by : (b : Bool) → is_known (content_of ws) r ≡ b → is_known (content_of ws) r ≡ false
        by true is = absurd (lawful.heads_new ws [] w r refl (k ∙ sym h) ((is_known_writes ws r).0 is))
        by false is = is

    new : is_head_known (content_of ws) w.path ≡ false
    new = new_at w.path (head w.path) refl refl

-- a write that was added goes on with whatever lawful list stands behind the content
pub goes_on : (old : HistoryContent) (w : Write) (new : HistoryContent) → placement old w.path ≡ Ok Added → new ≡ with_write old w → IsWithWrite old w new
goes_on old w new added is ws lawful behind = (
  added_goes_on ws w lawful (ap (λ (h : HistoryContent). placement h w.path) (sym behind) ∙ added),
  is ∙ ap (λ (h : HistoryContent). with_write h w) behind ∙ sym (one_more_write ws w),
)
