-- The content of a lawful list of writes shows just what is known by the writes.
use Rattle.std.proofs.Common.{◌≡◌, ◌⊎◌, suc, ◌≤◌, true, false, cond, eqb-true, List, [], ◌∷◌, ◌++◌, length, Option, Some, None, refl, sym, ap, subst, ◌∙◌, arith, inl, inr}
use Rattle.std.specs.Prelude.{IsTrue, is_some, option_and_then, flat_map, ◌↔◌}
use Rattle.std.specs.Ordering.{eq_by_cmp}
use Rattle.std.specs.FinMap.{find, get}
use Rattle.tree.specs.Revision.{Revision, revision_cmp}
use Rattle.tree.specs.Write.{Write, is_whole_path, counts_down, head, held_of_write, StandsIn, IsBehind, IsKnown, IsParent, IsBrought, AreWhole, AreLawfulWrites}
use Rattle.tree.specs.History.{HistoryContent, is_known, parent_of, held_of, path_entries, write_entries, content_of, Shows}
use Rattle.tree.specs.declared.entry.Held.{Held}
use Rattle.tree.specs.declared.entry.Entry.{Entry}
use Rattle.tree.proofs.Revisions.{same, tied}
use Rattle.tree.proofs.RevisionText.{parts}
use Rattle.tree.proofs.Contents.{or, find-append, get-content}

-- ---- one path

pub stands_found : (path : List Revision) (d : Option Held) (r : Revision) → StandsIn path r → is_some (find revision_cmp r (path_entries d path)) ≡ true
stands_found [] d r h = elim h [ ]
stands_found (s ∷ path) d r (inl e) = ap (λ b. is_some (cond b (Some (record { parent = head path; held = d })) (find revision_cmp r (path_entries None path)))) (tied r s (sym e))
stands_found (s ∷ path) d r (inr h) =
    elim (eq_by_cmp revision_cmp r s) as (λ b. is_some (cond b (Some (record { parent = head path; held = d })) (find revision_cmp r (path_entries None path))) ≡ true) [
      | true ↦ refl
      | false ↦ stands_found path None r h
    ]

pub found_stands : (path : List Revision) (d : Option Held) (r : Revision) → is_some (find revision_cmp r (path_entries d path)) ≡ true → StandsIn path r
found_stands [] d r h = cc
found_stands (s ∷ path) d r h =
    elim (eq_by_cmp revision_cmp r s) as (λ b. eq_by_cmp revision_cmp r s ≡ b → is_some (cond b (Some (record { parent = head path; held = d })) (find revision_cmp r (path_entries None path))) ≡ true → StandsIn (s ∷ path) r) [
      | true ↦ λ e k. inl (sym (same r s e))
      | false ↦ λ e k. inr (found_stands path None r k)
    ] refl h

pub inside : {X : Type 0} (x y : X) → Some x ≡ Some y → x ≡ y
inside x y e = cc

parent_behind : (path : List Revision) (d : Option Held) (r p : Revision) (e : Entry) → find revision_cmp r (path_entries d path) ≡ Some e → e.parent ≡ Some p → IsBehind path r p
parent_behind [] d r p e h up = cc
parent_behind (s ∷ path) d r p e h up =
    elim (eq_by_cmp revision_cmp r s) as (λ b. eq_by_cmp revision_cmp r s ≡ b → cond b (Some (record { parent = head path; held = d })) (find revision_cmp r (path_entries None path)) ≡ Some e → IsBehind (s ∷ path) r p) [
      | true ↦ λ t k. inl (sym (same r s t), ap (λ (x : Entry). x.parent) (inside _ e k) ∙ up)
      | false ↦ λ t k. inr (parent_behind path None r p e k up)
    ] refl h

no_head : (path : List Revision) → head path ≡ None → length path ≡ 0
no_head [] e = refl
no_head (s ∷ path) e = cc

root_last : (path : List Revision) (d : Option Held) (r : Revision) (e : Entry) → counts_down path ≡ true → find revision_cmp r (path_entries d path) ≡ Some e → e.parent ≡ None → r.number ≡ 1
root_last [] d r e w h up = cc
root_last (s ∷ path) d r e w h up =
    elim (eq_by_cmp revision_cmp r s) as (λ b. eq_by_cmp revision_cmp r s ≡ b → cond b (Some (record { parent = head path; held = d })) (find revision_cmp r (path_entries None path)) ≡ Some e → r.number ≡ 1) [
      | true ↦ λ t k.
          let last = no_head path (ap (λ (x : Entry). x.parent) (inside _ e k) ∙ up) in
          let n = eqb-true s.number (suc (length path)) (parts _ _ w).0 in
          ap (λ (x : Revision). x.number) (same r s t) ∙ n ∙ ap suc last
      | false ↦ λ t k. root_last path None r e (parts _ _ w).1 k up
    ] refl h

inner_unheld : (path : List Revision) (r : Revision) (e : Entry) → find revision_cmp r (path_entries None path) ≡ Some e → e.held ≡ None
inner_unheld [] r e h = cc
inner_unheld (s ∷ path) r e h =
    elim (eq_by_cmp revision_cmp r s) as (λ b. cond b (Some (record { parent = head path; held = None })) (find revision_cmp r (path_entries None path)) ≡ Some e → e.held ≡ None) [
      | true ↦ λ k. sym (ap (λ (x : Entry). x.held) (inside _ e k))
      | false ↦ λ k. inner_unheld path r e k
    ] h

held_head : (path : List Revision) (d : Option Held) (r : Revision) (e : Entry) (g : Held) → find revision_cmp r (path_entries d path) ≡ Some e → e.held ≡ Some g → (head path ≡ Some r) × (d ≡ Some g)
held_head [] d r e g h k = cc
held_head (s ∷ path) d r e g h k =
    elim (eq_by_cmp revision_cmp r s) as (λ b. eq_by_cmp revision_cmp r s ≡ b → cond b (Some (record { parent = head path; held = d })) (find revision_cmp r (path_entries None path)) ≡ Some e → (Some s ≡ Some r) × (d ≡ Some g)) [
      | true ↦ λ t f. (ap Some (sym (same r s t)), ap (λ (x : Entry). x.held) (inside _ e f) ∙ k)
      | false ↦ λ t f. let n = inner_unheld path r e f in cc
    ] refl h

head_found : (path : List Revision) (d : Option Held) (r : Revision) → head path ≡ Some r → (e : Entry) × (find revision_cmp r (path_entries d path) ≡ Some e) × (e.held ≡ d)
head_found [] d r h = cc
head_found (s ∷ path) d r h =
    (record { parent = head path; held = d }, ap (λ b. cond b (Some (record { parent = head path; held = d })) (find revision_cmp r (path_entries None path))) (tied r s (sym (inside s r h))), refl)

pub record Below (path : List Revision) (r p : Revision) : Type 0 where
  pub number : r.number ≡ suc p.number
  pub positive : 1 ≤ p.number
  pub stands : StandsIn path p

below_head : (s : Revision) (path : List Revision) (p : Revision) → s.number ≡ suc (length path) → counts_down path ≡ true → head path ≡ Some p → Below path s p
below_head s [] p n w h = cc
below_head s (q ∷ path) p n w h =
    let is = inside q p h in
    let m : q.number ≡ suc (length path) = eqb-true q.number (suc (length path)) (parts _ _ w).0 in
    let k : p.number ≡ suc (length path) = ap (λ (x : Revision). x.number) (sym is) ∙ m in
    record { number = omega (arith, n, k); positive = omega (arith, k); stands = inl is }

pub behind_below : (path : List Revision) (r p : Revision) → counts_down path ≡ true → IsBehind path r p → Below path r p
behind_below [] r p w b = elim b [ ]
behind_below (s ∷ path) r p w (inl b) =
    let n : s.number ≡ suc (length path) = eqb-true s.number (suc (length path)) (parts _ _ w).0 in
    let k = below_head s path p n (parts _ _ w).1 b.1 in
    record { number = ap (λ (x : Revision). x.number) (sym b.0) ∙ k.number; positive = k.positive; stands = inr k.stands }
behind_below (s ∷ path) r p w (inr b) =
    let k = behind_below path r p (parts _ _ w).1 b in
    record { number = k.number; positive = k.positive; stands = inr k.stands }

pub whole_counts : (path : List Revision) → is_whole_path path ≡ true → counts_down path ≡ true
whole_counts [] h = refl
whole_counts (r ∷ path) h = h

-- ---- a list of writes

either : {X : Type 0} (a b : Option X) → is_some (or a b) ≡ true → (is_some a ≡ true) ⊎ (is_some b ≡ true)
either None b h = inr h
either (Some x) b h = inl refl

pub left_some : {X : Type 0} (a b : Option X) → is_some a ≡ true → is_some (or a b) ≡ true
left_some None b h = cc
left_some (Some x) b h = refl

pub right_some : {X : Type 0} (a b : Option X) → is_some b ≡ true → is_some (or a b) ≡ true
right_some None b h = h
right_some (Some x) b h = refl

pub known_found : (ws : List Write) (r : Revision) → IsKnown ws r → is_some (find revision_cmp r (flat_map write_entries ws)) ≡ true
known_found [] r h = elim h [ ]
known_found (w ∷ ws) r (inl h) = ap is_some (find-append r (write_entries w) (flat_map write_entries ws)) ∙ left_some _ _ (stands_found w.path (Some (held_of_write w)) r h)
known_found (w ∷ ws) r (inr h) = ap is_some (find-append r (write_entries w) (flat_map write_entries ws)) ∙ right_some (find revision_cmp r (write_entries w)) _ (known_found ws r h)

pub found_known : (ws : List Write) (r : Revision) → is_some (find revision_cmp r (flat_map write_entries ws)) ≡ true → IsKnown ws r
found_known [] r h = cc
found_known (w ∷ ws) r h =
    elim (either (find revision_cmp r (write_entries w)) (find revision_cmp r (flat_map write_entries ws)) (ap is_some (sym (find-append r (write_entries w) (flat_map write_entries ws))) ∙ h)) as (λ _. IsKnown (w ∷ ws) r) [
      | inl k ↦ inl (found_stands w.path (Some (held_of_write w)) r k)
      | inr k ↦ inr (found_known ws r k)
    ]

pub is_known_writes : (ws : List Write) (r : Revision) → IsTrue (is_known (content_of ws) r) ↔ IsKnown ws r
is_known_writes ws r = (λ h. found_known ws r (ap is_some (sym (get-content ws r)) ∙ h), λ h. ap is_some (get-content ws r) ∙ known_found ws r h)

-- the write whose path is the first in which r stands
pub record Source (ws : List Write) (r : Revision) (e : Entry) : Type 0 where
  pub before : List Write
  pub after : List Write
  pub write : Write
  pub split : before ++ write ∷ after ≡ ws
  pub found : find revision_cmp r (write_entries write) ≡ Some e

source : (ws : List Write) (r : Revision) (e : Entry) → find revision_cmp r (flat_map write_entries ws) ≡ Some e → Source ws r e
source [] r e h = cc
source (w ∷ ws) r e h = by (λ k. source ws r e k) (find revision_cmp r (write_entries w)) refl (sym (find-append r (write_entries w) (flat_map write_entries ws)) ∙ h)
  where
    by : (find revision_cmp r (flat_map write_entries ws) ≡ Some e → Source ws r e) → (o : Option Entry) → find revision_cmp r (write_entries w) ≡ o → or (find revision_cmp r (write_entries w)) (find revision_cmp r (flat_map write_entries ws)) ≡ Some e → Source (w ∷ ws) r e
    by later None is k =
        let s = later (ap (λ o. or o (find revision_cmp r (flat_map write_entries ws))) (sym is) ∙ k) in
        record { before = w ∷ s.before; after = s.after; write = s.write; split = ap (λ xs. w ∷ xs) s.split; found = s.found }
    by later (Some x) is k =
        let is_e : Some x ≡ Some e = ap (λ o. or o (find revision_cmp r (flat_map write_entries ws))) (sym is) ∙ k in
        record { before = []; after = ws; write = w; split = refl; found = is ∙ is_e }

pub parent_at : (before after : List Write) (w : Write) (r p : Revision) → IsBehind w.path r p → IsParent (before ++ w ∷ after) r p
parent_at [] after w r p b = inl b
parent_at (v ∷ before) after w r p b = inr (parent_at before after w r p b)

brought_at : (before after : List Write) (w : Write) (r : Revision) (d : Held) → head w.path ≡ Some r → held_of_write w ≡ d → IsBrought (before ++ w ∷ after) r d
brought_at [] after w r d h e = inl (h, e)
brought_at (v ∷ before) after w r d h e = inr (brought_at before after w r d h e)

pub whole_at : (before after : List Write) (w : Write) → AreWhole (before ++ w ∷ after) → is_whole_path w.path ≡ true
whole_at [] after w h = h.0
whole_at (v ∷ before) after w h = whole_at before after w h.1

-- what a parent among the writes tells
pub record IsParentBelow (ws : List Write) (r p : Revision) : Type 0 where
  pub number : r.number ≡ suc p.number
  pub positive : 1 ≤ p.number
  pub child_known : IsKnown ws r
  pub known : IsKnown ws p

pub stands_behind : (path : List Revision) (r p : Revision) → IsBehind path r p → StandsIn path r
stands_behind [] r p b = elim b [ ]
stands_behind (s ∷ path) r p (inl b) = inl b.0
stands_behind (s ∷ path) r p (inr b) = inr (stands_behind path r p b)

pub parent_below : (ws : List Write) (r p : Revision) → AreWhole ws → IsParent ws r p → IsParentBelow ws r p
parent_below [] r p w h = elim h [ ]
parent_below (v ∷ ws) r p w (inl b) =
    let k = behind_below v.path r p (whole_counts v.path w.0) b in
    record { number = k.number; positive = k.positive; child_known = inl (stands_behind v.path r p b); known = inl k.stands }
parent_below (v ∷ ws) r p w (inr b) =
    let k = parent_below ws r p w.1 b in
    record { number = k.number; positive = k.positive; child_known = inr k.child_known; known = inr k.known }

pub entry_of_known : (h : HistoryContent) (r : Revision) → is_some (get h r) ≡ true → (e : Entry) × (get h r ≡ Some e)
entry_of_known h r k = by (get h r) refl k
  where
    by : (o : Option Entry) → get h r ≡ o → is_some o ≡ true → (e : Entry) × (get h r ≡ Some e)
    by None is t = cc
    by (Some e) is t = (e, is)

pub parent_is : (ws : List Write) (r p : Revision) (e : Entry) → get (content_of ws) r ≡ Some e → e.parent ≡ Some p → IsParent ws r p
parent_is ws r p e g up =
    let s = source ws r e (sym (get-content ws r) ∙ g) in
    subst (λ xs. IsParent xs r p) s.split (parent_at s.before s.after s.write r p (parent_behind s.write.path _ r p e s.found up))

pub root_number : (ws : List Write) (r : Revision) (e : Entry) → AreWhole ws → get (content_of ws) r ≡ Some e → e.parent ≡ None → r.number ≡ 1
root_number ws r e w g up =
    let s = source ws r e (sym (get-content ws r) ∙ g) in
    root_last s.write.path _ r e (whole_counts s.write.path (whole_at s.before s.after s.write (subst AreWhole (sym s.split) w))) s.found up

from_entry : {X : Type 0} (h : HistoryContent) (r : Revision) (f : Entry → Option X) (x : X) → option_and_then f (get h r) ≡ Some x → (e : Entry) × (get h r ≡ Some e) × (f e ≡ Some x)
from_entry {X} h r f x k = by (get h r) refl k
  where
    by : (o : Option Entry) → get h r ≡ o → option_and_then f o ≡ Some x → (e : Entry) × (get h r ≡ Some e) × (f e ≡ Some x)
    by None is t = cc
    by (Some e) is t = (e, is, t)

parents_shown : (ws : List Write) → AreLawfulWrites ws → (r p : Revision) → (parent_of (content_of ws) r ≡ Some p) ↔ IsParent ws r p
parents_shown ws lawful r p = (there, back)
  where
    there : parent_of (content_of ws) r ≡ Some p → IsParent ws r p
    there k = let e = from_entry (content_of ws) r (λ (x : Entry). x.parent) p k in parent_is ws r p e.0 e.1 e.2

    with_parent : IsParent ws r p → (e : Entry) (o : Option Revision) → get (content_of ws) r ≡ Some e → e.parent ≡ o → o ≡ Some p
    with_parent k e None g up =
        let one = root_number ws r e lawful.whole g up in
        let b = parent_below ws r p lawful.whole k in
        absurd (omega (arith, one, b.number, b.positive))
    with_parent k e (Some q) g up = ap Some (lawful.one_parent r q p (parent_is ws r q e g up) k)

    back : IsParent ws r p → parent_of (content_of ws) r ≡ Some p
    back k =
        let known = (is_known_writes ws r).1 (parent_below ws r p lawful.whole k).child_known in
        let e = entry_of_known (content_of ws) r known in
        ap (option_and_then (λ (x : Entry). x.parent)) e.1 ∙ with_parent k e.0 e.0.parent e.1 refl

-- the write that brings something for r
record Bringer (ws : List Write) (r : Revision) (d : Held) : Type 0 where
  before : List Write
  after : List Write
  write : Write
  split : before ++ write ∷ after ≡ ws
  is_head : head write.path ≡ Some r
  brings : held_of_write write ≡ d

bringer : (ws : List Write) (r : Revision) (d : Held) → IsBrought ws r d → Bringer ws r d
bringer [] r d h = elim h [ ]
bringer (w ∷ ws) r d (inl h) = record { before = []; after = ws; write = w; split = refl; is_head = h.0; brings = h.1 }
bringer (w ∷ ws) r d (inr h) =
    let b = bringer ws r d h in
    record { before = w ∷ b.before; after = b.after; write = b.write; split = ap (λ xs. w ∷ xs) b.split; is_head = b.is_head; brings = b.brings }

find_split : (before after : List Write) (w : Write) (r : Revision) (e : Entry) → ¬ (IsKnown before r) → find revision_cmp r (write_entries w) ≡ Some e → find revision_cmp r (flat_map write_entries (before ++ w ∷ after)) ≡ Some e
find_split [] after w r e new f = find-append r (write_entries w) (flat_map write_entries after) ∙ ap (λ o. or o (find revision_cmp r (flat_map write_entries after))) f
find_split (v ∷ before) after w r e new f =
    find-append r (write_entries v) (flat_map write_entries (before ++ w ∷ after))
    ∙ passed (find revision_cmp r (write_entries v)) (find revision_cmp r (flat_map write_entries (before ++ w ∷ after))) (Some e)
    (λ k. new (inl (found_stands v.path (Some (held_of_write v)) r k)))
    (find_split before after w r e (λ k. new (inr k)) f)
  where
    passed : (a b c : Option Entry) → (is_some a ≡ true → ⊥) → b ≡ c → or a b ≡ c
    passed None b c not_there is = is
    passed (Some x) b c not_there is = absurd (not_there refl)

held_shown : (ws : List Write) → AreLawfulWrites ws → (r : Revision) (d : Held) → (held_of (content_of ws) r ≡ Some d) ↔ IsBrought ws r d
held_shown ws lawful r d = (there, back)
  where
    there : held_of (content_of ws) r ≡ Some d → IsBrought ws r d
    there k =
        let e = from_entry (content_of ws) r (λ (x : Entry). x.held) d k in
        let s = source ws r e.0 (sym (get-content ws r) ∙ e.1) in
        let b = held_head s.write.path (Some (held_of_write s.write)) r e.0 d s.found e.2 in
        subst (λ xs. IsBrought xs r d) s.split (brought_at s.before s.after s.write r d b.0 (inside (held_of_write s.write) d b.1))

    back : IsBrought ws r d → held_of (content_of ws) r ≡ Some d
    back k =
        let b = bringer ws r d k in
        let f = head_found b.write.path (Some (held_of_write b.write)) r b.is_head in
        let g = find_split b.before b.after b.write r f.0 (lawful.heads_new b.before b.after b.write r b.split b.is_head) f.1 in
        ap (option_and_then (λ (x : Entry). x.held)) (get-content ws r ∙ ap (λ xs. find revision_cmp r (flat_map write_entries xs)) (sym b.split) ∙ g)
        ∙ f.2 ∙ ap Some b.brings

pub shown : (ws : List Write) → AreLawfulWrites ws → Shows ws (content_of ws)
shown ws lawful = record { known = is_known_writes ws; parent = parents_shown ws lawful; held = held_shown ws lawful }
