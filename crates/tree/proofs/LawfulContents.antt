-- What the content of a lawful list of writes is like: roots, heads, chains, and that no other content shows the same.
use Rattle.std.proofs.Common.{◌≡◌, ◌⊎◌, ℕ, suc, Bool, true, false, cond, eqb-true, List, [], ◌∷◌, length, Option, Some, None, Ok, refl, sym, ap, subst, ◌∙◌, arith, inl, inr}
use Rattle.std.specs.Prelude.{is_some, option_and_then}
use Rattle.std.specs.FinMap.{get, same_map}
use Rattle.tree.specs.Revision.{Revision}
use Rattle.tree.specs.Write.{Write, counts_down, head, held_of_write, StandsIn, IsBehind, EndsWith, IsKnown, IsParent, IsBrought, IsPathEnd, AreWhole, AreLawfulWrites}
use Rattle.tree.specs.History.{HistoryContent, is_known, parent_of, held_of, content_of, Shows, IsRooted, agrees, keeps_parents, is_head_known, placement, content_after, with_write, path_from, onward, chain, ancestors_of_parent}
use Rattle.tree.specs.declared.entry.Held.{Held}
use Rattle.tree.specs.declared.entry.Entry.{Entry}
use Rattle.tree.specs.declared.placement.Placed.{Placed}
use Rattle.tree.proofs.Kept.{line_on, revision_cmp_total}
use Rattle.tree.proofs.Revisions.{revision_cmp_exact}
use Rattle.tree.proofs.RevisionText.{parts}
use Rattle.tree.proofs.Shown.{shown, is_known_writes, parent_below, root_number, entry_of_known, whole_counts, stands_found, right_some}
use Rattle.tree.proofs.Contents.{write_shows}
use Rattle.tree.proofs.Continued.{same_parent_is, keeps_where_placed}

-- ---- what every content of a lawful list is like

pub rooted : (ws : List Write) → AreLawfulWrites ws → IsRooted (content_of ws)
rooted ws lawful = record {
  parents_known = λ r p e. (is_known_writes ws p).1 (parent_below ws r p lawful.whole ((shows.parent r p).0 e)).known;
  descends = λ r p e. (parent_below ws r p lawful.whole ((shows.parent r p).0 e)).number;
  begins = λ r known up. let e = entry_of_known (content_of ws) r known in root_number ws r e.0 lawful.whole e.1 (ap (option_and_then (λ (x : Entry). x.parent)) (sym e.1) ∙ up);
}
  where
    shows : Shows ws (content_of ws)
    shows = shown ws lawful

-- a known revision is a head or stands behind another
placed_in : (path : List Revision) (r : Revision) → StandsIn path r → (head path ≡ Some r) ⊎ ((s : Revision) × IsBehind path s r)
placed_in [] r h = elim h [ ]
placed_in (s ∷ path) r (inl e) = inl (ap Some e)
placed_in (s ∷ path) r (inr h) = elim (placed_in path r h) as (λ _. (Some s ≡ Some r) ⊎ ((t : Revision) × IsBehind (s ∷ path) t r)) [ inl e ↦ inr (s, inl (refl, e)) | inr b ↦ inr (b.0, inr b.1) ]

pub head_or_parent : (ws : List Write) (r : Revision) → IsKnown ws r → ((d : Held) × IsBrought ws r d) ⊎ ((s : Revision) × IsParent ws s r)
head_or_parent [] r h = elim h [ ]
head_or_parent (w ∷ ws) r (inl h) = elim (placed_in w.path r h) as (λ _. ((d : Held) × IsBrought (w ∷ ws) r d) ⊎ ((s : Revision) × IsParent (w ∷ ws) s r)) [ inl e ↦ inl (held_of_write w, inl (e, refl)) | inr b ↦ inr (b.0, inl b.1) ]
head_or_parent (w ∷ ws) r (inr h) = elim (head_or_parent ws r h) as (λ _. ((d : Held) × IsBrought (w ∷ ws) r d) ⊎ ((s : Revision) × IsParent (w ∷ ws) s r)) [ inl e ↦ inl (e.0, inr e.1) | inr b ↦ inr (b.0, inr b.1) ]

-- ---- a path that was taken in

-- a path that keeps parents and whose head is known is known
pub all_known : (h : HistoryContent) (path : List Revision) (r : Revision) → IsRooted h → keeps_parents h path ≡ true → is_head_known h path ≡ true → StandsIn path r → is_known h r ≡ true
all_known h [] r root k known i = elim i [ ]
all_known h (s ∷ path) r root k known (inl e) = ap (is_known h) (sym e) ∙ known
all_known h (s ∷ path) r root k known (inr i) = all_known h path r root (parts _ _ k).1 (behind path r i (parts _ _ k).0) i
  where
    behind : (path : List Revision) (r : Revision) → StandsIn path r → agrees (get h s) (head path) ≡ true → is_head_known h path ≡ true
    behind [] r i a = elim i [ ]
    behind (t ∷ path) r i a =
        let e = entry_of_known h s known in
        let up : e.0.parent ≡ Some t = same_parent_is e.0.parent (Some t) (ap (λ (o : Option Entry). agrees o (Some t)) (sym e.1) ∙ a) in
        root.parents_known s t (ap (option_and_then (λ (x : Entry). x.parent)) e.1 ∙ up)

pub path_known : (ws : List Write) (w : Write) → AreLawfulWrites ws → (p : Placed) (r : Revision) → placement (content_of ws) w.path ≡ Ok p → StandsIn w.path r → is_known (content_after (content_of ws) w) r ≡ true
path_known ws w lawful p r placed i = by (is_head_known (content_of ws) w.path) refl
  where
    by : (b : Bool) → is_head_known (content_of ws) w.path ≡ b → is_known (cond b (content_of ws) (with_write (content_of ws) w)) r ≡ true
    by true known = all_known (content_of ws) w.path r (rooted ws lawful) (keeps_where_placed (content_of ws) w.path p placed) known i
    by false new = ap is_some (write_shows (content_of ws) w r) ∙ right_some (get (content_of ws) r) _ (stands_found w.path (Some (held_of_write w)) r i)

-- ---- chains

-- the end of a path is itself a path: what stands behind in it stands behind in the whole
end_behind : (path : List Revision) (r : Revision) (rest : List Revision) (s p : Revision) → EndsWith path (r ∷ rest) → IsBehind (r ∷ rest) s p → IsBehind path s p
end_behind [] r rest s p e b = let z : [] ≡ r ∷ rest = e in cc
end_behind (t ∷ path) r rest s p (inl e) b = subst (λ (xs : List Revision). IsBehind xs s p) (sym e) b
end_behind (t ∷ path) r rest s p (inr e) b = inr (end_behind path r rest s p e b)

end_counts : (path : List Revision) (r : Revision) (rest : List Revision) → counts_down path ≡ true → EndsWith path (r ∷ rest) → counts_down (r ∷ rest) ≡ true
end_counts [] r rest w e = cc
end_counts (t ∷ path) r rest w (inl e) = ap counts_down (sym e) ∙ w
end_counts (t ∷ path) r rest w (inr e) = end_counts path r rest (parts _ _ w).1 e

end_stands : (path : List Revision) (r : Revision) (rest : List Revision) → EndsWith path (r ∷ rest) → StandsIn path r
end_stands [] r rest e = cc
end_stands (t ∷ path) r rest (inl e) = inl cc
end_stands (t ∷ path) r rest (inr e) = inr (end_stands path r rest e)

-- what the end of a path among the writes tells
record IsEnd (ws : List Write) (r : Revision) (rest : List Revision) : Type 0 where
  counts : counts_down (r ∷ rest) ≡ true
  known : IsKnown ws r
  parents : (s p : Revision) → IsBehind (r ∷ rest) s p → IsParent ws s p

path_end : (ws : List Write) (r : Revision) (rest : List Revision) → AreWhole ws → IsPathEnd ws (r ∷ rest) → IsEnd ws r rest
path_end [] r rest w e = elim e [ ]
path_end (v ∷ ws) r rest w (inl e) = record { counts = end_counts v.path r rest (whole_counts v.path w.0) e; known = inl (end_stands v.path r rest e); parents = λ s p b. inl (end_behind v.path r rest s p e b) }
path_end (v ∷ ws) r rest w (inr e) = let k = path_end ws r rest w.1 e in record { counts = k.counts; known = inr k.known; parents = λ s p b. inr (k.parents s p b) }

line_is : (h : HistoryContent) (r : Revision) (rest : List Revision) → counts_down (r ∷ rest) ≡ true → is_known h r ≡ true → ((s p : Revision) → IsBehind (r ∷ rest) s p → parent_of h s ≡ Some p) → IsRooted h → ((s : Revision) → s.number ≡ 1 → parent_of h s ≡ None)
    → path_from h (length (r ∷ rest)) r ≡ r ∷ rest
line_is h r [] w known up rooted root =
    let n = eqb-true r.number 1 (parts _ _ w).0 in
    line_on h 0 r known ∙ ap (λ (o : Option Revision). r ∷ onward (λ p. path_from h 0 p) o) (root r n)
line_is h r (s ∷ rest) w known up rooted root =
    let next = up r s (inl (refl, refl)) in
    line_on h (length (s ∷ rest)) r known ∙ ap (λ (o : Option Revision). r ∷ onward (λ p. path_from h (length (s ∷ rest)) p) o) next
    ∙ ap (λ (xs : List Revision). r ∷ xs) (line_is h s rest (parts _ _ w).1 (rooted.parents_known r s next) (λ t p b. up t p (inr b)) rooted root)

pub chain_is_path : (ws : List Write) → AreLawfulWrites ws → (r : Revision) (rest : List Revision) → IsPathEnd ws (r ∷ rest) → chain (content_of ws) r ≡ Some (r ∷ rest)
chain_is_path ws lawful r rest e =
    let k = path_end ws r rest lawful.whole e in
    let known = (is_known_writes ws r).1 k.known in
    let n = eqb-true r.number (suc (length rest)) (parts _ _ k.counts).0 in
    ap (λ (b : Bool). cond b (Some (path_from (content_of ws) r.number r)) None) known
    ∙ ap (λ (n : ℕ). Some (path_from (content_of ws) n r)) n
    ∙ ap Some (line_is (content_of ws) r rest k.counts known (λ s p b. (shows.parent s p).1 (k.parents s p b)) (rooted ws lawful) root)
  where
    shows : Shows ws (content_of ws)
    shows = shown ws lawful

    root : (s : Revision) → s.number ≡ 1 → parent_of (content_of ws) s ≡ None
    root s n = by (parent_of (content_of ws) s) refl
      where
        by : (o : Option Revision) → parent_of (content_of ws) s ≡ o → o ≡ None
        by None is = refl
        by (Some p) is = let b = parent_below ws s p lawful.whole ((shows.parent s p).0 is) in absurd (omega (arith, n, b.number, b.positive))

found_inside : (b : Bool) (path found : List Revision) → cond b (Some path) None ≡ Some found → path ≡ found
found_inside true path found e = cc
found_inside false path found e = cc

-- what stands behind a write that follows a revision of a lawful history
pub behind_path : (ws : List Write) → AreLawfulWrites ws → (p : Revision) (rest : List Revision) → IsPathEnd ws (p ∷ rest) → ancestors_of_parent (content_of ws) (Some p) ≡ p ∷ rest
behind_path ws lawful p rest e = found_inside (is_known (content_of ws) p) (ancestors_of_parent (content_of ws) (Some p)) (p ∷ rest) (chain_is_path ws lawful p rest e)

-- ---- the content is the only one that shows so

pub option_same : {X : Type 0} (o p : Option X) → ((x : X) → o ≡ Some x → p ≡ Some x) → ((x : X) → p ≡ Some x → o ≡ Some x) → o ≡ p
option_same None None f g = refl
option_same None (Some y) f g = g y refl
option_same (Some x) p f g = sym (f x refl)

pub only_content : (ws : List Write) (h k : HistoryContent) → Shows ws h → Shows ws k → h ≡ k
only_content ws h k a b = same_map revision_cmp_total revision_cmp_exact h k (λ r. at r (get h r) (get k r) refl refl)
  where
    at : (r : Revision) (o p : Option Entry) → get h r ≡ o → get k r ≡ p → o ≡ p
    at r None None x y = refl
    at r None (Some e) x y =
        let known : is_known h r ≡ true = (a.known r).1 ((b.known r).0 (ap is_some y)) in
        let none : Option Entry = None in
        let z : is_some none ≡ true = ap is_some (sym x) ∙ known in cc
    at r (Some e) None x y =
        let known : is_known k r ≡ true = (b.known r).1 ((a.known r).0 (ap is_some x)) in
        let none : Option Entry = None in
        let z : is_some none ≡ true = ap is_some (sym y) ∙ known in cc
    at r (Some e) (Some f) x y =
        let ph : parent_of h r ≡ e.parent = ap (option_and_then (λ (z : Entry). z.parent)) x in
        let pk : parent_of k r ≡ f.parent = ap (option_and_then (λ (z : Entry). z.parent)) y in
        let dh : held_of h r ≡ e.held = ap (option_and_then (λ (z : Entry). z.held)) x in
        let dk : held_of k r ≡ f.held = ap (option_and_then (λ (z : Entry). z.held)) y in
        let parents : e.parent ≡ f.parent =
        option_same e.parent f.parent
        (λ p u. sym pk ∙ (b.parent r p).1 ((a.parent r p).0 (ph ∙ u)))
        (λ p u. sym ph ∙ (a.parent r p).1 ((b.parent r p).0 (pk ∙ u))) in
        let held : e.held ≡ f.held =
        option_same e.held f.held
        (λ d u. sym dk ∙ (b.held r d).1 ((a.held r d).0 (dh ∙ u)))
        (λ d u. sym dh ∙ (a.held r d).1 ((b.held r d).0 (dk ∙ u))) in
        λ i. Some (record { parent = parents i; held = held i })
