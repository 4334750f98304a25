-- What stands behind a write is known, so it changes nothing but the parent of the last revision that the write brings.
use Rattle.std.proofs.Common.{◌≡◌, ℕ, zero, suc, Bool, true, false, cond, List, [], ◌∷◌, ◌++◌, Option, Some, None, refl, sym, ap, ◌∙◌, inl, inr}
use Rattle.std.specs.Prelude.{is_some, ⊤}
use Rattle.std.specs.FinMap.{insert}
use Rattle.tree.specs.Revision.{Revision}
use Rattle.tree.specs.Write.{head, StandsIn}
use Rattle.tree.specs.History.{HistoryContent, ancestors_of_parent, chain, is_known, path_from, onward, parent_of, path_entries, with_entries, with_new}
use Rattle.tree.specs.Nodes.{entries_before, next_of}
use Rattle.tree.specs.declared.entry.Held.{Held}
use Rattle.tree.specs.declared.entry.Entry.{Entry}
use Rattle.tree.proofs.Contents.{get-with_new}
use Rattle.tree.proofs.Kept.{line_off}
use Rattle.tree.proofs.Shown.{left_some}

-- each of these is known
abbrev pub AllKnown : HistoryContent → List Revision → Type 0
AllKnown h [] = ⊤
AllKnown h (r ∷ rs) = (is_known h r ≡ true) × AllKnown h rs

line_known : (h : HistoryContent) (n : ℕ) (r : Revision) → AllKnown h (path_from h n r)
line_known h zero r = tt
line_known h (suc n) r = by (λ p. line_known h n p) (is_known h r) refl
  where
    next : ((p : Revision) → AllKnown h (path_from h n p)) → (o : Option Revision) → AllKnown h (onward (λ p. path_from h n p) o)
    next rest None = tt
    next rest (Some p) = rest p

    by : ((p : Revision) → AllKnown h (path_from h n p)) → (b : Bool) → is_known h r ≡ b → AllKnown h (cond b (r ∷ onward (λ p. path_from h n p) (parent_of h r)) [])
    by rest true known = (known, next rest (parent_of h r))
    by rest false new = tt

pub behind_known : (h : HistoryContent) (o : Option Revision) → AllKnown h (ancestors_of_parent h o)
behind_known h None = tt
behind_known h (Some p) = line_known h p.number p

among_known : (h : HistoryContent) (rs : List Revision) (r : Revision) → AllKnown h rs → StandsIn rs r → is_known h r ≡ true
among_known h [] r a i = absurd i
among_known h (s ∷ rs) r a (inl e) = ap (is_known h) (sym e) ∙ a.0
among_known h (s ∷ rs) r a (inr i) = among_known h rs r a.1 i

pub stands_known : (h : HistoryContent) (o : Option Revision) (r : Revision) → StandsIn (ancestors_of_parent h o) r → is_known h r ≡ true
stands_known h o r i = among_known h (ancestors_of_parent h o) r (behind_known h o) i

-- behind a known revision stands its path, and behind another nothing
pub behind_chain : (h : HistoryContent) (p : Revision) → is_known h p ≡ true → chain h p ≡ Some (ancestors_of_parent h (Some p))
behind_chain h p known = ap (λ b. cond b (Some (path_from h p.number p)) None) known

pub behind_unknown : (h : HistoryContent) (p : Revision) → is_known h p ≡ false → ancestors_of_parent h (Some p) ≡ []
behind_unknown h p new = line_off h p.number p new

-- ---- what is known stays known

known_after : (h : HistoryContent) (k : Revision) (e : Entry) (r : Revision) → is_known h r ≡ true → is_known (with_new h k e) r ≡ true
known_after h k e r known = ap is_some (get-with_new h k e r) ∙ left_some _ _ known

all_known_after : (h : HistoryContent) (k : Revision) (e : Entry) (rs : List Revision) → AllKnown h rs → AllKnown (with_new h k e) rs
all_known_after h k e [] a = tt
all_known_after h k e (r ∷ rs) a = (known_after h k e r a.0, all_known_after h k e rs a.1)

-- ---- what a path brings whose end is known

with_known : (h : HistoryContent) (d : Option Held) (tail : List Revision) → AllKnown h tail → with_entries h (path_entries d tail) ≡ h
with_known h d [] a = refl
with_known h d (r ∷ tail) a = ap (λ b. with_entries (cond b h (insert h r (record { parent = head tail; held = d }))) (path_entries None tail)) a.0 ∙ with_known h None tail a.1

next-append : (path tail : List Revision) → head (path ++ tail) ≡ next_of path (head tail)
next-append [] tail = refl
next-append (r ∷ path) tail = refl

pub with_followed : (h : HistoryContent) (d : Option Held) (path tail : List Revision) → AllKnown h tail → with_entries h (path_entries d (path ++ tail)) ≡ with_entries h (entries_before d path (head tail))
with_followed h d [] tail a = with_known h d tail a
with_followed h d (r ∷ path) tail a =
    ap (λ (o : Option Revision). with_entries (with_new h r (record { parent = o; held = d })) (path_entries None (path ++ tail))) (next-append path tail)
    ∙ with_followed (with_new h r (record { parent = next_of path (head tail); held = d })) None path tail (all_known_after h r (record { parent = next_of path (head tail); held = d }) tail a)
